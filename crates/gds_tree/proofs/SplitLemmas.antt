-- An index block in two pieces, and a root that is split.
use Rattle.std.proofs.Common.{◌≡◌, ℕ, suc, ◌≤◌, List, [], ◌∷◌, ◌++◌, drop, Some, refl, sym, ap, subst}
use Rattle.std.proofs.Common.{◌∙◌, append_assoc}
use Rattle.std.specs.List.{AllByRecursion}
use Rattle.gds_block.specs.Item.{Item}
use Rattle.gds_header.specs.Fields.{fields_of, block_of}
use Rattle.gds_law.specs.Visit.{Visit}
use Rattle.gds_pack.specs.Packable.{AreIndex}
use Rattle.gds_pack.specs.Unpacked.{entries_of}
use Rattle.gds_sound.specs.Sound.{Tree, joined, sound_tree}
use Rattle.m_key.specs.KeyEnd.{IsKey}
use Rattle.gds_tree.specs.Lawful.{IsLawfulEntry}
use Rattle.gds_tree.specs.Below.{as_star, high_below, low_behind, visit_below, both, trees_below, HasEntries}
use Rattle.gds_tree.specs.Below.{index_tree}
use Rattle.gds_tree.specs.Keeps.{IsImage, KeepsSizes, KeepsBlocks}
use Rattle.gds_tree.specs.Split.{PartsAt, InTwoPieces}
use Rattle.gds_tree.proofs.AroundLemmas.{kept_left, kept_right}
use Rattle.gds_tree.proofs.FineLemmas.{some_key}
use Rattle.gds_tree.proofs.BelowLemmas.{all_left, all_right, both_parts, some_both, below_append, low_append}
use Rattle.gds_tree.proofs.BelowLemmas.{joined_none}
use Rattle.gds_tree.proofs.PartLemmas.{lawful_index}
use Rattle.gds_tree.proofs.ItemLemmas.{packable}
use Rattle.gds_tree.proofs.ReplaceLemmas.{forest_grown}
use Rattle.gds_tree.proofs.RootLemmas.{same_entries, same_below, high_key, front_below}
use Rattle.gds_tree.proofs.TreeByLemmas.{index_by, by_index}

-- ---- the two pieces

-- the key of an entry that isn't the last is a whole one
inner_key : (previous : List ℕ) (a : List Item) (m f : Item) (b : List Item) → AreIndex previous (a ++ m ∷ f ∷ b)
    → IsKey m.key
inner_key previous [] m f b index = index.0.is_key
inner_key previous (e ∷ []) m f b index = inner_key e.key [] m f b index.2
inner_key previous (e ∷ g ∷ a) m f b index = inner_key e.key (g ∷ a) m f b index.2

module _ (old new : List ℕ) (v : Visit) (level : ℕ) (a : List Item) (m f : Item) (b : List Item) (t : Tree)
    (i : IsImage old) (j : IsImage new) (sizes : KeepsSizes old new)
    (more : (fields_of old).total ≤ (fields_of new).total) (has : HasEntries old v (suc level) (a ++ m ∷ f ∷ b))
    (h : sound_tree old (suc level) v ≡ Some t) (kept : KeepsBlocks old new (drop 1 t.blocks)) where
  abbrev es : List Item
  es = a ++ m ∷ f ∷ b

  abbrev front : List Item
  front = a ++ m ∷ []

  regrouped : front ++ f ∷ b ≡ es
  regrouped = append_assoc a (m ∷ []) (f ∷ b)

  lawful : AllByRecursion (IsLawfulEntry (fields_of old) v (suc level)) (front ++ f ∷ b)
  lawful =
      subst (AllByRecursion (IsLawfulEntry (fields_of old) v (suc level))) (sym regrouped)
      (lawful_index old v (suc level) es has)

  record Parted : Type 0 where
    before : Tree
    behind : Tree
    whole : t ≡ index_tree v (joined before behind)
    here : trees_below new v level v.low front ≡ Some before
    later : trees_below new v level (Some m.key) (f ∷ b) ≡ Some behind

  parted : Parted
  parted =
      let x = by_index old v level t i has.there h in
      let same = same_entries x.es es (entries_of (block_of old v.block)) x.has.right.found has.right.found in
      let trees =
      sym (below_append old v level v.low front (f ∷ b))
      ∙ ap (trees_below old v level v.low) (regrouped ∙ sym same) ∙ x.trees in
      let p = both_parts (trees_below old v level v.low front)
      (trees_below old v level (low_behind v.low front) (f ∷ b))
      x.below trees in
      let low : low_behind v.low front ≡ Some m.key = low_append v.low a (m ∷ []) in
      let whole : t ≡ index_tree v (joined p.first p.second) = x.is ∙ ap (index_tree v) p.is in
      let stays : KeepsBlocks old new (p.first.blocks ++ p.second.blocks) =
      subst (KeepsBlocks old new) (ap (λ (w : Tree). drop 1 w.blocks) whole) kept in
      record {
        before = p.first;
        behind = p.second;
        whole = whole;
        here = forest_grown old new v level v.low front p.first i j sizes more
            (all_left (IsLawfulEntry (fields_of old) v (suc level)) front (f ∷ b) lawful) p.here
            (kept_left old new p.first.blocks p.second.blocks stays);
        later = ap (λ low. trees_below new v level low (f ∷ b)) (sym low)
            ∙ forest_grown old new v level (low_behind v.low front) (f ∷ b) p.second i j sizes more
            (all_right (IsLawfulEntry (fields_of old) v (suc level)) front (f ∷ b) lawful) p.later
            (kept_right old new p.first.blocks p.second.blocks stays);
      }

  module _ (left right : Visit) (parts : PartsAt v m.key left right)
      (first : HasEntries new left (suc level) (a ++ as_star m ∷ []))
      (last : HasEntries new right (suc level) (f ∷ b)) where
    pub split_block : InTwoPieces new v level left right t
    split_block =
        let p = parted in
        let some = some_key m.key (inner_key [] a m f b (packable old i v (suc level) es has)) in
        record {
          before = p.before;
          behind = p.behind;
          whole = p.whole;
          first = index_by new left level (a ++ as_star m ∷ []) p.before j first
              (ap (λ low. trees_below new left level low (a ++ as_star m ∷ [])) parts.left_low
              ∙ front_below new v left level [] v.low a m parts.left_role parts.left_high some
              (packable new j left (suc level) (a ++ as_star m ∷ []) first) ∙ p.here);
          last = index_by new right level (f ∷ b) p.behind j last
              (ap (λ low. trees_below new right level low (f ∷ b)) parts.right_low
              ∙ same_below new right v level (Some m.key) (f ∷ b) parts.right_role parts.right_high ∙ p.later);
        }

  -- ---- a root with two children, which are the pieces

  module _ (p q : Item) (key : p.key ≡ m.key)
      (now : HasEntries new v (suc (suc level)) (p ∷ q ∷ []))
      (first : HasEntries new (visit_below v (suc level) v.low p) (suc level) (a ++ as_star m ∷ []))
      (last : HasEntries new (visit_below v (suc level) (Some p.key) q) (suc level) (f ∷ b)) where
    pub split_root : (before behind : Tree) × (t ≡ index_tree v (joined before behind))
        × (sound_tree new (suc (suc level)) v ≡ Some (index_tree v
        (joined (index_tree (visit_below v (suc level) v.low p) before)
        (index_tree (visit_below v (suc level) (Some p.key) q) behind))))
    split_root =
        let l : Visit = visit_below v (suc level) v.low p in
        let r : Visit = visit_below v (suc level) (Some p.key) q in
        let index : AreIndex [] (p ∷ q ∷ []) = packable new j v (suc (suc level)) (p ∷ q ∷ []) now in
        let high = high_key v.high p.key (some_key p.key index.0.is_key) in
        let two = split_block l r (record {
          left_role = refl;
          left_low = refl;
          left_high = high ∙ ap (λ k. Some k) key;
          right_role = refl;
          right_low = ap (λ k. Some k) key;
          right_high = ap (high_below v.high) index.2.0;
        }) first last in
        let x : Tree = index_tree l two.before in
        let y : Tree = index_tree r two.behind in
        let trees = some_both (sound_tree new (suc level) l)
        (both (sound_tree new (suc level) r) (Some (record { blocks = []; items = [] }))) x
        (joined y (record { blocks = []; items = [] })) two.first
        (some_both (sound_tree new (suc level) r) (Some (record { blocks = []; items = [] })) y
        (record { blocks = []; items = [] }) two.last refl) in (
          two.before,
          two.behind,
          two.whole,
          index_by new v (suc level) (p ∷ q ∷ []) (joined x y) j now
              (trees ∙ ap (λ w. Some (joined x w)) (joined_none y)),
        )
