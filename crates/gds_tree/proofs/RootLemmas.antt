-- A root that is collapsed, and the trees below entries at other visits.
use Rattle.std.proofs.Common.{◌≡◌, ℕ, suc, ◌≤◌, List, [], ◌∷◌, ◌++◌, drop, Option, Some, refl, sym, ap, subst}
use Rattle.std.proofs.Common.{◌∙◌}
use Rattle.gds_block.specs.Fields.{u32_at}
use Rattle.gds_block.specs.Item.{Item}
use Rattle.gds_header.specs.Fields.{fields_of, block_of}
use Rattle.gds_law.specs.Visit.{Visit}
use Rattle.gds_pack.specs.Packable.{AreIndex}
use Rattle.gds_pack.specs.Unpacked.{entries_of}
use Rattle.gds_sound.specs.Sound.{Tree, joined, sound_tree}
use Rattle.gds_tree.specs.Below.{as_star, high_below, visit_below, both, trees_below, HasEntries, index_tree}
use Rattle.gds_tree.specs.Keeps.{IsImage, KeepsSizes, KeepsBlocks}
use Rattle.gds_tree.proofs.FineLemmas.{some_key}
use Rattle.gds_tree.proofs.BelowLemmas.{both_parts, joined_none}
use Rattle.gds_tree.proofs.KeepLemmas.{pointers}
use Rattle.gds_tree.proofs.PartLemmas.{lawful_index}
use Rattle.gds_tree.proofs.ItemLemmas.{packable}
use Rattle.gds_tree.proofs.ReplaceLemmas.{forest_grown}
use Rattle.gds_tree.proofs.TreeByLemmas.{index_by, by_index}

-- ---- other visits of one role and one upper bound

pub same_below : (image : List ℕ) (v w : Visit) (level : ℕ) (low : Option (List ℕ)) (es : List Item) → v.role ≡ w.role
    → v.high ≡ w.high → trees_below image v level low es ≡ trees_below image w level low es
same_below image v w level low [] role high = refl
same_below image v w level low (e ∷ es) role high = λ i.
    both (sound_tree image level (record {
      block = u32_at e.rest 0;
      role = role i;
      level = Some level;
      low = low;
      high = high_below (high i) e.key;
    })) (same_below image v w level (Some e.key) es role high i)

pub high_key : (high : Option (List ℕ)) (key : List ℕ) → (key ≡ [] → ⊥) → high_below high key ≡ Some key
high_key high [] some = absurd (some refl)
high_key high (k ∷ key) some = refl

front_more : (image : List ℕ) (v l : Visit) (level : ℕ) (low : Option (List ℕ)) (e : Item) → l.role ≡ v.role
    → (e.key ≡ [] → ⊥) → {a b : Option Tree} → a ≡ b
    → both (sound_tree image level (visit_below l level low e)) a
    ≡ both (sound_tree image level (visit_below v level low e)) b
front_more image v l level low e role some h = λ i.
    both (sound_tree image level (record {
      block = u32_at e.rest 0;
      role = role i;
      level = Some level;
      low = low;
      high = (high_key l.high e.key some ∙ sym (high_key v.high e.key some)) i;
    })) (h i)

-- The trees are the same below the front of the entries of an index block in a block of its own.
pub front_below : (image : List ℕ) (v l : Visit) (level : ℕ) (previous : List ℕ) (low : Option (List ℕ)) (r : List Item)
    (m : Item) → l.role ≡ v.role → l.high ≡ Some m.key → (m.key ≡ [] → ⊥)
    → AreIndex previous (r ++ as_star m ∷ [])
    → trees_below image l level low (r ++ as_star m ∷ []) ≡ trees_below image v level low (r ++ m ∷ [])
front_below image v l level previous low [] m role high some index = λ i.
    both (sound_tree image level (record {
      block = u32_at m.rest 0;
      role = role i;
      level = Some level;
      low = low;
      high = (high ∙ sym (high_key v.high m.key some)) i;
    })) (Some (record { blocks = []; items = [] }))
front_below image v l level previous low (e ∷ []) m role high some index =
    front_more image v l level low e role (some_key e.key index.0.is_key)
    (front_below image v l level e.key (Some e.key) [] m role high some index.2)
front_below image v l level previous low (e ∷ f ∷ r) m role high some index =
    front_more image v l level low e role (some_key e.key index.0.is_key)
    (front_below image v l level e.key (Some e.key) (f ∷ r) m role high some index.2)

-- ---- a root that takes its child's content

pub same_entries : (es fs : List Item) (o : Option (List Item)) → o ≡ Some es → o ≡ Some fs → es ≡ fs
same_entries es fs o e f = cc

module _ (old new : List ℕ) (v : Visit) (level : ℕ) (e : Item) (es : List Item) (t : Tree) (i : IsImage old)
    (j : IsImage new) (sizes : KeepsSizes old new) (more : (fields_of old).total ≤ (fields_of new).total)
    (has : HasEntries old v (suc (suc level)) (e ∷ [])) (h : sound_tree old (suc (suc level)) v ≡ Some t)
    (found : entries_of (block_of old (u32_at e.rest 0)) ≡ Some es) (now : HasEntries new v (suc level) es)
    (kept : KeepsBlocks old new (drop 2 t.blocks)) where
  -- the child's tree is all that stands below the root
  record OnlyChild : Type 0 where
    tree : Tree
    sound : sound_tree old (suc level) (visit_below v (suc level) v.low e) ≡ Some tree
    whole : t ≡ index_tree v tree

  only_child : OnlyChild
  only_child =
      let x = by_index old v (suc level) t i has.there h in
      let same = same_entries x.es (e ∷ []) (entries_of (block_of old v.block)) x.has.right.found has.right.found in
      let trees = ap (trees_below old v (suc level) v.low) (sym same) ∙ x.trees in
      let p = both_parts (sound_tree old (suc level) (visit_below v (suc level) v.low e))
      (Some (record { blocks = []; items = [] })) x.below trees in
      let none : record { blocks = []; items = [] } ≡ p.second = cc (p.later) in
      record {
        tree = p.first;
        sound = p.here;
        whole = x.is ∙ ap (index_tree v) (p.is ∙ ap (joined p.first) (sym none) ∙ joined_none p.first);
      }

  pub collapsed : sound_tree new (suc level) v ≡ Some (record { blocks = v.block ∷ drop 2 t.blocks; items = t.items })
  collapsed =
      let o = only_child in
      let c : Visit = visit_below v (suc level) v.low e in
      let lawful = lawful_index old v (suc (suc level)) (e ∷ []) has in
      let pointer = pointers (fields_of old) v v.role (suc level) e.rest lawful.0.rest in
      let y = by_index old c level o.tree i pointer.leads.within o.sound in
      let same = same_entries y.es es (entries_of (block_of old c.block)) y.has.right.found found in
      let index : AreIndex [] (e ∷ []) = packable old i v (suc (suc level)) (e ∷ []) has in
      let blocks : drop 2 t.blocks ≡ y.below.blocks =
      ap (λ (w : Tree). drop 2 w.blocks) (o.whole ∙ ap (index_tree v) y.is) in
      let items : t.items ≡ y.below.items = ap (λ (w : Tree). w.items) (o.whole ∙ ap (index_tree v) y.is) in
      let grown = forest_grown old new c level c.low y.es y.below i j sizes more
      (lawful_index old c (suc level) y.es y.has) y.trees (subst (KeepsBlocks old new) blocks kept) in
      index_by new v level es y.below j now
      (sym (same_below new c v level v.low es refl (ap (high_below v.high) index.0))
      ∙ ap (trees_below new c level v.low) (sym same) ∙ grown)
      ∙ sym (λ k. Some (record { blocks = v.block ∷ blocks k; items = items k }))
