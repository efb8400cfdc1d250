-- An index block once a range was cut out of the trees below all its entries.
use Rattle.std.proofs.Common.{◌≡◌, ◌≢◌, ◌+◌, ◌<◌, ◌≤◌, ℕ, suc, false, List, [], ◌∷◌, ◌++◌, length, Some}
use Rattle.std.proofs.Common.{Bool, true, inl, inr, refl, sym, ap, ◌∙◌, subst, arith, append-nil}
use Rattle.std.specs.Prelude.{nat_eq, IsTrue}
use Rattle.std.specs.List.{AllByRecursion}
use Rattle.std.proofs.lemmas.Bool.{cases_lt, eq-eqb, or_left}
use Rattle.gds_block.specs.Fields.{u32_at}
use Rattle.gds_block.specs.Item.{Item}
use Rattle.gds_header.specs.declared.header.Header.{Header}
use Rattle.gds_header.specs.Fields.{fields_of}
use Rattle.gds_law.specs.Visit.{Visit}
use Rattle.gds_pack.specs.Packed.{packed_size}
use Rattle.gds_sound.specs.Sound.{Tree}
use Rattle.gds_sound.proofs.CountLemmas.{count, count_append}
use Rattle.gds_sound.proofs.PathLemmas.{any_counted, counted_any, counts_from_distinct, distinct_from_counts}
use Rattle.gds_split.specs.Pieces.{starred}
use Rattle.gds_tree.specs.Below.{HasEntries, index_tree, trees_below}
use Rattle.gds_tree.specs.Keeps.{IsImage}
use Rattle.gds_tree.specs.Lawful.{IsLawfulEntry, IsTreeNumber}
use Rattle.gds_tree.specs.Lawful as entries
use Rattle.gds_tree.specs.RightBlock.{IsDueLevel}
use Rattle.gds_tree.proofs.BelowLemmas.{all_right}
use Rattle.gds_tree.proofs.FaultlessLemmas.{written_entries}
use Rattle.gds_tree.proofs.KeepLemmas.{entries_kept, index_reach, lawful_kept, pointers, same_limits}
use Rattle.gds_tree.proofs.PartLemmas.{lawful_index, numbered}
use Rattle.gds_tree.proofs.ReplaceLemmas.{forest_grown}
use Rattle.gds_tree.proofs.TreeByLemmas.{index_by}
use Rattle.gds_ancestors.proofs.StarLemmas.{star_trees}
use Rattle.gds_file.specs.Maps.{has_block}
use Rattle.gds_file.specs.Rewrite.{AreNoMaps}
use Rattle.gds_splice.proofs.CountedLemmas.{at_has, counted_none, has_same, none_counted, same_one}
use Rattle.gds_splice.proofs.ImageLemmas.{image_of, sizes_of}
use Rattle.gds_splice.proofs.DividedLemmas.{had_some}
use Rattle.gds_splice.specs.Divided.{MayPut}
use Rattle.gds_splice.specs.Writing.{PutsEntries}
use Rattle.gds_remove.specs.Child.{PutsKept}
use Rattle.gds_remove.specs.Cut.{HasCut, Leaves, LeavesNone, LeavesTree, StandsBelow}
use Rattle.gds_remove.specs.Range.{Left, Range, left_by}
use Rattle.gds_remove.proofs.KeptLemmas.{AreKept, IsEnded, ended, ends_with, nothing, starred_behind}
use Rattle.gds_remove.proofs.LeavesLemmas.{leaves_compose, leaves_in_any_order, leaves_with_more, leaves_written}
use Rattle.gds_remove.proofs.LeavesLemmas.{left_are_busy}
use Rattle.gds_remove.proofs.BoundLemmas.{each_on, kept_by}
use Rattle.gds_remove.proofs.SoFarLemmas.{CutSoFar}

-- ---- entries that are kept

pointers_within : (h : Header) (total : ℕ) (v : Visit) (level : ℕ) (es : List Item) → h.total ≤ total
    → AllByRecursion (IsLawfulEntry h v (suc level)) es → AllByRecursion (λ (e : Item). u32_at e.rest 0 < total) es
pointers_within h total v level [] more l = tt
pointers_within h total v level (e ∷ es) more l =
    let within = (pointers h v v.role level e.rest l.0.rest).leads.within in
    (omega (arith, within, more), pointers_within h total v level es more l.1)

no_tree : Tree
no_tree = record { blocks = []; items = [] }

module _ (before now : List ℕ) (v : Visit) (level : ℕ) (t : Tree) (range : Range) (es kept : List Item) (left : Left)
    (s : StandsBelow before v (suc level) t) (c : CutSoFar before now v level t range es kept [] left) where
  nothing_behind : c.behind ≡ record { blocks = []; items = [] }
  nothing_behind = let is : Some (record { blocks = []; items = [] }) ≡ Some c.behind = c.still in cc

  items : t.items ≡ c.was.items
  items =
      ap (λ (x : Tree). x.items) c.whole ∙ ap (λ (x : Tree). c.was.items ++ x.items) nothing_behind
      ∙ append-nil c.was.items

  blocks : t.blocks ≡ v.block ∷ c.was.blocks
  blocks =
      ap (λ (x : Tree). x.blocks) c.whole
      ∙ ap (λ (x : Tree). v.block ∷ (c.was.blocks ++ x.blocks)) nothing_behind
      ∙ ap (λ ns. v.block ∷ ns) (append-nil c.was.blocks)

  counted : (n : ℕ) → count n (v.block ∷ []) + count n c.was.blocks ≤ 1
  counted n = omega (arith, counts_from_distinct t.blocks s.distinct n, ap (count n) blocks)

  proper : AreNoMaps t.blocks
  proper n there =
      (at_has (IsTreeNumber (fields_of before).total) t.blocks n
      (numbered before (image_of before s.maps) (suc level) v t s.number s.sound) there).no_map

  own_in : (n : ℕ) → IsTrue (has_block (v.block ∷ []) n) → IsTrue (has_block t.blocks n)
  own_in n there =
      counted_any n t.blocks (omega (arith, ap (count n) blocks, any_counted n (v.block ∷ []) there))

  own_apart : (n : ℕ) → IsTrue (has_block (v.block ∷ []) n) → has_block c.was.blocks n ≡ false
  own_apart n there = none_counted c.was.blocks n (omega (arith, counted n, any_counted n (v.block ∷ []) there))

  tree_apart : (n : ℕ) → IsTrue (has_block c.tree.blocks n) → has_block (v.block ∷ []) n ≡ false
  tree_apart n there =
      none_counted (v.block ∷ []) n (omega (arith, counted n, any_counted n c.was.blocks (c.leaves.within n there)))

  once : (n : ℕ) → count n (v.block ∷ c.tree.blocks) ≤ 1
  once n = elim (cases_lt 0 (count n c.tree.blocks)) [
    | inl some ↦ omega (
      arith,
      c.once n,
      counted_none (v.block ∷ []) n (tree_apart n (counted_any n c.tree.blocks some)),
    )
    | inr few ↦ omega (arith, few, counted n)
  ]

  top : Leaves before now t.blocks (v.block ∷ c.tree.blocks)
  top =
      leaves_in_any_order before now (c.was.blocks ++ v.block ∷ []) (c.tree.blocks ++ v.block ∷ []) t.blocks
      (v.block ∷ c.tree.blocks)
      (leaves_with_more before now c.was.blocks c.tree.blocks (v.block ∷ []) c.leaves
      (λ n there. s.busy n (own_in n there)) own_apart)
      (has_same (c.was.blocks ++ v.block ∷ []) t.blocks
      (λ n. omega (arith, ap (count n) blocks, count_append n c.was.blocks (v.block ∷ []))))
      (has_same (c.tree.blocks ++ v.block ∷ []) (v.block ∷ c.tree.blocks)
      (λ n. omega (arith, count_append n c.tree.blocks (v.block ∷ []))))

  -- ---- the block

  i : IsImage before
  i = image_of before s.maps

  j : IsImage now
  j = image_of now c.leaves.lawful

  within_now : v.block < (fields_of now).total
  within_now = omega (arith, s.number.within, c.leaves.reshapes.limits.total)

  -- The block itself has its entries still, until it is written.
  pub block_stays : HasEntries now v (suc level) es
  block_stays =
      let had : HasEntries before v (suc level) es = subst (HasEntries before v (suc level)) (append-nil es) c.has in
      let own : IsTrue (has_block (v.block ∷ []) v.block) =
      or_left (nat_eq v.block v.block) false (eq-eqb v.block v.block refl) in
      entries_kept before now i j (sizes_of before now c.leaves.reshapes.limits) v (suc level) es had within_now
      (c.leaves.reshapes.stays v.block (proper v.block (own_in v.block own)) (s.busy v.block (own_in v.block own))
      (own_apart v.block own))
      (index_reach (fields_of now).total v.role level es
      (pointers_within (fields_of before) (fields_of now).total v level es c.leaves.reshapes.limits.total
      (lawful_index before v (suc level) es had)))

  -- ---- nothing is left

  pub none_kept : kept ≡ [] → LeavesNone before now t range (v.block ∷ [])
  none_kept empty =
      let is : Some (record { blocks = []; items = [] }) ≡ Some c.tree =
      ap (trees_below now v level v.low) (sym empty) ∙ c.tree_is in
      let same : record { blocks = []; items = [] } ≡ c.tree = cc in
      record {
        none = ap (left_by range) items ∙ sym c.items_are ∙ ap (λ (x : Tree). x.items) (sym same);
        leaves = subst (λ (x : Tree). Leaves before now t.blocks (v.block ∷ x.blocks)) (sym same) top;
      }

  -- ---- something is left

  items_left : c.tree.items ≡ left_by range t.items
  items_left = c.items_are ∙ ap (left_by range) (sym items)

  module _ (any : kept ≢ []) where
    some_left : left_by range t.items ≢ []
    some_left = subst (λ xs. xs ≢ []) items_left (c.some any)

    lawful_star : entries.IsLawful (fields_of before) v (suc level) (starred kept)
        × (packed_size (starred kept) ≤ packed_size es)
    lawful_star = by (append-nil kept) (append-nil es) c.are_kept
      where
        by : kept ++ [] ≡ kept → es ++ [] ≡ es
            → AreKept (fields_of before) v level (packed_size (es ++ [])) (kept ++ [])
            → entries.IsLawful (fields_of before) v (suc level) (starred kept)
            × (packed_size (starred kept) ≤ packed_size es)
        by same whole (inl none) = absurd (any (sym same ∙ none))
        by same whole (inr l) = (
          subst (λ xs. entries.IsLawful (fields_of before) v (suc level) (starred xs)) same l.0,
          omega (arith, l.1, ap (λ xs. packed_size (starred xs)) same, ap packed_size whole),
        )

    pub may_put : MayPut (fields_of before) (suc level) (starred kept)
    may_put = record {
      packable = lawful_star.0.packable;
      fits = omega (arith, lawful_star.1, c.has.right.head.fits, ap packed_size (append-nil es));
    }

    -- All are kept, and the block stays.
    pub all_kept : length es ≤ length kept → LeavesTree before now v (suc level) t range
    all_kept long =
        let same : kept ≡ es = c.all (omega (arith, c.few, long)) in
        record {
          tree = index_tree v c.tree;
          sound = index_by now v level kept c.tree j (subst (HasEntries now v (suc level)) (sym same) block_stays)
              c.tree_is;
          distinct = distinct_from_counts (v.block ∷ c.tree.blocks) once;
          items_are = items_left;
          some = some_left;
          leaves = top;
        }

    -- Some went, and the block is written.
    module _ (after : List ℕ) (put : PutsEntries now after v.block (suc level) (starred kept)) where
      proper_own : AreNoMaps (v.block ∷ [])
      proper_own n there = proper n (own_in n there)

      written : Leaves now after (v.block ∷ c.tree.blocks) (v.block ∷ c.tree.blocks)
      written =
          leaves_written now after (v.block ∷ []) (v.block ∷ c.tree.blocks) put.rewrites proper_own
          (λ n there. or_left (nat_eq n v.block) (has_block c.tree.blocks n)
          (eq-eqb n v.block (same_one n v.block there)))
          (left_are_busy before now t.blocks (v.block ∷ c.tree.blocks) top s.busy
          (λ n there. proper n (top.within n there))) c.leaves.lawful

      k : IsImage after
      k = image_of after written.lawful

      has_after : HasEntries after v (suc level) (starred kept)
      has_after =
          let first = c.leaves.reshapes.limits in
          let second = written.reshapes.limits in
          let there = lawful_kept (fields_of before) (fields_of now) v (suc level) (starred kept)
          (same_limits before now i j (sizes_of before now first)) first.total lawful_star.0 in
          written_entries after v (suc level) 0 (starred kept) k (omega (arith, within_now, second.total)) put.bytes
          (lawful_kept (fields_of now) (fields_of after) v (suc level) (starred kept)
          (same_limits now after j k (sizes_of now after second)) second.total there) put.fits
          (subst (IsDueLevel v.level) c.has.level c.has.right.head.level)
          (omega (arith, had_some now c.leaves.lawful, second.tn))
          (omega arith)

      stays : trees_below after v level v.low kept ≡ Some c.tree
      stays =
          forest_grown now after v level v.low kept c.tree j k (sizes_of now after written.reshapes.limits)
          written.reshapes.limits.total
          (each_on (fields_of before) (fields_of now) v level kept c.leaves.reshapes.limits c.each_kept) c.tree_is
          (kept_by now after c.tree.blocks (λ n there. put.rewrites.others n (tree_apart n there)))

      starred_trees : IsEnded kept → trees_below after v level v.low (starred kept) ≡ Some c.tree
      starred_trees (nothing empty) = absurd (any empty)
      starred_trees (ends_with front last is) =
          let each_after = each_on (fields_of now) (fields_of after) v level kept written.reshapes.limits
          (each_on (fields_of before) (fields_of now) v level kept c.leaves.reshapes.limits c.each_kept) in
          let entry = all_right (IsLawfulEntry (fields_of after) v (suc level)) front (last ∷ [])
          (subst (AllByRecursion (IsLawfulEntry (fields_of after) v (suc level))) is each_after) in
          ap (trees_below after v level v.low) (ap starred is ∙ starred_behind front last [])
          ∙ star_trees after v level v.low front last c.tree k entry.0
          (ap (trees_below after v level v.low) (sym is) ∙ stays)

      pub some_kept : LeavesTree before after v (suc level) t range
      some_kept = record {
        tree = index_tree v c.tree;
        sound = index_by after v level (starred kept) c.tree k has_after (starred_trees (ended kept));
        distinct = distinct_from_counts (v.block ∷ c.tree.blocks) once;
        items_are = items_left;
        some = some_left;
        leaves = leaves_compose before now after t.blocks (v.block ∷ c.tree.blocks) (v.block ∷ c.tree.blocks) top
            written;
      }

-- What becomes of the tree where the block gets the entries that are kept, or stays.
pub at_end : (before now after : List ℕ) (v : Visit) (level : ℕ) (t : Tree) (range : Range) (done kept : List Item)
    (left : Left) (count : ℕ) (empty : Bool) → StandsBelow before v (suc level) t
    → CutSoFar before now v level t range done kept [] left → length done ≡ count
    → PutsKept v.block (suc level) count kept empty now after → HasCut before after v (suc level) t range empty
at_end before now after v level t range done kept left count true s c long put =
    subst (λ file. LeavesNone before file t range (v.block ∷ [])) (sym put.1)
    (none_kept before now v level t range done kept left s c put.0)
at_end before now after v level t range done kept left count false s c long put =
    elim (cases_lt (length kept) count) [
      | inl less ↦ some_kept before now v level t range done kept left s c put.0 after (put.1 less)
      | inr more ↦ subst (λ file. LeavesTree before file v (suc level) t range) (sym (put.2 more))
          (all_kept before now v level t range done kept left s c put.0 (omega (arith, long, more)))
    ]
