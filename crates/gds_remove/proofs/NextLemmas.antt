-- A range that is cut out of the tree below the next entry.
use Rattle.std.proofs.Common.{◌≡◌, ◌≢◌, ◌+◌, ◌≤◌, ℕ, suc, Bool, true, false, not, List, [], ◌∷◌, ◌++◌, length}
use Rattle.std.proofs.Common.{Option, Some, inl, inr, refl, sym, ap, ◌∙◌, subst, arith, append_assoc, append-nil}
use Rattle.std.specs.Prelude.{IsTrue, if◌then◌else◌}
use Rattle.std.specs.List.{AllByRecursion}
use Rattle.std.proofs.lemmas.Bool.{cases_lt, false_from_ne_true, false≢true}
use Rattle.std.proofs.lemmas.List.{length-append}
use Rattle.std.proofs.lemmas.List.Elements.{filter-append}
use Rattle.gds_block.specs.Item.{Item}
use Rattle.gds_header.specs.Fields.{fields_of}
use Rattle.gds_law.specs.Visit.{Visit}
use Rattle.gds_pack.specs.Packable.{AreIndex}
use Rattle.gds_pack.specs.Packed.{packed_size}
use Rattle.gds_sound.specs.Sound.{Tree, joined, sound_tree}
use Rattle.gds_sound.proofs.CountLemmas.{count, count_append}
use Rattle.gds_sound.proofs.PathLemmas.{any_counted, counted_any, counts_from_distinct, distinct_from_counts}
use Rattle.gds_tree.specs.Below.{HasEntries, high_below, index_tree, low_behind, trees_below, visit_below}
use Rattle.gds_tree.specs.Keeps.{IsImage, IsLowerLow, IsWider}
use Rattle.gds_tree.specs.Lawful.{IsAboveLow, IsLawfulEntry, IsLawfulRest, IsPointer, IsTreeNumber}
use Rattle.gds_tree.specs.Lawful as entries
use Rattle.gds_tree.proofs.BelowLemmas.{AreBoth, all_both, all_right, below_append, both_parts, joined_assoc}
use Rattle.gds_tree.proofs.BelowLemmas.{joined_none}
use Rattle.gds_tree.proofs.BelowLemmas.{low_append, some_both}
use Rattle.gds_tree.proofs.FineLemmas.{some_key}
use Rattle.gds_tree.proofs.ItemLemmas.{LowBelow, first_low}
use Rattle.gds_tree.proofs.KeepLemmas.{pointers}
use Rattle.gds_tree.proofs.LawfulLemmas.{each}
use Rattle.gds_tree.proofs.ListLemmas.{index_front}
use Rattle.gds_tree.proofs.PartLemmas.{lawful_at, numbered}
use Rattle.gds_tree.proofs.ReplaceLemmas.{forest_grown}
use Rattle.gds_tree.proofs.WidenLemmas.{most_same, widened}
use Rattle.gds_file.specs.Maps.{has_block}
use Rattle.gds_file.specs.Rewrite.{AreAllBusy, AreNoMaps}
use Rattle.gds_splice.proofs.CountedLemmas.{at_has, counted_none, has_same, none_counted}
use Rattle.gds_splice.proofs.ImageLemmas.{image_of, sizes_of}
use Rattle.gds_splice.proofs.WritingLemmas.{number_grown}
use Rattle.gds_remove.specs.Child.{CannotPrune, MayPrune, PrunesChild}
use Rattle.gds_remove.specs.Cut.{Leaves, LeavesTree, StandsBelow}
use Rattle.gds_remove.specs.Range.{IsLeft, Left, Range, StaysLeft, is_in, left_by}
use Rattle.gds_remove.proofs.KeptLemmas.{AreKept, one_less}
use Rattle.gds_remove.proofs.LeavesLemmas.{leaves_compose, leaves_in_any_order, leaves_with_more}
use Rattle.gds_remove.proofs.LeavesLemmas.{left_are_busy, others_stay_busy}
use Rattle.gds_remove.proofs.BoundLemmas.{above_behind, above_first, append_none, each_on, high_same, kept_by}
use Rattle.gds_remove.proofs.BoundLemmas.{lower_above, lower_lower}
use Rattle.gds_remove.proofs.SoFarLemmas.{CutSoFar, none}

-- ---- the next entry

module _ (before mid : List ℕ) (v : Visit) (level : ℕ) (t : Tree) (range : Range) (done kept : List Item) (e : Item)
    (rest : List Item) (left : Left) (s : StandsBelow before v (suc level) t)
    (c : CutSoFar before mid v level t range done kept (e ∷ rest) left) where
  abbrev from : Option (List ℕ)
  from = low_behind v.low done

  abbrev child : Visit
  child = visit_below v level from e

  pub two : AreBoth (sound_tree mid level child) (trees_below mid v level (Some e.key) rest) c.behind
  two = both_parts (sound_tree mid level child) (trees_below mid v level (Some e.key) rest) c.behind c.still

  abbrev ct : Tree
  ct = two.first

  abbrev later : Tree
  later = two.second

  lawful : entries.IsLawful (fields_of before) v (suc level) (done ++ e ∷ rest)
  lawful = lawful_at before v (suc level) (done ++ e ∷ rest) c.has

  own_each : AllByRecursion (IsLawfulEntry (fields_of before) v (suc level)) (e ∷ rest)
  own_each =
      all_right (IsLawfulEntry (fields_of before) v (suc level)) done (e ∷ rest)
      (each (fields_of before) v (suc level) (done ++ e ∷ rest) lawful)

  pointer : IsPointer (fields_of before) e.rest
  pointer = pointers (fields_of before) v v.role level e.rest own_each.0.rest

  -- each block stands once
  counted : (n : ℕ) → count n (v.block ∷ []) + (count n c.was.blocks + (count n ct.blocks + count n later.blocks)) ≤ 1
  counted n =
      omega (
        arith,
        counts_from_distinct t.blocks s.distinct n,
        ap (λ (x : Tree). count n x.blocks) c.whole,
        count_append n c.was.blocks c.behind.blocks,
        ap (λ (x : Tree). count n x.blocks) two.is,
        count_append n ct.blocks later.blocks,
      )

  total_count : (n : ℕ)
      → count n t.blocks
      ≡ count n (v.block ∷ []) + (count n c.was.blocks + (count n ct.blocks + count n later.blocks))
  total_count n =
      omega (
        arith,
        ap (λ (x : Tree). count n x.blocks) c.whole,
        count_append n c.was.blocks c.behind.blocks,
        ap (λ (x : Tree). count n x.blocks) two.is,
        count_append n ct.blocks later.blocks,
      )

  proper : AreNoMaps t.blocks
  proper n there =
      (at_has (IsTreeNumber (fields_of before).total) t.blocks n
      (numbered before (image_of before s.maps) (suc level) v t s.number s.sound) there).no_map

  was_in : (n : ℕ) → IsTrue (has_block c.was.blocks n) → IsTrue (has_block t.blocks n)
  was_in n there = counted_any n t.blocks (omega (arith, total_count n, any_counted n c.was.blocks there))

  child_in : (n : ℕ) → IsTrue (has_block ct.blocks n) → IsTrue (has_block t.blocks n)
  child_in n there = counted_any n t.blocks (omega (arith, total_count n, any_counted n ct.blocks there))

  later_in : (n : ℕ) → IsTrue (has_block later.blocks n) → IsTrue (has_block t.blocks n)
  later_in n there = counted_any n t.blocks (omega (arith, total_count n, any_counted n later.blocks there))

  child_apart : (n : ℕ) → IsTrue (has_block ct.blocks n) → has_block c.was.blocks n ≡ false
  child_apart n there = none_counted c.was.blocks n (omega (arith, counted n, any_counted n ct.blocks there))

  later_apart : (n : ℕ) → IsTrue (has_block later.blocks n) → has_block c.was.blocks n ≡ false
  later_apart n there = none_counted c.was.blocks n (omega (arith, counted n, any_counted n later.blocks there))

  later_other : (n : ℕ) → IsTrue (has_block later.blocks n) → has_block ct.blocks n ≡ false
  later_other n there = none_counted ct.blocks n (omega (arith, counted n, any_counted n later.blocks there))

  tree_other : (n : ℕ) → IsTrue (has_block c.tree.blocks n) → has_block ct.blocks n ≡ false
  tree_other n there =
      none_counted ct.blocks n (omega (arith, counted n, any_counted n c.was.blocks (c.leaves.within n there)))

  busy_child : AreAllBusy mid ct.blocks
  busy_child =
      others_stay_busy before mid c.was.blocks c.tree.blocks ct.blocks c.leaves
      (λ n there. s.busy n (child_in n there)) (λ n there. proper n (child_in n there)) child_apart

  busy_later : AreAllBusy mid later.blocks
  busy_later =
      others_stay_busy before mid c.was.blocks c.tree.blocks later.blocks c.leaves
      (λ n there. s.busy n (later_in n there)) (λ n there. proper n (later_in n there)) later_apart

  proper_tree : AreNoMaps c.tree.blocks
  proper_tree n there = proper n (was_in n (c.leaves.within n there))

  busy_tree : AreAllBusy mid c.tree.blocks
  busy_tree =
      left_are_busy before mid c.was.blocks c.tree.blocks c.leaves (λ n there. s.busy n (was_in n there)) proper_tree

  pub child_stands : MayPrune mid v level from e ct range left
  child_stands = record {
    size = pointer.size;
    stands = record {
      number = number_grown (fields_of before).total (fields_of mid).total _ c.leaves.reshapes.limits.total
          pointer.leads;
      sound = two.here;
      distinct = distinct_from_counts ct.blocks (λ n. omega (arith, counted n));
      busy = busy_child;
      maps = c.leaves.lawful;
    };
    left_is = c.left_is (λ none. absurd (cc));
  }

  -- ---- a range was cut out of its child

  module _ (after : List ℕ) (new : List ℕ) (r : Leaves mid after ct.blocks new) where
    swapped : (a b : List ℕ) (n : ℕ) → has_block (a ++ b) n ≡ has_block (b ++ a) n
    swapped a b = has_same (a ++ b) (b ++ a) (λ n. omega (arith, count_append n a b, count_append n b a))

    leaves_more : Leaves before after (c.was.blocks ++ ct.blocks) (c.tree.blocks ++ new)
    leaves_more =
        leaves_compose before mid after (c.was.blocks ++ ct.blocks) (c.tree.blocks ++ ct.blocks)
        (c.tree.blocks ++ new)
        (leaves_with_more before mid c.was.blocks c.tree.blocks ct.blocks c.leaves
        (λ n there. s.busy n (child_in n there)) child_apart)
        (leaves_in_any_order mid after (ct.blocks ++ c.tree.blocks) (new ++ c.tree.blocks)
        (c.tree.blocks ++ ct.blocks) (c.tree.blocks ++ new)
        (leaves_with_more mid after ct.blocks new c.tree.blocks r busy_tree tree_other)
        (swapped ct.blocks c.tree.blocks) (swapped new c.tree.blocks))

    i : IsImage mid
    i = image_of mid c.leaves.lawful

    j : IsImage after
    j = image_of after r.lawful

    tree_stays : trees_below after v level v.low kept ≡ Some c.tree
    tree_stays =
        forest_grown mid after v level v.low kept c.tree i j (sizes_of mid after r.reshapes.limits)
        r.reshapes.limits.total
        (each_on (fields_of before) (fields_of mid) v level kept c.leaves.reshapes.limits c.each_kept) c.tree_is
        (kept_by mid after c.tree.blocks (λ n there. r.reshapes.stays n (proper_tree n there) (busy_tree n there)
        (tree_other n there)))

    from_next : low_behind v.low (done ++ e ∷ []) ≡ Some e.key
    from_next = low_append v.low done (e ∷ [])

    later_stays : trees_below after v level (low_behind v.low (done ++ e ∷ [])) rest ≡ Some later
    later_stays =
        ap (λ low. trees_below after v level low rest) from_next
        ∙ forest_grown mid after v level (Some e.key) rest later i j (sizes_of mid after r.reshapes.limits)
        r.reshapes.limits.total
        (each_on (fields_of before) (fields_of mid) v level rest c.leaves.reshapes.limits own_each.1) two.later
        (kept_by mid after later.blocks (λ n there. r.reshapes.stays n (proper n (later_in n there))
        (busy_later n there) (later_other n there)))

    whole_next : t ≡ index_tree v (joined (joined c.was ct) later)
    whole_next =
        c.whole ∙ ap (λ b. index_tree v (joined c.was b)) two.is
        ∙ ap (index_tree v) (sym (joined_assoc c.was ct later))

    same_entries : done ++ e ∷ [] ++ rest ≡ done ++ e ∷ rest
    same_entries = append_assoc done (e ∷ []) rest

    has_next : HasEntries before v (suc level) (done ++ e ∷ [] ++ rest)
    has_next = subst (HasEntries before v (suc level)) (sym same_entries) c.has

    one_longer : (xs : List Item) → length (xs ++ e ∷ []) ≡ length xs + 1
    one_longer xs = length-append xs (e ∷ [])

    above : rest ≢ [] → IsAboveLow 1 from e.key
    above some = by rest refl some
      where
        by : (xs : List Item) → rest ≡ xs → xs ≢ [] → IsAboveLow 1 from e.key
        by [] is some = absurd (some refl)
        by (f ∷ b) is some =
            let i0 = image_of before s.maps in
            let whole_index : AreIndex [] (done ++ e ∷ rest) = lawful.packable in
            let all = each (fields_of before) v (suc level) (done ++ e ∷ rest) lawful in
            above_behind before i0 v.low [] done e f b
            (subst (λ ys. AreIndex [] (done ++ e ∷ ys)) is whole_index)
            (subst (λ ys. LowBelow v.low (done ++ e ∷ ys)) is
            (first_low before i0 v level (done ++ e ∷ rest) whole_index all))

    keyed : rest ≢ [] → e.key ≢ []
    keyed some = by rest refl some
      where
        by : (xs : List Item) → rest ≡ xs → xs ≢ [] → e.key ≢ []
        by [] is some = absurd (some refl)
        by (f ∷ b) is some =
            let whole_index : AreIndex [] (done ++ e ∷ rest) = lawful.packable in
            let front = index_front [] done e (f ∷ b) (subst (λ ys. AreIndex [] (done ++ e ∷ ys)) is whole_index) in
            some_key e.key front.rest.0.is_key

    abbrev outside : Item → Bool
    outside x = not (is_in range x.key)

    module _ (later_left : Left) (stays : StaysLeft range from e.key later_left) where
      left_next : rest ≢ [] → IsLeft range (low_behind v.low (done ++ e ∷ [])) later_left
      left_next some =
          subst (λ low. IsLeft range low later_left) (sym from_next)
          (stays (keyed some) (above_first from e.key (above some)))

      -- It has nothing left, and its block is free.
      pub one_gone : left_by range ct.items ≡ [] → new ≡ []
          → CutSoFar before after v level t range (done ++ e ∷ []) kept rest later_left
      one_gone nothing freed = record {
        has = has_next;
        was = joined c.was ct;
        behind = later;
        tree = c.tree;
        whole = whole_next;
        tree_is = tree_stays;
        still = later_stays;
        items_are = c.items_are ∙ sym (filter-append outside c.was.items ct.items
            ∙ ap (λ es. left_by range c.was.items ++ es) nothing ∙ append-nil (left_by range c.was.items));
        some = c.some;
        once = c.once;
        leaves = subst (Leaves before after (c.was.blocks ++ ct.blocks))
            (ap (λ ns. c.tree.blocks ++ ns) freed ∙ append-nil c.tree.blocks) leaves_more;
        each_kept = c.each_kept;
        are_kept = subst (λ es. AreKept (fields_of before) v level (packed_size es) (kept ++ rest)) (sym same_entries)
            (one_less (fields_of before) v level (packed_size (done ++ e ∷ rest)) kept e rest c.are_kept);
        lower = λ some. subst (IsLowerLow (low_behind v.low kept)) (sym from_next)
            (lower_lower (low_behind v.low kept) from (Some e.key) (c.lower (λ none. absurd (cc)))
            (lower_above from e.key (above some)));
        few = omega (arith, c.few, one_longer done);
        all = λ same. absurd (omega (arith, same, c.few, one_longer done));
        left_is = left_next;
      }

      -- Something is left.
      module _ (p : LeavesTree mid after child level ct range) (same : new ≡ p.tree.blocks) where
        wide : sound_tree after level (visit_below v level (low_behind v.low kept) e) ≡ Some p.tree
        wide =
            let wider : IsWider (visit_below v level (low_behind v.low kept) e) child = record {
              block = refl;
              role = refl;
              level = refl;
              low = c.lower (λ none. absurd (cc));
              high = high_same (high_below v.high e.key);
            } in
            let within = (number_grown (fields_of before).total (fields_of mid).total _
            c.leaves.reshapes.limits.total pointer.leads).within in
            widened after j level (visit_below v level (low_behind v.low kept) e) child p.tree wider
            (omega (arith, within, r.reshapes.limits.total)) p.sound

        once_more : (n : ℕ) → count n (c.tree.blocks ++ p.tree.blocks) ≤ 1
        once_more n = elim (cases_lt 0 (count n p.tree.blocks)) [
          | inl some ↦ by (counted_any n p.tree.blocks some)
          | inr few ↦ omega (arith, few, c.once n, count_append n c.tree.blocks p.tree.blocks)
        ]
          where
            by : IsTrue (has_block p.tree.blocks n) → count n (c.tree.blocks ++ p.tree.blocks) ≤ 1
            by there =
                let out : has_block c.tree.blocks n ≡ false = false_from_ne_true (has_block c.tree.blocks n)
                (λ other. false≢true (sym (child_apart n (p.leaves.within n there)) ∙ c.leaves.within n other)) in
                omega (
                  arith,
                  counted_none c.tree.blocks n out,
                  counts_from_distinct p.tree.blocks p.distinct n,
                  count_append n c.tree.blocks p.tree.blocks,
                )

        pub one_kept : CutSoFar before after v level t range (done ++ e ∷ []) (kept ++ e ∷ []) rest later_left
        one_kept = record {
          has = has_next;
          was = joined c.was ct;
          behind = later;
          tree = joined c.tree p.tree;
          whole = whole_next;
          tree_is = below_append after v level v.low kept (e ∷ [])
              ∙ some_both (trees_below after v level v.low kept) _ c.tree p.tree tree_stays
              (some_both (sound_tree after level (visit_below v level (low_behind v.low kept) e)) (Some none) p.tree
              none
              wide refl ∙ ap (λ (x : Tree). Some x) (joined_none p.tree));
          still = later_stays;
          items_are = (λ i. c.items_are i ++ p.items_are i) ∙ sym (filter-append outside c.was.items ct.items);
          some = λ k empty. p.some (sym p.items_are ∙ append_none c.tree.items p.tree.items empty);
          once = once_more;
          leaves = subst (λ ns. Leaves before after (c.was.blocks ++ ct.blocks) (c.tree.blocks ++ ns)) same leaves_more;
          each_kept = all_both (IsLawfulEntry (fields_of before) v (suc level)) kept (e ∷ []) c.each_kept
              (own_each.0, tt);
          are_kept = subst (λ es. AreKept (fields_of before) v level (packed_size es) (kept ++ e ∷ [] ++ rest))
              (sym same_entries)
              (subst (AreKept (fields_of before) v level (packed_size (done ++ e ∷ rest)))
              (sym (append_assoc kept (e ∷ []) rest)) c.are_kept);
          lower = λ some. subst (λ low. IsLowerLow low (low_behind v.low (done ++ e ∷ [])))
              (sym (low_append v.low kept (e ∷ [])))
              (subst (IsLowerLow (Some e.key)) (sym from_next) (most_same e.key));
          few = omega (arith, c.few, one_longer done, one_longer kept);
          all = λ long. ap (λ es. es ++ e ∷ []) (c.all (omega (arith, long, one_longer done, one_longer kept)));
          left_is = left_next;
        }

-- A range was cut out of the tree below the next entry.
pub next_cut : (before mid after : List ℕ) (v : Visit) (level : ℕ) (t : Tree) (range : Range) (done kept : List Item)
    (e : Item) (rest : List Item) (left later_left : Left) (s : StandsBelow before v (suc level) t)
    (c : CutSoFar before mid v level t range done kept (e ∷ rest) left) (empty : Bool)
    → PrunesChild level e left empty mid after
    → StaysLeft range (low_behind v.low done) e.key later_left
    → CutSoFar before after v level t range (done ++ e ∷ []) (if empty then kept else kept ++ e ∷ []) rest later_left
next_cut before mid after v level t range done kept e rest left later_left s c true prunes stays =
    let child = child_stands before mid v level t range done kept e rest left s c in
    let ct = two before mid v level t range done kept e rest left s c in
    let p = prunes v (low_behind v.low done) ct.first range child in
    one_gone before mid v level t range done kept e rest left s c after [] p.leaves later_left stays p.none refl
next_cut before mid after v level t range done kept e rest left later_left s c false prunes stays =
    let child = child_stands before mid v level t range done kept e rest left s c in
    let ct = two before mid v level t range done kept e rest left s c in
    let p = prunes v (low_behind v.low done) ct.first range child in
    one_kept before mid v level t range done kept e rest left s c after p.tree.blocks p.leaves later_left stays p refl

pub none_to_prune : (before mid : List ℕ) (v : Visit) (level : ℕ) (t : Tree) (range : Range) (done kept : List Item)
    (e : Item) (rest : List Item) (left : Left) (s : StandsBelow before v (suc level) t)
    (c : CutSoFar before mid v level t range done kept (e ∷ rest) left) → CannotPrune level e left mid → ⊥
none_to_prune before mid v level t range done kept e rest left s c cannot =
    let child = child_stands before mid v level t range done kept e rest left s c in
    let ct = two before mid v level t range done kept e rest left s c in
    cannot v (low_behind v.low done) ct.first range child
