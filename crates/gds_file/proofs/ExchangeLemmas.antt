-- A sound file in which some blocks of its trees went to others, while the other trees stay: what is known of the new
-- file.
use Rattle.std.proofs.Common.{◌≡◌, ◌≢◌, ℕ, ◌+◌, ◌%◌, Bool, true, false, not, ◌&&◌, ◌||◌, List}
use Rattle.std.proofs.Common.{Some, inl, inr, refl, sym, ap, ◌∙◌, arith}
use Rattle.std.specs.Prelude.{nat_eq}
use Rattle.std.specs.List.{IsDistinct}
use Rattle.std.proofs.lemmas.Bool.{cases_lt, or_left, or_right, or_cases}
use Rattle.std.proofs.lemmas.Bool.{both_ways, false_from_ne_true}
use Rattle.gds_header.specs.Fields.{fields_of}
use Rattle.gds_law.specs.Visit.{directory_root}
use Rattle.gds_law.proofs.MembershipLemmas.{IsIn}
use Rattle.gds_sound.specs.Sound.{Tree, tree_at, IsSound}
use Rattle.gds_sound.proofs.CountLemmas.{count}
use Rattle.gds_sound.proofs.PathLemmas.{counted_any, any_counted, counts_from_distinct, distinct_from_counts}
use Rattle.gds_sound.proofs.KeptLemmas.{same_tests}
use Rattle.gds_sound.proofs.SoundLemmas.{AreTrees, blocks_of}
use Rattle.gds_file.specs.Maps.{has_block, is_busy, AreBusy}
use Rattle.gds_file.specs.Reshape.{Reshapes}
use Rattle.gds_file.specs.FileLaws.{IsLawful}
use Rattle.gds_file.proofs.FrameLemmas.{IsKeptIn, kept_equal}
use Rattle.gds_file.proofs.UseLemmas.{in_has, proper_block}
use Rattle.gds_file.proofs.RightMapLemmas.{maps_in_two_parts, not_busy_past}

-- Of each block there are as many in a list as in two parts of it.
pub record HasParts (all first second : List ℕ) : Type 0 where
  pub counts : (n : ℕ) → count n all ≡ count n first + count n second

has_part : (all first second : List ℕ) → HasParts all first second → (n : ℕ)
    → has_block all n ≡ (has_block first n || has_block second n)
has_part all first second parts n = same_tests _ _ to from
  where
    to : has_block all n ≡ true → (has_block first n || has_block second n) ≡ true
    to h = elim (cases_lt 0 (count n first)) [
      | inl some ↦ or_left _ _ (counted_any n first some)
      | inr none ↦ or_right (has_block first n) _
          (counted_any n second (omega (arith, none, parts.counts n, any_counted n all h)))
    ]

    from : (has_block first n || has_block second n) ≡ true → has_block all n ≡ true
    from h = elim (or_cases (has_block first n) (has_block second n) h) [
      | inl e ↦ counted_any n all (omega (arith, parts.counts n, any_counted n first e))
      | inr e ↦ counted_any n all (omega (arith, parts.counts n, any_counted n second e))
    ]

-- what is left of two parts without the first, where they share nothing
left_part : (first second : Bool) → (first ≡ true → second ≡ false) → ((first || second) && not first) ≡ second
left_part true second h = sym (h refl)
left_part false true h = refl
left_part false false h = refl

module _ (before after : List ℕ) (directory : Tree) (globals : List Tree) (s : IsSound before directory globals)
    (old new stays : List ℕ) (parts : HasParts (blocks_of directory globals) old stays)
    (r : Reshapes before after old new) where
  -- the blocks that stay are among those of the trees, and none is an old one
  stay_among : (n : ℕ) → has_block stays n ≡ true → has_block (blocks_of directory globals) n ≡ true
  stay_among n h =
      has_part (blocks_of directory globals) old stays parts n ∙ or_right (has_block old n) (has_block stays n) h

  old_apart : (n : ℕ) → has_block old n ≡ true → has_block stays n ≡ false
  old_apart n h =
      false_from_ne_true (has_block stays n) (λ e.
      absurd (omega (
        arith,
        any_counted n old h,
        any_counted n stays e,
        parts.counts n,
        counts_from_distinct (blocks_of directory globals) s.distinct n,
      )))

  stay_apart : (n : ℕ) → has_block stays n ≡ true → has_block old n ≡ false
  stay_apart n h = false_from_ne_true (has_block old n) (λ e. both_ways (has_block stays n) (old_apart n e) h)

  pub busy_before : AreBusy before (blocks_of directory globals)
  busy_before = ((maps_in_two_parts before (blocks_of directory globals)).0 (record {
    maps = s.maps;
    count = s.count;
  })).1

  stay_busy : (n : ℕ) → has_block stays n ≡ true → is_busy before n ≡ true
  stay_busy n h =
      let proper = proper_block before directory globals s n (stay_among n h) in
      busy_before n proper.within proper.no_map ∙ stay_among n h

  -- they are kept
  pub stay_kept : (n : ℕ) → IsIn stays n → IsKeptIn before after n
  stay_kept n i =
      let h = in_has stays n i in
      let proper = proper_block before directory globals s n (stay_among n h) in
      kept_equal before after n r.limits.tn (r.stays n proper.no_map (stay_busy n h) (stay_apart n h))

  -- none is a new one
  new_apart : (n : ℕ) → has_block stays n ≡ true → has_block new n ≡ false
  new_apart n h =
      let proper = proper_block before directory globals s n (stay_among n h) in
      false_from_ne_true (has_block new n)
      (λ e. both_ways (is_busy before n) (r.taken n proper.no_map e (stay_apart n h)) (stay_busy n h))

  module _ (all : List ℕ) (now : HasParts all new stays) where
    pub distinct_now : IsDistinct nat_eq new → IsDistinct nat_eq all
    distinct_now once = distinct_from_counts all (λ n. elim (cases_lt 0 (count n stays)) [
      | inr none ↦ omega (arith, none, now.counts n, counts_from_distinct new once n)
      | inl some ↦ elim (cases_lt 0 (count n new)) [
        | inr none ↦ omega (
          arith,
          none,
          now.counts n,
          parts.counts n,
          counts_from_distinct (blocks_of directory globals) s.distinct n,
        )
        | inl more ↦
            let apart = new_apart n (counted_any n stays some) in
            absurd (both_ways (has_block new n) apart (counted_any n new more))
      ]
    ])

    -- of the busy blocks without the old ones are left those that stay
    left_busy : (n : ℕ) → n % 512 ≢ 0 → (is_busy before n && not (has_block old n)) ≡ has_block stays n
    left_busy n no_map = elim (cases_lt n (fields_of before).total) [
      | inl inside ↦
          ap (λ t. t && not (has_block old n))
          (busy_before n inside no_map ∙ has_part (blocks_of directory globals) old stays parts n)
          ∙ left_part (has_block old n) (has_block stays n) (old_apart n)
      | inr past ↦
          let gone : has_block stays n ≡ false = false_from_ne_true (has_block stays n)
          (λ e. both_ways (is_busy before n) (not_busy_past before n past) (stay_busy n e)) in
          ap (λ t. t && not (has_block old n)) (not_busy_past before n past) ∙ sym gone
    ]

    pub busy_now : AreBusy after all
    busy_now n low no_map =
        r.busy n low no_map ∙ ap (λ t. has_block new n || t) (left_busy n no_map)
        ∙ sym (has_part all new stays now n)

  -- The file is sound with the trees that it has now.
  pub sound_now : (directory' : Tree) (globals' : List Tree) → HasParts (blocks_of directory' globals') new stays
      → IsDistinct nat_eq new → tree_at after directory_root ≡ Some directory'
      → AreTrees after directory'.items globals' → IsLawful after → IsSound after directory' globals'
  sound_now directory' globals' now once tree trees lawful =
      let all : List ℕ = blocks_of directory' globals' in
      let right = (maps_in_two_parts after all).1 (lawful.maps, busy_now all now) in
      record {
        header = lawful.header;
        directory_tree = tree;
        global_trees = trees;
        distinct = distinct_now all now once;
        maps = right.maps;
        count = right.count;
      }
