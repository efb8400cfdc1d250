-- Free places of groups, in the header, in the maps and as blocks.
use Rattle.std.proofs.Common.{◌≡◌, ℕ, ◌+◌, ◌*◌, ◌/◌, ◌%◌, ◌<◌, ◌≤◌, Bool, true, false, ◌&&◌, List, inl, inr}
use Rattle.std.proofs.Common.{◌⊎◌, filter, length, sym, ap, subst, ◌∙◌, arith}
use Rattle.std.specs.Prelude.{nat_lt}
use Rattle.std.specs.List.{range_with_len}
use Rattle.std.proofs.lemmas.Bool.{and_left, and_parts, and_right, cases_lt, eqb-false}
use Rattle.std.proofs.lemmas.Bool.{false≢true, false_from_ne_true, le-ltb, lt-ltb, ltb-true, ne_eqb}
use Rattle.gds_bitmap.specs.State.{is_free, state_from}
use Rattle.gds_bitmap.specs.Bitmap.{IsFirstFree, NoneFree, is_free_at, pair_of}
use Rattle.gds_header.specs.declared.header.Header.{Header}
use Rattle.gds_header.specs.Fields.{fields_of}
use Rattle.gds_header.specs.Kinds.{has_free}
use Rattle.gds_law.specs.Maps.{has_free_place, is_present, map_of}
use Rattle.gds_file.specs.FileLaws.{IsLawful}
use Rattle.gds_file.specs.Maps.{IsLawfulMap}
use Rattle.gds_file.specs.TakeLaws.{IsFree}
use Rattle.gds_file.proofs.FreeCountLemmas.{count_none, counted, free_by_blocks, group_of_free, is_free_block}
use Rattle.gds_file.proofs.RightMapLemmas.{busy_by_pair, free_pair}
use Rattle.gds_base.specs.Spaces.{HasFreeBelow, IsFirstGroup, IsFirstPlace, NoGroup, present_in}

-- A filter keeps none where none passes.
none_kept : (p : ℕ → Bool) (n : ℕ) → ((k : ℕ) → k < n → p k ≡ false)
    → nat_lt 0 (length (filter p (range_with_len 0 n))) ≡ false
none_kept p n none = ap (nat_lt 0) (counted p n ∙ count_none p n none)

module _ (image : List ℕ) where
  -- A place of a group as a block.
  place_free : (group place : ℕ) → place < present_in (fields_of image) group
      → is_free_at (map_of image group) place ≡ true → is_free_block image (512 * group + place) ≡ true
  place_free group place low free =
      let quotient : (512 * group + place) / 512 ≡ group = omega (arith, low) in
      let rest : (512 * group + place) % 512 ≡ place = omega (arith, low) in
      let within = lt-ltb (512 * group + place) (fields_of image).total (omega (arith, low)) in
      λ i. within i && ((λ j. is_free_at (map_of image (quotient j)) (rest j)) ∙ free) i

  -- Whether one of the places of a group is free.
  no_place : (group : ℕ) → 512 * group < (fields_of image).total
      → NoneFree (map_of image group) (present_in (fields_of image) group) → has_free_place image group ≡ false
  no_place group there none =
      none_kept (λ k. is_present (fields_of image) group k && is_free_at (map_of image group) k) 512 by
    where
      by : (k : ℕ) → k < 512 → (is_present (fields_of image) group k && is_free_at (map_of image group) k) ≡ false
      by k low = elim (cases_lt (512 * group + k) (fields_of image).total) [
        | inl within ↦ and_right (is_present (fields_of image) group k) (is_free_at (map_of image group) k)
            (false_from_ne_true (is_free_at (map_of image group) k) (none k (omega (arith, low, within))))
        | inr past ↦ and_left (is_present (fields_of image) group k) (is_free_at (map_of image group) k)
            (le-ltb (512 * group + k) (fields_of image).total past)
      ]

  pub place_left : (group present : ℕ) (left : Bool) → 512 * group < (fields_of image).total
      → present ≡ present_in (fields_of image) group → HasFreeBelow (map_of image group) present left
      → left ≡ has_free_place image group
  place_left group present true there is has =
      let quotient : (512 * group + has.0) / 512 ≡ group = omega (arith, is, has.1) in
      sym (ap (has_free_place image) (sym quotient)
      ∙ group_of_free image (512 * group + has.0) (place_free group has.0 (omega (arith, is, has.1)) has.2))
  place_left group present false there is none =
      sym (no_place group there (λ k low. none k (omega (arith, low, is))))

  module _ (lawful : IsLawful image) where
    map_lawful : (group : ℕ) → 512 * group < (fields_of image).total → IsLawfulMap image group
    map_lawful group there = lawful.maps.maps group (omega (arith, there))

    -- A free block that is no map, by its pair and by the master map.
    is_free_there : (n : ℕ) → IsFree image n → is_free_block image n ≡ true
    is_free_there n is =
        let present = lt-ltb (512 * (n / 512) + n % 512) (fields_of image).total (omega (arith, is.within)) in
        let within = lt-ltb n (fields_of image).total is.within in
        let pairs = (map_lawful (n / 512) (omega (arith, is.within))).pairs (n % 512) (omega arith) in
        let free = free_pair (pair_of (map_of image (n / 512)) (n % 512))
        (eqb-false _ 0 (sym (busy_by_pair image n is.within) ∙ is.free)) (pairs.legal present) in
        λ i. within i && free i

    group_marked : (n : ℕ) → is_free_block image n ≡ true → has_free (fields_of image) (n / 512) ≡ true
    group_marked n free =
        let within = ltb-true n (fields_of image).total (and_parts (nat_lt n (fields_of image).total) _ free).0 in
        (map_lawful (n / 512) (omega (arith, within))).master ∙ group_of_free image n free

    none_by_groups : NoGroup (fields_of image) → (fields_of image).free ≡ 0
    none_by_groups none =
        lawful.maps.count ∙ free_by_blocks image
        ∙ count_none (is_free_block image) (fields_of image).total
        (λ n low. false_from_ne_true (is_free_block image n) (λ free.
        false≢true (sym (none (n / 512) (omega (arith, low))) ∙ group_marked n free)))

    -- A group that has a free block, by the master map, has a free place, and that isn't its map's.
    some_in_group : (group : ℕ) → 512 * group < (fields_of image).total → has_free (fields_of image) group ≡ true
        → NoneFree (map_of image group) (present_in (fields_of image) group) → ⊥
    some_in_group group there has none =
        false≢true (sym (no_place group there none) ∙ sym (map_lawful group there).master ∙ has)

    not_the_map : (group : ℕ) → 512 * group < (fields_of image).total → IsFirstFree (map_of image group) 0 → ⊥
    not_the_map group there is =
        false≢true (sym (ap (λ pair. is_free (state_from pair)) (map_lawful group there).own) ∙ is.free)

    -- ---- the free block of least number

    module _ (group place : ℕ) (first : IsFirstPlace (fields_of image) (map_of image group) group place) where
      pub first_is_free : IsFree image (512 * group + place)
      first_is_free =
          let quotient : (512 * group + place) / 512 ≡ group = omega (arith, first.within) in
          let rest : (512 * group + place) % 512 ≡ place = omega (arith, first.within) in
          let within : 512 * group + place < (fields_of image).total = omega (arith, first.within) in
          record {
            within = within;
            no_map = λ e. first.no_map (sym rest ∙ e);
            free = busy_by_pair image (512 * group + place) within
                ∙ ne_eqb (pair_of (map_of image ((512 * group + place) / 512)) ((512 * group + place) % 512)) 0
                (λ e. false≢true (ap (λ pair. is_free (state_from pair)) (sym e)
                ∙ (λ i. is_free_at (map_of image (quotient i)) (rest i)) ∙ first.free.free));
          }

      pub first_is_least : (n : ℕ) → IsFree image n → 512 * group + place ≤ n
      first_is_least n is = elim (cases_lt n (512 * group + place)) [
        | inr from ↦ from
        | inl before ↦ absurd (by before (cases_lt (n / 512) group))
      ]
        where
          free : is_free_block image n ≡ true
          free = is_free_there n is

          by : n < 512 * group + place → (n / 512 < group) ⊎ (group ≤ n / 512) → ⊥
          by before (inl less) = false≢true (sym (first.group_is.first (n / 512) less) ∙ group_marked n free)
          by before (inr from) =
              let same : n / 512 ≡ group = omega (arith, before, from, first.within) in
              first.free.first (n % 512) (omega (arith, before, same))
              (ap (λ g. is_free_at (map_of image g) (n % 512)) (sym same)
              ∙ (and_parts (nat_lt n (fields_of image).total) _ free).1)

-- What a search for the free block of least number can't find in a lawful file: by its header no free block, or by the
-- map of the first group that has one.
module _ (image : List ℕ) (h : Header) (fields : fields_of image ≡ h) (lawful : IsLawful image) where
  pub none_in_groups : 0 < h.free → NoGroup h → ⊥
  none_in_groups some none =
      omega (
        arith,
        some,
        none_by_groups image lawful (subst NoGroup (sym fields) none),
        ap (λ (g : Header). g.free) fields,
      )

  module _ (map : List ℕ) (group present : ℕ) (is : map ≡ map_of image group) (first : IsFirstGroup h group)
      (present_is : present ≡ present_in h group) where
    there : 512 * group < (fields_of image).total
    there = omega (arith, first.within, ap (λ (g : Header). g.total) fields)

    pub none_in_map : NoneFree map present → ⊥
    none_in_map none =
        some_in_group image lawful group there (ap (λ g. has_free g group) fields ∙ first.has)
        (λ k low free. none k (omega (arith, low, present_is, ap (λ (g : Header). g.total) fields))
        (ap (λ m. is_free_at m k) is ∙ free))

    pub first_not_own : IsFirstFree map 0 → ⊥
    first_not_own free = not_the_map image lawful group there (subst (λ m. IsFirstFree m 0) is free)
