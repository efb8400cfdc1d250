-- The free blocks of a file, counted by their numbers.
use Rattle.std.proofs.Common.{◌≡◌, ◌≢◌, ℕ, zero, suc, ◌+◌, ◌-◌, ◌*◌, ◌/◌, ◌%◌, ◌<◌, ◌≤◌, Bool, true, false, ◌&&◌, List}
use Rattle.std.proofs.Common.{length, filter, inl, inr, sym, ap, ◌∙◌, arith}
use Rattle.std.specs.Prelude.{nat_lt}
use Rattle.std.specs.List.{range_with_len}
use Rattle.std.proofs.lemmas.Bool.{and_left, cases_eq, le-ltb, lt-ltb}
use Rattle.gds_bitmap.specs.Bitmap.{is_free_at}
use Rattle.gds_bitmap.specs.Pairs.{count_below}
use Rattle.gds_bitmap.proofs.CountLemmas.{count_below-add, count_below-same}
use Rattle.gds_header.specs.Fields.{fields_of}
use Rattle.gds_header.specs.Kinds.{groups_of}
use Rattle.gds_law.specs.Maps.{map_of, is_present, free_places, free_blocks, has_free_place}
use Rattle.gds_new.specs.NewDatabase.{bit_of}
use Rattle.gds_new.proofs.CountLemmas.{kept, kept_of_all}

-- ---- counts below a number

pub count_none : (p : ℕ → Bool) (n : ℕ) → ((k : ℕ) → k < n → p k ≡ false) → count_below p n ≡ 0
count_none p zero h = omega arith
count_none p (suc n) h =
    let none : bit_of (p n) ≡ 0 = ap bit_of (h n (omega arith)) in
    omega (arith, none, count_none p n (λ k low. h k (omega (arith, low))))

pub count_some : (p : ℕ → Bool) (x n : ℕ) → x < n → p x ≡ true → 1 ≤ count_below p n
count_some p x zero low here = absurd (omega (arith, low))
count_some p x (suc n) low here = elim (cases_eq x n) [
  | inl same ↦
      let one : bit_of (p n) ≡ 1 = ap bit_of (ap p (sym same) ∙ here) in
      omega (arith, one)
  | inr other ↦ omega (arith, count_some p x n (omega (arith, low, other)) here)
]

-- Two tests differ at one number.
pub count_less : (p q : ℕ → Bool) (x n : ℕ) → x < n → p x ≡ true → q x ≡ false
    → ((y : ℕ) → y ≢ x → q y ≡ p y) → count_below q n + 1 ≡ count_below p n
count_less p q x zero low here gone beside = absurd (omega (arith, low))
count_less p q x (suc n) low here gone beside = elim (cases_eq x n) [
  | inl same ↦
      let one : bit_of (p n) ≡ 1 = ap bit_of (ap p (sym same) ∙ here) in
      let none : bit_of (q n) ≡ 0 = ap bit_of (ap q (sym same) ∙ gone) in
      let below = count_below-same q p n (λ y l. beside y (λ e. omega (arith, e, l, same))) in
      omega (arith, one, none, below)
  | inr other ↦
      let here_too : bit_of (q n) ≡ bit_of (p n) = ap bit_of (beside n (λ e. other (sym e))) in
      omega (arith, here_too, count_less p q x n (omega (arith, low, other)) here gone beside)
]

-- Between two numbers there are some that pass, where one does.
count_between : (p : ℕ → Bool) (from size next x n : ℕ) → from + size ≡ next → x < size → p (from + x) ≡ true
    → n + count_below p from ≡ count_below p next → 0 < n
count_between p from size next x n end low here counted =
    let some = count_some (λ k. p (from + k)) x size low here in
    omega (arith, some, counted, count_below-add p from size, ap (count_below p) end)

-- a filter keeps as many
pub counted : (p : ℕ → Bool) (n : ℕ) → length (filter p (range_with_len 0 n)) ≡ count_below p n
counted p n =
    let all = kept p p 0 0 n (λ k low. let same : k ≡ 0 + k = omega arith in ap p same) in
    let none : 0 ≡ 0 + 0 = omega arith in
    let end : 0 + (0 + n) ≡ n = omega arith in
    omega (arith, all, ap (count_below p) none, ap (count_below p) end)

-- ---- the blocks of a file

abbrev pub is_free_block : List ℕ → ℕ → Bool
is_free_block image n = nat_lt n (fields_of image).total && is_free_at (map_of image (n / 512)) (n % 512)

module _ (image : List ℕ) where
  place_free : (group k : ℕ) → k < 512
      → (is_present (fields_of image) group k && is_free_at (map_of image group) k)
      ≡ is_free_block image (512 * group + k)
  place_free group k low =
      let quotient : group ≡ (512 * group + k) / 512 = omega arith in
      let rest : k ≡ (512 * group + k) % 512 = omega arith in
      λ i. nat_lt (512 * group + k) (fields_of image).total && is_free_at (map_of image (quotient i)) (rest i)

  group_counted : (group : ℕ) → length (free_places image group) + count_below (is_free_block image) (512 * group)
      ≡ count_below (is_free_block image) (512 * (group + 1))
  group_counted group =
      let none : 512 * group + 0 ≡ 512 * group = omega arith in
      let next : 512 * group + (0 + 512) ≡ 512 * (group + 1) = omega arith in
      omega (
        arith,
        kept (is_free_block image) (λ k. is_present (fields_of image) group k && is_free_at (map_of image group) k)
            (512 * group) 0 512 (λ k low. place_free group k (omega (arith, low))),
        ap (count_below (is_free_block image)) none,
        ap (count_below (is_free_block image)) next,
      )

  none_past : (more : ℕ) → count_below (is_free_block image) ((fields_of image).total + more)
      ≡ count_below (is_free_block image) (fields_of image).total
  none_past more =
      let total : ℕ = (fields_of image).total in
      let none = count_none (λ k. is_free_block image (total + k)) more
      (λ k low. and_left (nat_lt (total + k) total) _ (le-ltb (total + k) total (omega arith))) in
      omega (arith, count_below-add (is_free_block image) total more, none)

  pub free_by_blocks : free_blocks image ≡ count_below (is_free_block image) (fields_of image).total
  unfolding free_blocks
  free_by_blocks =
      let all = kept_of_all (is_free_block image) (free_places image) 512 0 (groups_of (fields_of image))
      (λ group low. group_counted group) in
      let end : 512 * (0 + groups_of (fields_of image))
      ≡ (fields_of image).total + (512 * groups_of (fields_of image) - (fields_of image).total) = omega arith in
      omega (
        arith,
        all,
        ap (count_below (is_free_block image)) end,
        none_past (512 * groups_of (fields_of image) - (fields_of image).total),
      )

  -- The group of a free block has a free place.
  pub group_of_free : (n : ℕ) → is_free_block image n ≡ true → has_free_place image (n / 512) ≡ true
  group_of_free n free =
      let group : ℕ = n / 512 in
      let number : 512 * group + n % 512 ≡ n = omega arith in
      lt-ltb 0 (length (free_places image group))
      (count_between (is_free_block image) (512 * group) 512 (512 * (group + 1)) (n % 512)
      (length (free_places image group)) (omega arith) (omega arith) (ap (is_free_block image) number ∙ free)
      (group_counted group))
