-- How many blocks of a new database are free, below a number and in a group.
use Rattle.std.proofs.Common.{◌≡◌, ℕ, zero, suc, ◌+◌, ◌-◌, ◌*◌, ◌≤◌, ◌<◌, ◌/◌, ◌%◌, Bool, true, false}
use Rattle.std.proofs.Common.{if◌then◌else◌, List, ◌∷◌, length, length-append, filter, flat_map, min, inl, inr, refl}
use Rattle.std.proofs.Common.{sym, ap, subst, ◌∙◌, arith}
use Rattle.std.specs.List.{range_with_len}
use Rattle.std.proofs.lemmas.Bool.{cases_lt, cases_eq, le-ltb}
use Rattle.gds_bitmap.specs.Pairs.{count_below}
use Rattle.gds_header.specs.declared.header.Header.{Header}
use Rattle.gds_new.specs.NewDatabase.{starts_free, bit_of}
use Rattle.gds_new.proofs.FreeLemmas.{map_is_busy, other_is_free, past_is_busy}

-- ---- what a filter keeps of numbers one after another

length-cond : (b : Bool) (x : ℕ) (xs : List ℕ) → length (if b then x ∷ xs else xs) ≡ length xs + (if b then 1 else 0)
length-cond true x xs = omega arith
length-cond false x xs = omega arith

module _ (p : ℕ → Bool) where
  pub kept : (q : ℕ → Bool) (from a n : ℕ) → ((k : ℕ) → k < a + n → q k ≡ p (from + k))
      → length (filter q (range_with_len a n)) + count_below p (from + a) ≡ count_below p (from + (a + n))
  kept q from a zero same =
      let none : from + a ≡ from + (a + 0) = omega arith in omega (arith, ap (count_below p) none)
  kept q from a (suc n) same =
      let rest = kept q from (a + 1) n (λ k low. same k (omega arith)) in
      let first = length-cond (q a) a (filter q (range_with_len (a + 1) n)) in
      let next : from + (a + 1) ≡ suc (from + a) = omega arith in
      let last : from + (a + 1 + n) ≡ from + (a + suc n) = omega arith in
      omega (
        arith,
        first,
        ap bit_of (same a (omega arith)),
        rest,
        ap (count_below p) next,
        ap (count_below p) last,
      )

  -- the same of lists one after another, each of which keeps those of a group
  pub kept_of_all : (f : ℕ → List ℕ) (size from n : ℕ)
      → ((g : ℕ) → g < from + n → length (f g) + count_below p (size * g) ≡ count_below p (size * (g + 1)))
      → length (flat_map f (range_with_len from n)) + count_below p (size * from) ≡ count_below p (size * (from + n))
  kept_of_all f size from zero each =
      let same : from ≡ from + 0 = omega arith in omega (arith, ap (λ m. count_below p (size * m)) same)
  kept_of_all f size from (suc n) each =
      let last : from + 1 + n ≡ from + suc n = omega arith in
      omega (
        arith,
        length-append (f from) (flat_map f (range_with_len (from + 1) n)),
        each from (omega arith),
        kept_of_all f size (from + 1) n (λ g low. each g (omega arith)),
        ap (λ m. count_below p (size * m)) last,
      )

-- ---- the blocks that are free at first

module _ (h : Header) where
  -- of the blocks below a number all are free but two and the maps
  count_within : (n : ℕ) → 3 ≤ n → n ≤ h.total → count_below (starts_free h) n + 2 + (n + 511) / 512 ≡ n
  count_within zero low high = absurd (omega arith)
  count_within (suc n) low high = elim (cases_lt n 3) [
    | inl less ↦
        let two : n ≡ 2 = omega arith in
        subst (λ (m : ℕ). count_below (starts_free h) (suc m) + 2 + (suc m + 511) / 512 ≡ suc m) (sym two) refl
    | inr more ↦
        let before = count_within n more (omega arith) in
        elim (cases_eq (n % 512) 0) [
          | inl map ↦
              let none : bit_of (starts_free h n) ≡ 0 =
              ap bit_of (map_is_busy h n map) in
              omega (arith, none)
          | inr other ↦
              let one : bit_of (starts_free h n) ≡ 1 =
              ap bit_of (other_is_free h n more (omega arith) other) in
              omega (arith, one)
        ]
  ]

  count_past : (more : ℕ) → count_below (starts_free h) (h.total + more) ≡ count_below (starts_free h) h.total
  count_past zero = let same : h.total + 0 ≡ h.total = omega arith in ap (count_below (starts_free h)) same
  count_past (suc more) =
      let next : h.total + suc more ≡ suc (h.total + more) = omega arith in
      let none : bit_of (starts_free h (h.total + more)) ≡ 0 =
      ap bit_of (past_is_busy h (h.total + more) (le-ltb (h.total + more) h.total (omega arith))) in
      ap (count_below (starts_free h)) next ∙ omega (arith, none, count_past more)

  pub counted : (n : ℕ) → 3 ≤ n → 3 ≤ h.total
      → count_below (starts_free h) n + 2 + (min n h.total + 511) / 512 ≡ min n h.total
  counted n low some = elim (cases_lt n h.total) [
    | inl within ↦
        let least : min n h.total ≡ n = omega arith in
        subst (λ (m : ℕ). count_below (starts_free h) n + 2 + (m + 511) / 512 ≡ m) (sym least)
        (count_within n low (omega arith))
    | inr past ↦
        let least : min n h.total ≡ h.total = omega arith in
        let parts : n ≡ h.total + (n - h.total) = omega arith in
        let same = ap (count_below (starts_free h)) parts ∙ count_past (n - h.total) in
        subst (λ (m : ℕ). count_below (starts_free h) n + 2 + (m + 511) / 512 ≡ m) (sym least)
        (ap (λ c. c + 2 + (h.total + 511) / 512) same ∙ count_within h.total some (omega arith))
  ]
