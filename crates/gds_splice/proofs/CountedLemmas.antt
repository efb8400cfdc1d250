-- Which blocks are among others, by how often they stand there.
use Rattle.std.proofs.Common.{◌≡◌, ℕ, true, false, List, [], ◌∷◌, ◌++◌, inl, inr, refl, sym}
use Rattle.std.proofs.Common.{subst, ◌∙◌, arith}
use Rattle.std.specs.Prelude.{nat_eq, IsTrue}
use Rattle.std.specs.Cmp.{both_ways}
use Rattle.std.specs.List.{AllByRecursion, IsDistinct}
use Rattle.std.proofs.lemmas.Bool.{or_left, or_right, or_cases, or_parts, eq-eqb, eqb-true, eqb-false, ne_eqb}
use Rattle.std.proofs.lemmas.Bool.{false_from_ne_true, cases_lt}
use Rattle.gds_sound.proofs.CountLemmas.{count, count_append}
use Rattle.gds_sound.proofs.PathLemmas.{any_counted, counted_any, counts_from_distinct, distinct_from_counts}
use Rattle.gds_file.specs.Maps.{has_block}

-- what holds of each
pub all_has : (P : ℕ → Type 0) (xs : List ℕ) → ((n : ℕ) → IsTrue (has_block xs n) → P n) → AllByRecursion P xs
all_has P [] h = tt
all_has P (x ∷ xs) h = (
  h x (or_left (nat_eq x x) (has_block xs x) (eq-eqb x x refl)),
  all_has P xs (λ n there. h n (or_right (nat_eq n x) (has_block xs n) there)),
)

pub at_has : (P : ℕ → Type 0) (xs : List ℕ) (n : ℕ) → AllByRecursion P xs → IsTrue (has_block xs n) → P n
at_has P [] n all there = absurd (cc)
at_has P (x ∷ xs) n all there =
    elim (or_cases (nat_eq n x) (has_block xs n) there) [
      | inl e ↦ subst P (sym (eqb-true n x e)) all.0
      | inr e ↦ at_has P xs n all.1 e
    ]

pub none_counted : (xs : List ℕ) (n : ℕ) → count n xs ≡ 0 → has_block xs n ≡ false
none_counted xs n none = false_from_ne_true (has_block xs n) (λ there. omega (arith, none, any_counted n xs there))

pub counted_none : (xs : List ℕ) (n : ℕ) → has_block xs n ≡ false → count n xs ≡ 0
counted_none xs n none = elim (cases_lt 0 (count n xs)) [
  | inl some ↦ absurd (both (counted_any n xs some))
  | inr few ↦ omega (arith, few)
]
  where
    both : has_block xs n ≡ true → ⊥
    both there = let e : true ≡ false = sym there ∙ none in absurd (cc)

-- Lists that have each number equally often have the same blocks.
pub has_same : (a b : List ℕ) → ((n : ℕ) → count n a ≡ count n b) → (n : ℕ) → has_block a n ≡ has_block b n
has_same a b same n =
    both_ways (has_block a n) (has_block b n) (λ h. counted_any n b (omega (arith, same n, any_counted n a h)))
    (λ h. counted_any n a (omega (arith, same n, any_counted n b h)))

pub distinct_same : (a b : List ℕ) → ((n : ℕ) → count n a ≡ count n b) → IsDistinct nat_eq a → IsDistinct nat_eq b
distinct_same a b same once = distinct_from_counts b (λ n. omega (arith, same n, counts_from_distinct a once n))

-- One block more that is another one.
pub distinct_more : (n : ℕ) (xs : List ℕ) → has_block xs n ≡ false → IsDistinct nat_eq xs
    → IsDistinct nat_eq (n ∷ xs)
unfolding IsDistinct
distinct_more n xs other once = (all_other xs other, once)
  where
    all_other : (ys : List ℕ) → has_block ys n ≡ false → AllByRecursion (λ y. nat_eq n y ≡ false) ys
    all_other [] none = tt
    all_other (y ∷ ys) none =
        let parts = or_parts (nat_eq n y) (has_block ys n) none in
        (parts.0, all_other ys parts.1)

-- The one block of a list, and blocks beside one that is another.
pub same_one : (n x : ℕ) → IsTrue (has_block (x ∷ []) n) → n ≡ x
same_one n x there = elim (or_cases (nat_eq n x) false there) [ inl e ↦ eqb-true n x e | inr e ↦ absurd (cc) ]

pub others_differ : (x : ℕ) (xs : List ℕ) (n : ℕ) → IsDistinct nat_eq (x ∷ xs) → IsTrue (has_block xs n)
    → nat_eq n x ≡ false
unfolding IsDistinct
others_differ x xs n once there =
    let other = at_has (λ y. nat_eq x y ≡ false) xs n once.0 there in
    ne_eqb n x (λ e. eqb-false x n other (sym e))

-- Two lists of distinct blocks that have none in common.
pub distinct_apart : (a b : List ℕ) → IsDistinct nat_eq a → IsDistinct nat_eq b
    → ((n : ℕ) → IsTrue (has_block b n) → has_block a n ≡ false) → IsDistinct nat_eq (a ++ b)
distinct_apart a b first second apart = distinct_from_counts (a ++ b) (λ n. elim (cases_lt 0 (count n b)) [
  | inl some ↦ omega (
    arith,
    count_append n a b,
    counted_none a n (apart n (counted_any n b some)),
    counts_from_distinct b second n,
  )
  | inr few ↦ omega (arith, few, count_append n a b, counts_from_distinct a first n)
])
