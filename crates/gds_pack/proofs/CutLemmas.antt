-- Laws of lists that are cut into runs.
use Rattle.std.proofs.Common.{ℕ, zero, suc, ◌≡◌, ◌+◌, ◌-◌, ◌≤◌, ◌<◌, List, [], ◌∷◌, ◌++◌, length, take, drop, inl, inr}
use Rattle.std.proofs.Common.{refl, sym, ◌∙◌, ap, subst, arith, length-drop}
use Rattle.std.specs.List.{flat_map}
use Rattle.std.proofs.lemmas.Bool.{cases_lt}
use Rattle.std.proofs.lemmas.List.{append-nil, take-append-drop, drop-drop, drop-take, drop_all, take-take, take_all}
use Rattle.std.proofs.lemmas.List.{take-map, drop-map, length-map}
use Rattle.gds_block.specs.Item.{Item}
use Rattle.gds_pack.specs.Packed.{packed_size}
use Rattle.gds_pack.specs.Entry.{item, items}
use Rattle.gds_pack.specs.declared.entry.Entry.{Entry}
use Rattle.gds_pack.specs.Cut.{runs_from, runs, AreFullRuns, CanBeCut}
use Rattle.gds_pack.proofs.SizeLemmas.{packed_size-front, packed_size-back}

-- The runs joined are the list.
pub joined-runs_from : (places : List ℕ) (from : ℕ) (items : List Item)
    → flat_map (λ run. run) (runs_from from places items) ≡ items
joined-runs_from [] from items = append-nil items
joined-runs_from (at ∷ places) from items =
    ap (λ xs. take (at - from) items ++ xs) (joined-runs_from places at (drop (at - from) items))
    ∙ take-append-drop (at - from) items

pub packed_size-take-le : (n : ℕ) (items : List Item) → packed_size (take n items) ≤ packed_size items
packed_size-take-le n items =
    subst (λ (xs : List Item). packed_size (take n items) ≤ packed_size xs) (take-append-drop n items)
    (packed_size-front (take n items) (drop n items))

pub packed_size-drop-le : (n : ℕ) (items : List Item) → packed_size (drop n items) ≤ packed_size items
packed_size-drop-le n items =
    subst (λ (xs : List Item). packed_size (drop n items) ≤ packed_size xs) (take-append-drop n items)
    (packed_size-back (take n items) (drop n items))

pub packed_size-take_below : (m n : ℕ) (items : List Item) → m ≤ n
    → packed_size (take m items) ≤ packed_size (take n items)
packed_size-take_below m n items h =
    subst (λ (xs : List Item). packed_size xs ≤ packed_size (take n items)) (take-take m n items h)
    (packed_size-take-le m (take n items))

part_fits : (at k : ℕ) (items : List Item) → packed_size (take (at - k) (drop k items)) ≤ packed_size (take at items)
part_fits at k items =
    elim (cases_lt k at) [
      | inl h ↦
          let whole : k + (at - k) ≡ at = omega arith in
          let same : take (at - k) (drop k items) ≡ drop k (take at items) =
          sym (drop-take k (at - k) items) ∙ ap (λ n. drop k (take n items)) whole in
          subst (λ (xs : List Item). packed_size xs ≤ packed_size (take at items)) (sym same)
          (packed_size-drop-le k (take at items))
      | inr h ↦
          let none : at - k ≡ 0 = omega arith in
          rw none (omega arith)
    ]

-- What can be cut can still be cut once its front is gone.
pub CanBeCut-drop : (n limit k : ℕ) (items : List Item) → CanBeCut n limit items → CanBeCut n limit (drop k items)
CanBeCut-drop zero limit k items h = ap (drop k) h ∙ drop_all k [] (omega arith)
CanBeCut-drop (suc n) limit k items (at, fits, rest) =
    let places : at + (k - at) ≡ k + (at - k) = omega arith in
    let same : drop (k - at) (drop at items) ≡ drop (at - k) (drop k items) =
    drop-drop (k - at) at items ∙ ap (λ m. drop m items) places ∙ sym (drop-drop (at - k) k items) in (
      at - k,
      omega (arith, part_fits at k items),
      subst (CanBeCut n limit) same (CanBeCut-drop n limit (k - at) (drop at items) rest),
    )

-- Where as many items as fit are taken, what is left can be cut into one run less.
pub CanBeCut-rest : (n limit m : ℕ) (items : List Item) → CanBeCut (suc n) limit items
    → limit < packed_size (take (m + 1) items) → CanBeCut n limit (drop m items)
CanBeCut-rest n limit m items (at, fits, rest) h =
    let below : at ≤ m =
    elim (cases_lt m at) [
      | inl k ↦ absurd (omega (arith, packed_size-take_below (m + 1) at items (omega arith)))
      | inr k ↦ k
    ] in
    let places : at + (m - at) ≡ m = omega arith in
    subst (CanBeCut n limit) (drop-drop (m - at) at items ∙ ap (λ k. drop k items) places)
    (CanBeCut-drop n limit (m - at) (drop at items) rest)

pub CanBeCut-least : (n limit : ℕ) (items : List Item) → CanBeCut (suc n) limit items → 16 ≤ limit
CanBeCut-least n limit items (at, fits, rest) = omega arith

pub CanBeCut-one : (limit : ℕ) (items : List Item) → CanBeCut 1 limit items → packed_size items ≤ limit
CanBeCut-one limit items (at, fits, rest) =
    let whole : take at items ≡ items =
    sym (append-nil (take at items)) ∙ ap (λ xs. take at items ++ xs) (sym rest) ∙ take-append-drop at items in
    subst (λ (xs : List Item). packed_size xs ≤ limit) whole fits

-- What can be cut has a first item that fits.
pub CanBeCut-first : (n limit : ℕ) (items : List Item) → CanBeCut n limit items → 0 < length items
    → packed_size (take 1 items) ≤ limit
CanBeCut-first zero limit [] h k = absurd (omega arith)
CanBeCut-first zero limit (i ∷ items) h k = absurd (cc)
CanBeCut-first (suc n) limit items (zero, fits, rest) k = CanBeCut-first n limit items rest k
CanBeCut-first (suc n) limit items (suc at, fits, rest) k =
    omega (arith, packed_size-take_below 1 (suc at) items (omega arith))

pub take-add : (n m : ℕ) (items : List Item) → take (n + m) items ≡ take n items ++ take m (drop n items)
take-add n m items =
    sym (take-append-drop n (take (n + m) items))
    ∙ ap (λ xs. xs ++ drop n (take (n + m) items)) (take-take n (n + m) items (omega arith))
    ∙ ap (λ xs. take n items ++ xs) (drop-take n m items)

pub AreFullRuns-two : (limit first : ℕ) (items : List Item) → packed_size (take first items) ≤ limit
    → limit < packed_size (take (first + 1) items) → packed_size (drop first items) ≤ limit
    → AreFullRuns limit (runs (first ∷ []) items)
AreFullRuns-two limit first items fits most last =
    let same : first - 0 ≡ first = omega arith in
    let more : limit < packed_size (take first items ++ take 1 (drop first items)) =
    subst (λ (xs : List Item). limit < packed_size xs) (take-add first 1 items) most in
    subst (λ (k : ℕ). AreFullRuns limit (take k items ∷ drop k items ∷ [])) (sym same) (fits, more, last)

pub AreFullRuns-three : (limit first size second : ℕ) (items : List Item) → second ≡ first + size → 0 < size
    → packed_size (take first items) ≤ limit → limit < packed_size (take (first + 1) items)
    → packed_size (take size (drop first items)) ≤ limit → limit < packed_size (take (size + 1) (drop first items))
    → packed_size (drop size (drop first items)) ≤ limit
    → AreFullRuns limit (runs (first ∷ second ∷ []) items)
AreFullRuns-three limit first size second items place some fits most fits' most' last =
    let same : first - 0 ≡ first = omega arith in
    let gap : second - first ≡ size = omega arith in
    let one : take 1 (take size (drop first items)) ≡ take 1 (drop first items) =
    take-take 1 size (drop first items) (omega arith) in
    let more : limit < packed_size (take first items ++ take 1 (take size (drop first items))) =
    subst (λ (xs : List Item). limit < packed_size xs)
    (take-add first 1 items ∙ ap (λ xs. take first items ++ xs) (sym one)) most in
    let more' : limit < packed_size (take size (drop first items) ++ take 1 (drop size (drop first items))) =
    subst (λ (xs : List Item). limit < packed_size xs) (take-add size 1 (drop first items)) most' in
    subst (λ (k : ℕ). AreFullRuns limit (take k items ∷ take (second - first) (drop k items) ∷ drop (second - first)
    (drop k items) ∷ [])) (sym same)
    (subst (λ (k : ℕ). AreFullRuns limit (take first items ∷ take k (drop first items) ∷ drop k
    (drop first items) ∷ [])) (sym gap) (fits, more, (fits', more', last)))

-- What is known of the front of a list of entries that takes as many as fit.
pub record Fitting (limit n : ℕ) (list : List Entry) : Type 0 where
  pub within : n ≤ length list
  pub fits : packed_size (items (take n list)) ≤ limit
  pub most : n < length list → limit < packed_size (items (take (n + 1) list))

module _ (limit first size : ℕ) (list : List Entry) (cut : CanBeCut 3 limit (items list))
    (front : Fitting limit first list) (next : Fitting limit size (drop first list)) (more : first < length list) where
  fits_first : packed_size (take first (items list)) ≤ limit
  fits_first = subst (λ (xs : List Item). packed_size xs ≤ limit) (sym (take-map item first list)) front.fits

  most_first : limit < packed_size (take (first + 1) (items list))
  most_first =
      subst (λ (xs : List Item). limit < packed_size xs) (sym (take-map item (first + 1) list)) (front.most more)

  rest_is : (n : ℕ) → items (take n (drop first list)) ≡ take n (drop first (items list))
  rest_is n = sym (take-map item n (drop first list)) ∙ ap (take n) (sym (drop-map item first list))

  fits_next : packed_size (take size (drop first (items list))) ≤ limit
  fits_next = subst (λ (xs : List Item). packed_size xs ≤ limit) (rest_is size) next.fits

  pub AreFullRuns-last : length list ≤ first + size → AreFullRuns limit (runs (first ∷ []) (items list))
  AreFullRuns-last h =
      let all : take size (drop first (items list)) ≡ drop first (items list) =
      take_all size (drop first (items list)) (omega (arith, length-drop first (items list), length-map list item))
      in
      AreFullRuns-two limit first (items list) fits_first most_first
      (subst (λ (xs : List Item). packed_size xs ≤ limit) all fits_next)

  pub AreFullRuns-more : first + size < length list
      → AreFullRuns limit (runs (first ∷ (first + size) ∷ []) (items list))
  AreFullRuns-more h =
      let most_next : limit < packed_size (take (size + 1) (drop first (items list))) =
      subst (λ (xs : List Item). limit < packed_size xs) (rest_is (size + 1))
      (next.most (omega (arith, length-drop first list))) in
      let cut_rest : CanBeCut 2 limit (drop first (items list)) =
      CanBeCut-rest 2 limit first (items list) cut most_first in
      let one = CanBeCut-first 2 limit (drop first (items list)) cut_rest
      (omega (arith, length-drop first (items list), length-map list item)) in
      let some : 0 < size =
      elim (cases_lt 0 size) [
        | inl k ↦ k
        | inr k ↦
            let none : size + 1 ≡ 1 = omega arith in
            absurd (omega (
              arith,
              one,
              subst (λ (n : ℕ). limit < packed_size (take n (drop first (items list)))) none
                  most_next,
            ))
      ] in
      let last = CanBeCut-one limit (drop size (drop first (items list)))
      (CanBeCut-rest 1 limit size (drop first (items list)) cut_rest most_next) in
      AreFullRuns-three limit first size (first + size) (items list) refl some fits_first most_first fits_next most_next
      last
