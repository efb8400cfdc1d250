-- Entries that are cut into runs, and the places of their records.
use Rattle.std.proofs.Common.{◌≡◌, ◌≢◌, ◌≤◌, ◌<◌, ◌+◌, ℕ, suc, List, [], ◌∷◌, ◌++◌, length, drop, take, sym, ap, ◌∙◌}
use Rattle.std.proofs.Common.{arith, subst}
use Rattle.std.proofs.Common.{◌-◌, length-append, length-drop, refl, inl, inr}
use Rattle.std.proofs.Math.Seq.{take-append_seam}
use Rattle.std.proofs.lemmas.Bool.{cases_lt}
use Rattle.std.proofs.lemmas.List.{take-map, drop-map, length-map, take_all, length-take-le}
use Rattle.gds_block.specs.Item.{Item}
use Rattle.gds_pack.specs.Cut.{CanBeCut}
use Rattle.gds_pack.specs.Entry.{item, items}
use Rattle.gds_pack.specs.Packed.{key_behind, packed_size, records_size}
use Rattle.gds_pack.specs.declared.entry.Entry.{Entry}
use Rattle.gds_pack.proofs.BoundLemmas.{CanBeCut-three}
use Rattle.gds_pack.proofs.CutLemmas.{CanBeCut-first, CanBeCut-one, CanBeCut-rest, Fitting, take-add}
use Rattle.gds_pack.proofs.SizeLemmas.{records_size-append}
use Rattle.gds_splice.specs.Parts.{FitInRuns, FitInThree}

-- a list with a length isn't empty
pub some_of : {A : Type 0} (xs : List A) → 0 < length xs → xs ≢ []
some_of [] h = absurd (omega arith)
some_of (x ∷ xs) h = λ e. absurd (let no : x ∷ xs ≡ [] = e in cc)

some_long : (xs : List Item) → xs ≢ [] → 0 < length xs
some_long [] h = absurd (h refl)
some_long (x ∷ xs) h = omega arith

take_some : (k : ℕ) (xs : List Item) → 0 < k → k ≤ length xs → take k xs ≢ []
take_some k xs some within = some_of (take k xs) (omega (arith, length-take-le k xs within))

cut_of : (limit : ℕ) (es : List Item) → FitInThree limit es → CanBeCut 3 limit es
cut_of limit es f =
    subst (CanBeCut 3 limit) (sym f.whole)
    (CanBeCut-three limit f.front f.middle f.back f.front_fits f.middle_fits f.back_fits)

module _ (limit first : ℕ) (list : List Entry) (front : Fitting limit first list) where
  long : length (items list) ≡ length list
  long = length-map list item

  most_first : first < length list → limit < packed_size (take (first + 1) (items list))
  most_first more =
      subst (λ (xs : List Item). limit < packed_size xs) (sym (take-map item (first + 1) list)) (front.most more)

  fits_first : packed_size (take first (items list)) ≤ limit
  fits_first = subst (λ (xs : List Item). packed_size xs ≤ limit) (sym (take-map item first list)) front.fits

  pub none_fits : first ≡ 0 → FitInThree limit (items list) → ⊥
  none_fits none f =
      let some : 0 < length (items list) = some_long (items list) f.some in
      let one = CanBeCut-first 3 limit (items list) (cut_of limit (items list) f) some in
      let first_one : first + 1 ≡ 1 = omega arith in
      let most = most_first (omega (arith, long)) in
      omega (arith, one, subst (λ (n : ℕ). limit < packed_size (take n (items list))) first_one most)

  pub all_fit : 0 < first → first ≡ length list → FitInRuns limit [] (items list)
  all_fit some all =
      let same : take first (items list) ≡ items list = take_all first (items list) (omega (arith, long)) in (
        some_of (items list) (omega (arith, long)),
        subst (λ (xs : List Item). packed_size xs ≤ limit) same fits_first,
      )

  pub behind_fits : 0 < first → (lengths : List ℕ) → FitInRuns limit lengths (items (drop first list))
      → FitInRuns limit (first ∷ lengths) (items list)
  behind_fits some lengths fits = (
    take_some first (items list) some (omega (arith, long, front.within)),
    fits_first,
    subst (FitInRuns limit lengths) (sym (drop-map item first list)) fits,
  )

  -- what is left of entries that can be cut can be cut into one run less
  pub less : (n : ℕ) → first < length list → CanBeCut (suc n) limit (items list)
      → CanBeCut n limit (items (drop first list))
  less n more can =
      subst (CanBeCut n limit) (drop-map item first list)
      (CanBeCut-rest n limit first (items list) can (most_first more))

  pub none_left : (n : ℕ) → first ≡ 0 → 0 < length list → CanBeCut n limit (items list) → ⊥
  none_left n none some can =
      let one = CanBeCut-first n limit (items list) can (omega (arith, long)) in
      let first_one : first + 1 ≡ 1 = omega arith in
      let most = most_first (omega arith) in
      omega (arith, one, subst (λ (k : ℕ). limit < packed_size (take k (items list))) first_one most)

module _ (limit first second : ℕ) (list : List Entry) (front : Fitting limit first list)
    (next : Fitting limit second (drop first list)) (more : first < length list) where
  pub second_none : second ≡ 0 → FitInThree limit (items list) → ⊥
  second_none none f =
      none_left limit second (drop first list) next 2 none (omega (arith, length-drop first list))
      (less limit first list front 2 more (cut_of limit (items list) f))

  pub third_fits : second < length (drop first list) → FitInThree limit (items list)
      → packed_size (items (drop second (drop first list))) ≤ limit
  third_fits last f =
      CanBeCut-one limit (items (drop second (drop first list)))
      (less limit second (drop first list) next 1 last
      (less limit first list front 2 more (cut_of limit (items list) f)))

  pub two_runs : 0 < first → 0 < second → second ≡ length (drop first list)
      → FitInRuns limit (first ∷ []) (items list)
  two_runs some some' all =
      behind_fits limit first list front some [] (all_fit limit second (drop first list) next some' all)

  pub three_runs : 0 < first → 0 < second → second < length (drop first list)
      → packed_size (items (drop second (drop first list))) ≤ limit
      → FitInRuns limit (first ∷ second ∷ []) (items list)
  three_runs some some' last fits =
      let left : List Entry = drop second (drop first list) in
      behind_fits limit first list front some (second ∷ [])
      (behind_fits limit second (drop first list) next some' []
      (some_of (items left) (omega (arith, length-map left item, length-drop second (drop first list))), fits))

pub rest_whole : {A : Type 0} (k : ℕ) (xs : List A) → take (length xs - k) (drop k xs) ≡ drop k xs
rest_whole k xs = take_all (length xs - k) (drop k xs) (omega (arith, length-drop k xs))

-- Each record takes some bytes, so only one front of entries takes so many.
pub packed_size-more : (es : List Item) (m n : ℕ) → m < n → n ≤ length es
    → packed_size (take m es) < packed_size (take n es)
packed_size-more es m n fewer within =
    let there : m + (n - m) ≡ n = omega arith in
    let parts : take n es ≡ take m es ++ take (n - m) (drop m es) =
    ap (λ k. take k es) (sym there) ∙ take-add m (n - m) es in
    let some : 0 < length (take (n - m) (drop m es)) =
    omega (arith, length-take-le (n - m) (drop m es) (omega (arith, length-drop m es)), length-drop m es) in
    omega (
      arith,
      ap packed_size parts,
      records_size-append [] (take m es) (take (n - m) (drop m es)),
      records_some (key_behind [] (take m es)) (take (n - m) (drop m es)) some,
    )
  where
    records_some : (previous : List ℕ) (xs : List Item) → 0 < length xs → 0 < records_size previous xs
    records_some previous [] h = absurd (omega arith)
    records_some previous (x ∷ xs) h = omega arith

pub place_is : (es front back : List Item) (e : Item) (i offset : ℕ) → es ≡ front ++ e ∷ back
    → packed_size front ≡ offset → i < length es → packed_size (take i es) ≡ offset → length front ≡ i
place_is es front back e i offset is size within size' =
    let long : length es ≡ length front + suc (length back) = ap length is ∙ length-append front (e ∷ back) in
    let same : take (length front) es ≡ front = ap (take (length front)) is ∙ take-append_seam front (e ∷ back) in
    let front_size : packed_size (take (length front) es) ≡ offset = ap packed_size same ∙ size in
    elim (cases_lt (length front) i) [
      | inl h ↦ absurd (omega (arith, packed_size-more es (length front) i h (omega arith)))
      | inr h ↦
          elim (cases_lt i (length front)) [
            | inl k ↦ absurd (omega (arith, packed_size-more es i (length front) k (omega (arith, long))))
            | inr k ↦ omega arith
          ]
    ]

pub none_there : (list : List Entry) (offset : ℕ) (front back : List Item) (e : Item) → items list ≡ front ++ e ∷ back
    → packed_size front ≡ offset → ((k : ℕ) → k < length list → packed_size (items (take k list)) ≢ offset) → ⊥
none_there list offset front back e is size never =
    let long : length (items list) ≡ length front + suc (length back) = ap length is ∙ length-append front (e ∷ back) in
    let same : take (length front) (items list) ≡ front =
    ap (take (length front)) is ∙ take-append_seam front (e ∷ back) in
    never (length front) (omega (arith, long, length-map list item))
    (ap packed_size (sym (take-map item (length front) list) ∙ same) ∙ size)
