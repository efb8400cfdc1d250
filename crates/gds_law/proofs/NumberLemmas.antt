-- The tests of numbers' texts and bytes pass exactly those that a number has.
use Rattle.std.proofs.Common.{◌≡◌, ℕ, zero, suc, ◌+◌, ◌-◌, ◌<◌, ◌≤◌, ℤ, pos, negsuc, Bool, true, false, cond, eqb, leb}
use Rattle.std.proofs.Common.{List, [], ◌∷◌, ◌++◌, length, take, drop, map, replicate, refl, sym, ap, ap₂, subst, ◌∙◌}
use Rattle.std.proofs.Common.{◌⊎◌, inl, inr, ◌↔◌, add-one, arith, length-append}
use Rattle.std.specs.Prelude.{slice_index, ◌≤ℤ◌, ◌&&◌, ◌||◌, nat_lt, nat_le, ◌==◌, bytes_eq, filter, flat_map, reverse}
use Rattle.std.specs.Prelude.{IsTrue}
use Rattle.std.specs.List.{list_all, list_any, range_with_len}
use Rattle.std.specs.Char.{is_ascii_digit}
use Rattle.std.proofs.lemmas.Bool.{cases_Bool, and_parts, and_from, or_cases, or_left, or_right, cond-true, cond-false}
use Rattle.std.proofs.lemmas.Bool.{ltb-true, lt-ltb, le-ltb, leb-true, le-leb, eqb-true, eq-eqb, ne_eqb, false≢true}
use Rattle.std.proofs.lemmas.Bool.Decides.{nat_tests}
use Rattle.std.proofs.lemmas.Int.{ints}
use Rattle.std.proofs.lemmas.List.{append-nil, map-id, map-append, take_at, take-append-drop, nil_from_length}
use Rattle.std.proofs.lemmas.List.{replicate_more, reverse-append, reverse-reverse, length-reverse, get_or-reverse}
use Rattle.std.proofs.lemmas.List.Elements.{filter-append, All-from_recursion}
use Rattle.std.proofs.lemmas.List.Folds.{list_any-append}
use Rattle.std.proofs.lemmas.Slice.Eq.{bytes_eq-Decides}
use Rattle.m_number.specs.Numeral.{Numeral, IsNumeral}
use Rattle.m_number.specs.Text.{codes_of, nonzero_text, size_text, text_of}
use Rattle.m_number.specs.Bytes.{first_byte, pairs_of, complement, size_bytes, bytes_of}
use Rattle.m_number.specs.Packed.{pair_of, unfilled}
use Rattle.m_number.proofs.BytesLemmas.{Decimal, decimal_of, bytes_by, first_within, same_numeral}
use Rattle.m_number.proofs.PackedLemmas.{unpacked_again}
use Rattle.gds_law.specs.Number.{are_digits, exponents, numbers_with, without_zeros, significant, is_number_text}
use Rattle.gds_law.specs.Number.{packed_digits, is_number_bytes}

-- ---- which numbers have some digits

below_ten : (ds : List ℕ) → Decimal ds → list_all (λ d. nat_lt d 10) ds ≡ true
below_ten [] h = refl
below_ten (d ∷ ds) h = and_from (nat_lt d 10) _ (lt-ltb d 10 h.0) (below_ten ds h.1)

decimal_from : (ds : List ℕ) → list_all (λ d. nat_lt d 10) ds ≡ true → Decimal ds
decimal_from [] h = tt
decimal_from (d ∷ ds) h =
    let p = and_parts (nat_lt d 10) (list_all (λ d. nat_lt d 10) ds) h in
    (ltb-true d 10 p.0, decimal_from ds p.1)

digits_pass : (ds : List ℕ) → Decimal ds → length ds ≤ 18 → (0 < length ds → 0 < slice_index ds 0)
    → (0 < length ds → 0 < slice_index ds (length ds - 1)) → are_digits ds ≡ true
digits_pass ds decimal count first last =
    and_from (nat_le (length ds) 18 && list_all (λ d. nat_lt d 10) ds) _
    (and_from (nat_le (length ds) 18) _ (le-leb (length ds) 18 count) (below_ten ds decimal))
    (ends_pass (cases_Bool (length ds == 0)))
  where
    ends_pass : (length ds == 0 ≡ true) ⊎ (length ds == 0 ≡ false)
        → ((length ds == 0) || (nat_lt 0 (slice_index ds 0) && nat_lt 0 (slice_index ds (length ds - 1)))) ≡ true
    ends_pass (inl e) = or_left (length ds == 0) _ e
    ends_pass (inr e) =
        let some : 0 < length ds = grind (arith, nat_tests) in
        or_right (length ds ==
        0) _ (and_from (nat_lt 0 (slice_index ds 0)) _ (lt-ltb 0 (slice_index ds 0) (first some))
        (lt-ltb 0 (slice_index ds (length ds - 1)) (last some)))

record AreDigits (ds : List ℕ) : Type 0 where
  decimal : Decimal ds
  count : length ds ≤ 18
  first : 0 < length ds → 0 < slice_index ds 0
  last : 0 < length ds → 0 < slice_index ds (length ds - 1)

digits_from : (ds : List ℕ) → are_digits ds ≡ true → AreDigits ds
digits_from ds h =
    let p = and_parts (nat_le (length ds) 18 && list_all (λ d. nat_lt d 10) ds) ((length ds == 0)
    || (nat_lt 0 (slice_index ds 0) && nat_lt 0 (slice_index ds (length ds - 1)))) h in
    let q = and_parts (nat_le (length ds) 18) (list_all (λ d. nat_lt d 10) ds) p.0 in
    let r = or_cases (length ds == 0) (nat_lt 0 (slice_index ds 0) && nat_lt 0 (slice_index ds (length ds - 1))) p.1 in
    record {
      decimal = decimal_from ds q.1;
      count = leb-true (length ds) 18 q.0;
      first = λ l. (ends_from r l).0;
      last =
          λ l. (ends_from r l).1;
    }
  where
    ends_from : (length ds == 0 ≡ true)
        ⊎ ((nat_lt 0 (slice_index ds 0) && nat_lt 0 (slice_index ds (length ds - 1))) ≡ true) → 0 < length ds
        → (0 < slice_index ds 0) × (0 < slice_index ds (length ds - 1))
    ends_from (inl e) l = let n = eqb-true (length ds) 0 e in absurd (omega arith)
    ends_from (inr e) l =
        let p = and_parts (nat_lt 0 (slice_index ds 0)) (nat_lt 0 (slice_index ds (length ds - 1))) e in
        (ltb-true 0 (slice_index ds 0) p.0, ltb-true 0 (slice_index ds (length ds - 1)) p.1)

-- ---- tests of some element

list_any-map : {X Y : Type 0} (f : X → Y) (test : Y → Bool) (xs : List X)
    → list_any test (map f xs) ≡ list_any (λ x. test (f x)) xs
list_any-map f test [] = refl
list_any-map f test (x ∷ xs) = ap (λ b. test (f x) || b) (list_any-map f test xs)

any_left : {X : Type 0} (test : X → Bool) (xs ys : List X) → list_any test xs ≡ true → list_any test (xs ++ ys) ≡ true
any_left test xs ys h = list_any-append test xs ys ∙ or_left (list_any test xs) (list_any test ys) h

any_right : {X : Type 0} (test : X → Bool) (xs ys : List X) → list_any test ys ≡ true → list_any test (xs ++ ys) ≡ true
any_right test xs ys h = list_any-append test xs ys ∙ or_right (list_any test xs) (list_any test ys) h

any_either : {X : Type 0} (test : X → Bool) (xs ys : List X) → list_any test (xs ++ ys) ≡ true
    → (list_any test xs ≡ true) ⊎ (list_any test ys ≡ true)
any_either test xs ys h = or_cases (list_any test xs) (list_any test ys) (sym (list_any-append test xs ys) ∙ h)

any_range : (test : ℕ → Bool) (n a k : ℕ) → a ≤ k → k < a + n → test k ≡ true
    → list_any test (range_with_len a n) ≡ true
any_range test zero a k low high h = absurd (omega arith)
any_range test (suc n) a k low high h =
    elim (cases_Bool (eqb a k)) [
      | inl e ↦ or_left (test a) _ (ap test (eqb-true a k e) ∙ h)
      | inr e ↦
          let less : a < k = grind (arith, nat_tests) in
          or_right (test a) (list_any test (range_with_len (a + 1) n)) (any_range test n (a
          + 1) k (omega arith) (omega arith) h)
    ]

record Within (test : ℕ → Bool) (low high : ℕ) : Type 0 where
  at : ℕ
  above : low ≤ at
  below : at < high
  passes : test at ≡ true

range_any : (test : ℕ → Bool) (n a : ℕ) → list_any test (range_with_len a n) ≡ true → Within test a (a + n)
range_any test zero a h = absurd (false≢true h)
range_any test (suc n) a h =
    elim (or_cases (test a) (list_any test (range_with_len (a + 1) n)) h) [
      | inl e ↦ record { at = a; above = omega arith; below = omega arith; passes = e }
      | inr e ↦
          let w = range_any test n (a + 1) e in
          record { at = w.at; above = omega arith; below = omega arith; passes = w.passes }
    ]

-- each exponent is tried, and no other number
any_exponent : (test : ℤ → Bool) (e : ℤ) → negsuc 42 ≤ℤ e → e ≤ℤ pos 46 → test e ≡ true → list_any test exponents ≡ true
any_exponent test (negsuc k) low high h =
    any_left test (map negsuc (range_with_len 0 43)) (map pos (range_with_len 0 47))
    (list_any-map negsuc test (range_with_len 0 43)
    ∙ any_range (λ k. test (negsuc k)) 43 0 k (omega arith) (omega (arith, ints)) h)
any_exponent test (pos k) low high h =
    any_right test (map negsuc (range_with_len 0 43)) (map pos (range_with_len 0 47))
    (list_any-map pos test (range_with_len 0 47)
    ∙ any_range (λ k. test (pos k)) 47 0 k (omega arith) (omega (arith, ints)) h)

record Tried (test : ℤ → Bool) : Type 0 where
  exponent : ℤ
  least : negsuc 42 ≤ℤ exponent
  greatest : exponent ≤ℤ pos 46
  passes : test exponent ≡ true

exponent_any : (test : ℤ → Bool) → list_any test exponents ≡ true → Tried test
exponent_any test h = by_sign (any_either test (map negsuc (range_with_len 0 43)) (map pos (range_with_len 0 47)) h)
  where
    by_sign : (list_any test (map negsuc (range_with_len 0 43)) ≡ true)
        ⊎ (list_any test (map pos (range_with_len 0 47)) ≡ true) → Tried test
    by_sign (inl e) =
        let w = range_any (λ k. test (negsuc k)) 43 0 (sym (list_any-map negsuc test (range_with_len 0 43)) ∙ e) in
        record {
          exponent = negsuc w.at;
          least = omega (arith, ints);
          greatest = omega (arith, ints);
          passes =
              w.passes;
        }
    by_sign (inr e) =
        let w = range_any (λ k. test (pos k)) 47 0 (sym (list_any-map pos test (range_with_len 0 47)) ∙ e) in
        record { exponent = pos w.at; least = omega (arith, ints); greatest = omega (arith, ints); passes = w.passes }

-- ---- the numbers with some digits

abbrev numeral : Bool → List ℕ → ℤ → Numeral
numeral negative digits exponent = record { negative = negative; digits = digits; exponent = exponent }

abbrev zero_alone : List Numeral
zero_alone = numeral false [] (pos 0) ∷ []

abbrev signed_alike : List ℕ → List Numeral
signed_alike ds = map (numeral false ds) exponents ++ map (numeral true ds) exponents

numbers_by : (test : Numeral → Bool) (right none : Bool) (ds : List ℕ) → right ≡ true
    → list_any test (cond none zero_alone (signed_alike ds)) ≡ true
    → list_any test (cond right (cond none zero_alone (signed_alike ds)) []) ≡ true
numbers_by test true none ds e h = h
numbers_by test false none ds e h = absurd (false≢true e)

signed_any : (test : Numeral → Bool) (negative : Bool) (ds : List ℕ) (e : ℤ) → negsuc 42 ≤ℤ e → e ≤ℤ pos 46
    → test (numeral negative ds e) ≡ true → list_any test (signed_alike ds) ≡ true
signed_any test false ds e low high h =
    any_left test (map (numeral false ds) exponents) (map (numeral true ds) exponents)
    (list_any-map (numeral false ds) test exponents ∙ any_exponent (λ x. test (numeral false ds x)) e low high h)
signed_any test true ds e low high h =
    any_right test (map (numeral false ds) exponents) (map (numeral true ds) exponents)
    (list_any-map (numeral true ds) test exponents ∙ any_exponent (λ x. test (numeral true ds x)) e low high h)

zero_or_signed : (test : Numeral → Bool) (n : Numeral) → IsNumeral n → (none : Bool) → eqb (length n.digits) 0 ≡ none
    → test n ≡ true → list_any test (cond none zero_alone (signed_alike n.digits)) ≡ true
zero_or_signed test n h true e t =
    let l = eqb-true (length n.digits) 0 e in
    let same : n ≡ numeral false [] (pos 0) =
    same_numeral n (numeral false [] (pos 0)) (h.zero_sign l) (nil_from_length n.digits l) (h.zero_exponent l) in
    or_left (test (numeral false [] (pos 0))) false (ap test (sym same) ∙ t)
zero_or_signed test n h false e t = signed_any test n.negative n.digits n.exponent h.least h.greatest t

-- A test that a number passes is passed by some number with its digits.
some_number : (test : Numeral → Bool) (n : Numeral) → IsNumeral n → test n ≡ true
    → list_any test (numbers_with n.digits) ≡ true
unfolding numbers_with
some_number test n h t =
    numbers_by test (are_digits n.digits) (eqb (length n.digits) 0) n.digits
    (digits_pass n.digits (decimal_of n h) h.count h.first h.last)
    (zero_or_signed test n h (eqb (length n.digits) 0) refl t)

record Found (test : Numeral → Bool) : Type 0 where
  number : Numeral
  right : IsNumeral number
  passes : test number ≡ true

right_numeral : (negative : Bool) (ds : List ℕ) (e : ℤ) → AreDigits ds → eqb (length ds) 0 ≡ false → negsuc 42 ≤ℤ e
    → e ≤ℤ pos 46 → IsNumeral (numeral negative ds e)
right_numeral negative ds e h some low high =
    let none : length ds ≡ 0 → ⊥ = λ l. false≢true (sym some ∙ eq-eqb (length ds) 0 l) in
    record {
      decimal = All-from_recursion (λ d. d < 10) ds h.decimal;
      count = h.count;
      first = h.first;
      last = h.last;
      least = low;
      greatest = high;
      zero_sign = λ l. absurd (none l);
      zero_exponent = λ l. absurd (none l);
    }

right_zero : IsNumeral (numeral false [] (pos 0))
right_zero = record {
  decimal = All-from_recursion (λ d. d < 10) [] tt;
  count = omega arith;
  first = λ l. absurd (omega arith);
  last = λ l. absurd (omega arith);
  least = omega (arith, ints);
  greatest = omega (arith, ints);
  zero_sign = λ l. refl;
  zero_exponent = λ l. refl;
}

signed_found : (test : Numeral → Bool) (negative : Bool) (ds : List ℕ) → AreDigits ds → eqb (length ds) 0 ≡ false
    → list_any test (map (numeral negative ds) exponents) ≡ true → Found test
signed_found test negative ds h some t =
    let w = exponent_any (λ x. test (numeral negative ds x)) (sym (list_any-map (numeral negative ds) test exponents)
    ∙ t) in
    record {
      number = numeral negative ds w.exponent;
      right =
          right_numeral negative ds w.exponent h some w.least w.greatest;
      passes = w.passes;
    }

found_by : (test : Numeral → Bool) (right none : Bool) (ds : List ℕ) → are_digits ds ≡ right → eqb (length ds) 0 ≡ none
    → list_any test (cond right (cond none zero_alone (signed_alike ds)) []) ≡ true → Found test
found_by test false none ds r z t = absurd (false≢true t)
found_by test true true ds r z t =
    elim (or_cases (test (numeral false [] (pos 0))) false t) [
      | inl e ↦ record { number = numeral false [] (pos 0); right = right_zero; passes = e }
      | inr e ↦ absurd (false≢true e)
    ]
found_by test true false ds r z t =
    elim (any_either test (map (numeral false ds) exponents) (map (numeral true ds) exponents) t) [
      | inl e ↦ signed_found test false ds (digits_from ds r) z e
      | inr e ↦ signed_found test true ds (digits_from ds r) z e
    ]

-- What some number with these digits passes is passed by a canonical number.
found_number : (test : Numeral → Bool) (ds : List ℕ) → list_any test (numbers_with ds) ≡ true → Found test
unfolding numbers_with
found_number test ds t = found_by test (are_digits ds) (eqb (length ds) 0) ds refl refl t

-- ---- the digits in bytes

abbrev plus_digits : List ℕ → List ℕ
plus_digits bytes = unfilled (flat_map (pair_of false) (drop 1 bytes))

abbrev minus_digits : List ℕ → List ℕ
minus_digits bytes = unfilled (flat_map (pair_of true) (drop 1 (take (length bytes - 1) bytes)))

packed_by : (n : Numeral) → IsNumeral n → (none negative : Bool) → eqb (length n.digits) 0 ≡ none
    → packed_digits (bytes_by none negative n) ≡ n.digits
packed_by n h true negative e = sym (nil_from_length n.digits (eqb-true (length n.digits) 0 e))
packed_by n h false true e =
    let f = first_within n.exponent h.least h.greatest in
    let some : 0 < length n.digits = grind (arith, nat_tests) in
    let all : List ℕ = complement (size_bytes n) ++ 255 ∷ [] in
    let size : length (complement (size_bytes n) ++ 255 ∷ []) - 1 ≡ length (complement (size_bytes n)) =
    omega (arith, length-append (complement (size_bytes n)) (255 ∷ [])) in
    let front : take (length (complement (size_bytes n) ++ 255 ∷ []) - 1) (complement (size_bytes n) ++ 255 ∷ [])
    ≡ complement (size_bytes n) = take_at (complement (size_bytes n)) (255 ∷ []) _ (sym size) in
    cond-false (nat_lt 128 (255 - first_byte n.exponent)) (plus_digits (complement (size_bytes n)
    ++ 255 ∷ [])) (minus_digits (complement (size_bytes n)
    ++ 255 ∷ [])) (le-ltb 128 (255 - first_byte n.exponent) (omega (arith, f.0)))
    ∙ ap (λ (xs : List ℕ). unfilled (flat_map (pair_of true) (drop 1 xs))) front ∙ unpacked_again true n h some
packed_by n h false false e =
    let f = first_within n.exponent h.least h.greatest in
    let some : 0 < length n.digits = grind (arith, nat_tests) in
    cond-true (nat_lt 128 (first_byte n.exponent)) (plus_digits (size_bytes n)) (minus_digits (size_bytes n))
    (lt-ltb 128 (first_byte n.exponent) (omega (arith, f.0)))
    ∙ ap (λ (xs : List ℕ). unfilled (flat_map (pair_of false) xs)) (sym (map-id (pairs_of n.digits)))
    ∙ unpacked_again false n h some

packed_again : (n : Numeral) → IsNumeral n → packed_digits (bytes_of n) ≡ n.digits
unfolding bytes_of
packed_again n h = packed_by n h (eqb (length n.digits) 0) n.negative refl

pub bytes_test : (bytes : List ℕ)
    → IsTrue (is_number_bytes bytes) ↔ ((n : Numeral) × IsNumeral n × (bytes_of n ≡ bytes))
unfolding is_number_bytes
bytes_test bytes = (
  λ t. let f = found_number (λ n. bytes_eq (bytes_of n) bytes) (packed_digits bytes) t in
      (f.number, f.right, (bytes_eq-Decides (bytes_of f.number) bytes).0 f.passes),
  λ (n, h, e). ap (λ (ds : List ℕ). list_any (λ n. bytes_eq (bytes_of n) bytes) (numbers_with ds))
      (ap packed_digits (sym e) ∙ packed_again n h)
      ∙ some_number (λ n. bytes_eq (bytes_of n) bytes) n h ((bytes_eq-Decides (bytes_of n) bytes).1 e),
)

-- ---- the digits in texts

-- the digits that stand in a text
abbrev digits_in : List ℕ → List ℕ
digits_in text = map (λ b. b - 48) (filter is_ascii_digit text)

-- without the zeros on both sides
abbrev stripped : List ℕ → List ℕ
stripped ds = reverse (without_zeros (reverse (without_zeros ds)))

abbrev zeros : ℕ → List ℕ
zeros k = replicate k 0

digits_in-append : (xs ys : List ℕ) → digits_in (xs ++ ys) ≡ digits_in xs ++ digits_in ys
digits_in-append xs ys =
    ap (map (λ b. b - 48)) (filter-append is_ascii_digit xs ys)
    ∙ map-append (λ b. b - 48) (filter is_ascii_digit xs) (filter is_ascii_digit ys)

digits_in-digit : (d : ℕ) (text : List ℕ) → d < 10 → digits_in ((48 + d) ∷ text) ≡ d ∷ digits_in text
digits_in-digit d text h =
    let t : is_ascii_digit (48 + d) ≡ true = grind (arith, nat_tests) in
    let e : (48 + d) - 48 ≡ d = omega arith in
    ap (map (λ b. b - 48)) (cond-true (is_ascii_digit (48 + d)) ((48
    + d) ∷ filter is_ascii_digit text) (filter is_ascii_digit text) t)
    ∙ ap (λ x. x ∷ digits_in text) e

digits_in-codes : (ds : List ℕ) → Decimal ds → digits_in (codes_of ds) ≡ ds
digits_in-codes [] h = refl
digits_in-codes (d ∷ ds) h = digits_in-digit d (codes_of ds) h.0 ∙ ap (λ xs. d ∷ xs) (digits_in-codes ds h.1)

digits_in-zeros : (k : ℕ) → digits_in (replicate k 48) ≡ zeros k
digits_in-zeros zero = refl
digits_in-zeros (suc k) = ap (λ xs. 0 ∷ xs) (digits_in-zeros k)

without_zeros-zeros : (k : ℕ) (ds : List ℕ) → without_zeros (zeros k ++ ds) ≡ without_zeros ds
without_zeros-zeros zero ds = refl
without_zeros-zeros (suc k) ds = without_zeros-zeros k ds

without_zeros-kept : (ds : List ℕ) → 0 < length ds → 0 < slice_index ds 0 → without_zeros ds ≡ ds
without_zeros-kept [] some first = refl
without_zeros-kept (d ∷ ds) some first =
    cond-false (eqb d 0) (without_zeros ds) (d ∷ ds) (ne_eqb d 0 (λ e. omega arith))

reverse-zeros : (k : ℕ) → reverse (zeros k) ≡ zeros k
reverse-zeros zero = refl
reverse-zeros (suc k) =
    reverse-append (0 ∷ []) (zeros k) ∙ ap (λ xs. xs ++ 0 ∷ []) (reverse-zeros k) ∙ replicate_more k 0
    ∙ ap zeros (add-one k)

stripped-zeros : (j k : ℕ) (ds : List ℕ) → 0 < length ds → 0 < slice_index ds 0 → 0 < slice_index ds (length ds - 1)
    → stripped (zeros j ++ (ds ++ zeros k)) ≡ ds
stripped-zeros j k [] some first last = absurd (omega arith)
stripped-zeros j k (d ∷ ds) some first last =
    let front : without_zeros (zeros j ++ (d ∷ ds ++ zeros k)) ≡ d ∷ ds ++ zeros k =
    without_zeros-zeros j (d ∷ ds ++ zeros k) ∙ without_zeros-kept (d ∷ ds ++ zeros k) (omega arith) first in
    let turned : reverse (d ∷ ds ++ zeros k) ≡ zeros k ++ reverse (d ∷ ds) = reverse-append (d ∷ ds) (zeros k)
    ∙ ap (λ xs. xs ++ reverse (d ∷ ds)) (reverse-zeros k) in
    let at : slice_index (reverse (d ∷ ds)) 0 ≡ slice_index (d ∷ ds) (length (d ∷ ds) - 1 - 0) =
    get_or-reverse (d ∷ ds) 0 0 (omega arith) in
    let same : length (d ∷ ds) - 1 - 0 ≡ length (d ∷ ds) - 1 = omega arith in
    let above : 0 < slice_index (reverse (d ∷ ds)) 0 = omega (arith, last, at ∙ ap (slice_index (d ∷ ds)) same) in
    let back : without_zeros (zeros k ++ reverse (d ∷ ds)) ≡ reverse (d ∷ ds) =
    without_zeros-zeros k (reverse (d ∷ ds))
    ∙ without_zeros-kept (reverse (d ∷ ds)) (omega (arith, length-reverse (d ∷ ds))) above in
    ap (λ xs. reverse (without_zeros (reverse xs))) front ∙ ap (λ xs. reverse (without_zeros xs)) turned
    ∙ ap reverse back ∙ reverse-reverse (d ∷ ds)

decimal_parts : (xs ys : List ℕ) → Decimal (xs ++ ys) → Decimal xs × Decimal ys
decimal_parts [] ys h = (tt, h)
decimal_parts (x ∷ xs) ys h = let r = decimal_parts xs ys h.1 in ((h.0, r.0), r.1)

large_by : (ds : List ℕ) (w : ℕ) → Decimal ds → (b : Bool)
    → (k : ℕ)
    × (digits_in (cond b (codes_of ds ++ replicate (w - length ds) 48) (codes_of (take w ds)
    ++ 46 ∷ codes_of (drop w ds))) ≡ ds ++ zeros k)
large_by ds w h true = (
  w - length ds,
  digits_in-append (codes_of ds) (replicate (w - length ds) 48)
      ∙ ap₂ (λ xs ys. xs ++ ys) (digits_in-codes ds h) (digits_in-zeros (w - length ds)),
)
large_by ds w h false =
    let p = decimal_parts (take w ds) (drop w ds) (subst Decimal (sym (take-append-drop w ds)) h) in (
      0,
      digits_in-append (codes_of (take w ds)) (46 ∷ codes_of (drop w ds))
          ∙ ap₂ (λ xs ys. xs ++ ys) (digits_in-codes (take w ds) p.0) (digits_in-codes (drop w ds) p.1)
          ∙ take-append-drop w ds ∙ sym (append-nil ds),
    )

record Padded (ds text : List ℕ) : Type 0 where
  before : ℕ
  after : ℕ
  is : digits_in text ≡ zeros before ++ (ds ++ zeros after)

nonzero_padded : (ds : List ℕ) (e : ℤ) → Decimal ds → Padded ds (nonzero_text ds e)
nonzero_padded ds (pos e) h = let r = large_by ds (e + 1) h (leb (length ds) (e + 1)) in
    record { before = 0; after = r.0; is = r.1 }
nonzero_padded ds (negsuc k) h = record {
  before = k;
  after = 0;
  is = digits_in-append (replicate k 48) (codes_of ds)
      ∙ ap₂ (λ xs ys. xs ++ ys) (digits_in-zeros k) (digits_in-codes ds h ∙ sym (append-nil ds));
}

size_by : (n : Numeral) → IsNumeral n → (none : Bool) → eqb (length n.digits) 0 ≡ none
    → stripped (digits_in (cond none (48 ∷ []) (nonzero_text n.digits n.exponent))) ≡ n.digits
size_by n h true e = sym (nil_from_length n.digits (eqb-true (length n.digits) 0 e))
size_by n h false e =
    let some : 0 < length n.digits = grind (arith, nat_tests) in
    let p = nonzero_padded n.digits n.exponent (decimal_of n h) in
    ap stripped p.is ∙ stripped-zeros p.before p.after n.digits some (h.first some) (h.last some)

text_by : (n : Numeral) → IsNumeral n → (negative : Bool)
    → significant (cond negative (45 ∷ size_text n.digits n.exponent) (size_text n.digits n.exponent)) ≡ n.digits
text_by n h true = size_by n h (eqb (length n.digits) 0) refl
text_by n h false = size_by n h (eqb (length n.digits) 0) refl

significant_again : (n : Numeral) → IsNumeral n → significant (text_of n) ≡ n.digits
unfolding text_of
significant_again n h = text_by n h n.negative

pub text_test : (text : List ℕ) → IsTrue (is_number_text text) ↔ ((n : Numeral) × IsNumeral n × (text_of n ≡ text))
unfolding is_number_text
text_test text = (
  λ t. let f = found_number (λ n. bytes_eq (text_of n) text) (significant text) t in
      (f.number, f.right, (bytes_eq-Decides (text_of f.number) text).0 f.passes),
  λ (n, h, e). ap (λ (ds : List ℕ). list_any (λ n. bytes_eq (text_of n) text) (numbers_with ds))
      (ap significant (sym e) ∙ significant_again n h)
      ∙ some_number (λ n. bytes_eq (text_of n) text) n h ((bytes_eq-Decides (text_of n) text).1 e),
)
