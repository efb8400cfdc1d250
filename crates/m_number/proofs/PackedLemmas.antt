-- A number's bytes give the number back.
use Rattle.std.proofs.Common.{◌≡◌, ℕ, ◌+◌, ◌-◌, ◌*◌, ◌/◌, ◌%◌, ◌<◌, ℤ, pos, negsuc, ◌-ℤ◌, Bool, true, false, eqb, List}
use Rattle.std.proofs.Common.{[], ◌∷◌, ◌++◌, length, get_or, drop, map, refl, sym, ap, ◌∙◌, inl, inr, ◌⊎◌, arith}
use Rattle.std.proofs.Common.{append_assoc, length-append}
use Rattle.std.specs.Prelude.{slice_index, ◌≤ℤ◌}
use Rattle.std.specs.List.{flat_map}
use Rattle.std.proofs.lemmas.Bool.{eqb-true}
use Rattle.std.proofs.lemmas.Bool.Decides.{nat_tests}
use Rattle.std.proofs.lemmas.Int.{ints}
use Rattle.std.proofs.lemmas.List.{append-nil, map-id, take_at, drop_more, same_from_push, get_or_push}
use Rattle.m_number.specs.Numeral.{Numeral, IsNumeral}
use Rattle.m_number.specs.Bytes.{first_byte, pairs_of, complement, size_bytes, bytes_of}
use Rattle.m_number.specs.Packed.{signed_byte, pair_of, unfilled}
use Rattle.m_number.proofs.BytesLemmas.{Decimal, decimal_of, bytes_by, first_within, some_from}

-- what the pairs lack is the 0 that fills the last of them
abbrev filling : List ℕ → List ℕ
filling [] = []
filling (a ∷ []) = 0 ∷ []
filling (a ∷ b ∷ ds) = filling ds

pub signed_twice : (negative : Bool) (b : ℕ) → b < 256 → signed_byte negative (signed_byte negative b) ≡ b
signed_twice true b h = omega arith
signed_twice false b h = refl

tens : (a b x : ℕ) → b < 16 → x ≡ 16 * a + b + 1 → (x - 1) / 16 ≡ a
tens a b x hb e = omega arith

ones : (a b x : ℕ) → b < 16 → x ≡ 16 * a + b + 1 → (x - 1) % 16 ≡ b
ones a b x hb e = omega arith

-- a packed byte gives its two digits
pair_again : (negative : Bool) (a b x : ℕ) → a < 10 → b < 10 → x ≡ 16 * a + b + 1
    → pair_of negative (signed_byte negative x) ≡ a ∷ b ∷ []
pair_again negative a b x ha hb e =
    let s = signed_twice negative x (omega arith) in
    let t = tens a b x (omega arith) e in
    let o = ones a b x (omega arith) e in
    rw (s, t, o) refl

pub digits_again : (negative : Bool) (ds : List ℕ) → Decimal ds
    → flat_map (pair_of negative) (map (signed_byte negative) (pairs_of ds)) ≡ ds ++ filling ds
digits_again negative [] h = refl
digits_again negative (a ∷ []) h =
    ap (λ (xs : List ℕ). xs ++ []) (pair_again negative a 0 (16 * a + 1) h.0 (omega arith) (omega arith))
digits_again negative (a ∷ b ∷ ds) h =
    ap (λ (xs : List ℕ). xs ++ flat_map (pair_of negative) (map (signed_byte negative) (pairs_of ds)))
    (pair_again negative a b (16 * a + b + 1) h.0 h.1.0 refl)
    ∙ ap (λ (xs : List ℕ). a ∷ b ∷ xs) (digits_again negative ds h.1.1)

filling_is : (ds : List ℕ) → (filling ds ≡ []) ⊎ (filling ds ≡ 0 ∷ [])
filling_is [] = inl refl
filling_is (a ∷ []) = inr refl
filling_is (a ∷ b ∷ ds) = filling_is ds

unfilled_at : (ds xs : List ℕ) → 0 < length ds → 0 < slice_index ds (length ds - 1) → (xs ≡ []) ⊎ (xs ≡ 0 ∷ [])
    → unfilled (ds ++ xs) ≡ ds
unfilled_at ds xs some last (inl e) =
    let t : eqb (slice_index ds (length ds - 1)) 0 ≡ false = grind (arith, nat_tests) in
    ap unfilled (ap (λ (ys : List ℕ). ds ++ ys) e ∙ append-nil ds) ∙ rw t refl
unfilled_at ds xs some last (inr e) =
    let n : length (ds ++ 0 ∷ []) - 1 ≡ length ds = omega (arith, length-append ds (0 ∷ [])) in
    let z : get_or (ds ++ 0 ∷ []) (length ds) 0 ≡ 0 = get_or_push ds 0 0 (length ds) refl in
    ap unfilled (ap (λ (ys : List ℕ). ds ++ ys) e) ∙ rw (n, z) (take_at ds (0 ∷ []) (length ds) refl)

-- the packed bytes of a number give its digits
pub unpacked_again : (negative : Bool) (n : Numeral) → IsNumeral n → 0 < length n.digits
    → unfilled (flat_map (pair_of negative) (map (signed_byte negative) (pairs_of n.digits))) ≡ n.digits
unpacked_again negative n h some =
    ap unfilled (digits_again negative n.digits (decimal_of n h))
    ∙ unfilled_at n.digits (filling n.digits) some (h.last some) (filling_is n.digits)

pub exponent_again : (e : ℤ) → negsuc 42 ≤ℤ e → e ≤ℤ pos 46 → pos (first_byte e - 128) -ℤ pos 63 ≡ e
exponent_again (pos e) low high = omega (arith, ints)
exponent_again (negsuc e) low high = omega (arith, ints)

-- the loop over pairs, one step on
pub pairs_more : (ds : List ℕ) (i : ℕ) → 2 * i + 1 < length ds
    → pairs_of (drop (2 * i) ds)
    ≡ (16 * get_or ds (2 * i) 0 + get_or ds (2 * i + 1) 0 + 1) ∷ pairs_of (drop (2 * (i + 1)) ds)
pairs_more ds i h =
    let a = drop_more ds (2 * i) 0 (omega arith) in
    let b = drop_more ds (2 * i + 1) 0 h in
    let s : 2 * i + 1 + 1 ≡ 2 * (i + 1) = omega arith in
    rw (a, b, s) refl

-- what the first byte tells
pub record Shape (n : Numeral) (negative : Bool) (first : ℕ) (packed : List ℕ) : Type 0 where
  pub sign : n.negative ≡ negative
  pub some : 0 < length n.digits
  pub head : first ≡ first_byte n.exponent
  pub rest : packed ≡ map (signed_byte negative) (pairs_of n.digits)

map_same : (xs : List ℕ) → map (signed_byte false) xs ≡ xs
map_same xs = map-id xs

zero_shape_by : (n : Numeral) → IsNumeral n → (none negative : Bool) → eqb (length n.digits) 0 ≡ none → (rest : List ℕ)
    → bytes_by none negative n ≡ 128 ∷ rest → length n.digits ≡ 0
zero_shape_by n h true negative t rest e = eqb-true (length n.digits) 0 t
zero_shape_by n h false true t rest e =
    let f = first_within n.exponent h.least h.greatest in
    let q : 255 - first_byte n.exponent ≡ 128 = ap (λ (xs : List ℕ). slice_index xs 0) e in
    absurd (omega (arith, f.0))
zero_shape_by n h false false t rest e =
    let f = first_within n.exponent h.least h.greatest in
    let q : first_byte n.exponent ≡ 128 = ap (λ (xs : List ℕ). slice_index xs 0) e in
    absurd (omega (arith, f.0))

pub zero_shape : (n : Numeral) → IsNumeral n → (rest : List ℕ) → bytes_of n ≡ 128 ∷ rest → length n.digits ≡ 0
unfolding bytes_of
zero_shape n h rest e = zero_shape_by n h (eqb (length n.digits) 0) n.negative refl rest e

plus_shape_by : (n : Numeral) → IsNumeral n → (none negative : Bool) → eqb (length n.digits) 0 ≡ none
    → n.negative ≡ negative → (b : ℕ) (rest : List ℕ) → 128 < b → bytes_by none negative n ≡ b ∷ rest
    → Shape n false b rest
plus_shape_by n h true negative t m b rest low e =
    let q : 128 ≡ b = ap (λ (xs : List ℕ). slice_index xs 0) e in
    absurd (omega arith)
plus_shape_by n h false true t m b rest low e =
    let f = first_within n.exponent h.least h.greatest in
    let q : 255 - first_byte n.exponent ≡ b = ap (λ (xs : List ℕ). slice_index xs 0) e in
    absurd (omega (arith, f.0))
plus_shape_by n h false false t m b rest low e = record {
  sign = m;
  some = some_from (length n.digits) t;
  head = sym (ap (λ (xs : List ℕ). slice_index xs 0) e);
  rest = sym (ap (λ (xs : List ℕ). drop 1 xs) e) ∙ sym (map_same (pairs_of n.digits));
}

pub plus_shape : (n : Numeral) → IsNumeral n → (b : ℕ) (rest : List ℕ) → 128 < b → bytes_of n ≡ b ∷ rest
    → Shape n false b rest
unfolding bytes_of
plus_shape n h b rest low e = plus_shape_by n h (eqb (length n.digits) 0) n.negative refl refl b rest low e

minus_shape_by : (n : Numeral) → IsNumeral n → (none negative : Bool) → eqb (length n.digits) 0 ≡ none
    → n.negative ≡ negative → (b : ℕ) (packed : List ℕ) (last : ℕ) → b < 128
    → bytes_by none negative n ≡ b ∷ (packed ++ last ∷ []) → Shape n true (255 - b) packed
minus_shape_by n h true negative t m b packed last high e =
    let q : 128 ≡ b = ap (λ (xs : List ℕ). slice_index xs 0) e in
    absurd (omega arith)
minus_shape_by n h false true t m b packed last high e =
    let f = first_within n.exponent h.least h.greatest in
    let q : 255 - first_byte n.exponent ≡ b = ap (λ (xs : List ℕ). slice_index xs 0) e in
    let p = same_from_push (complement (pairs_of n.digits)) packed 255 last (ap (λ (xs : List ℕ). drop 1 xs) e) in
    record {
      sign = m;
      some = some_from (length n.digits) t;
      head = omega (arith, f.1);
      rest = sym p.0;
    }
minus_shape_by n h false false t m b packed last high e =
    let f = first_within n.exponent h.least h.greatest in
    let q : first_byte n.exponent ≡ b = ap (λ (xs : List ℕ). slice_index xs 0) e in
    absurd (omega (arith, f.0))

pub minus_shape : (n : Numeral) → IsNumeral n → (b : ℕ) (packed : List ℕ) (last : ℕ) → b < 128
    → bytes_of n ≡ b ∷ (packed ++ last ∷ []) → Shape n true (255 - b) packed
unfolding bytes_of
minus_shape n h b packed last high e =
    minus_shape_by n h (eqb (length n.digits) 0) n.negative refl refl b packed last high e

-- a number that begins so ends with 255
minus_last_by : (n : Numeral) → IsNumeral n → (none negative : Bool) → (b : ℕ) (packed : List ℕ) (last : ℕ) → b < 128
    → bytes_by none negative n ≡ b ∷ (packed ++ last ∷ []) → last ≡ 255
minus_last_by n h true negative b packed last below e =
    let q : 128 ≡ b = ap (λ (xs : List ℕ). slice_index xs 0) e in
    absurd (omega arith)
minus_last_by n h false true b packed last below e =
    sym (same_from_push (complement (pairs_of n.digits)) packed 255 last (ap (λ (xs : List ℕ). drop 1 xs) e)).1
minus_last_by n h false false b packed last below e =
    let f = first_within n.exponent h.least h.greatest in
    let q : first_byte n.exponent ≡ b = ap (λ (xs : List ℕ). slice_index xs 0) e in
    absurd (omega (arith, f.0))

pub minus_last : (n : Numeral) → IsNumeral n → (b : ℕ) (packed : List ℕ) (last : ℕ) → b < 128
    → bytes_of n ≡ b ∷ (packed ++ last ∷ []) → last ≡ 255
unfolding bytes_of
minus_last n h b packed last below e = minus_last_by n h (eqb (length n.digits) 0) n.negative b packed last below e

-- a byte below 128 is never the only one
alone_by : (n : Numeral) → IsNumeral n → (none negative : Bool) → (b : ℕ) → b < 128 → bytes_by none negative n ≡ b ∷ []
    → ⊥
alone_by n h true negative b high e =
    let q : 128 ≡ b = ap (λ (xs : List ℕ). slice_index xs 0) e in
    omega arith
alone_by n h false true b high e =
    let q : length (complement (size_bytes n) ++ 255 ∷ []) ≡ 1 = ap length e in
    omega (arith, length-append (complement (size_bytes n)) (255 ∷ []))
alone_by n h false false b high e =
    let f = first_within n.exponent h.least h.greatest in
    let q : first_byte n.exponent ≡ b = ap (λ (xs : List ℕ). slice_index xs 0) e in
    omega (arith, f.0)

pub alone : (n : Numeral) → IsNumeral n → (b : ℕ) → b < 128 → bytes_of n ≡ b ∷ [] → ⊥
unfolding bytes_of
alone n h b high e = alone_by n h (eqb (length n.digits) 0) n.negative b high e

-- one step of the loop that packs
pub one_more : (f : ℕ → ℕ) (old new : List ℕ) (r x : ℕ) (left rest all : List ℕ) → new ≡ old ++ r ∷ [] → r ≡ f x
    → left ≡ x ∷ rest → old ++ map f left ≡ all → new ++ map f rest ≡ all
one_more f old new r x left rest all pushed is more written =
    ap (λ (xs : List ℕ). xs ++ map f rest) pushed ∙ append_assoc old (r ∷ []) (map f rest)
    ∙ ap (λ (y : ℕ). old ++ (y ∷ map f rest)) is ∙ ap (λ (xs : List ℕ). old ++ map f xs) (sym more) ∙ written
