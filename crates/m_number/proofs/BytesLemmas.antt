-- The bytes of numbers compare as the numbers do.
use Rattle.std.proofs.Common.{◌≡◌, ℕ, zero, suc, ◌+◌, ◌-◌, ◌*◌, ◌<◌, ◌≤◌, ℤ, pos, negsuc, Bool, true, false, cond, eqb}
use Rattle.std.proofs.Common.{List, [], ◌∷◌, ◌++◌, length, refl, sym, ap, ◌∙◌, arith, length-append}
use Rattle.std.specs.Prelude.{All, slice_index, ◌≤ℤ◌, ◌<ℤ◌}
use Rattle.std.specs.List.{AllByRecursion}
use Rattle.std.specs.Ordering.{nat_cmp, int_cmp, ordering_then, MatchOrdering}
use Rattle.std.specs.Cmp.{ranks, int_ranks, nat_cmp_is}
use Rattle.std.specs.Cmp.Lexicographic.{slice_cmp}
use Rattle.std.specs.declared.cmp.Ordering.{Ordering}
use Rattle.std.specs.declared.cmp.Ordering.TheVariants.{Less, Equal, Greater}
use Rattle.std.proofs.lemmas.Bool.{eqb-true}
use Rattle.std.proofs.lemmas.Cmp.{tied_itself, nat_list_cmp_total}
use Rattle.std.proofs.lemmas.Int.{ints}
use Rattle.std.proofs.lemmas.List.{nil_from_length, length-map}
use Rattle.std.proofs.lemmas.List.Elements.{recursion_from_All, All-from_recursion}
use Rattle.std.proofs.lemmas.Map.Lookups.{exact_signed, exact_bytes, exact_unsigned}
use Rattle.m_number.specs.Numeral.{Numeral, IsNumeral}
use Rattle.m_number.specs.Bytes.{first_byte, pairs_of, complement, size_bytes, bytes_of}
use Rattle.m_number.specs.Order.{size_cmp, number_cmp}
use Rattle.m_number.proofs.OrderingLemmas.{nat_cmp_less, nat_cmp_equal, nat_cmp_greater, then_assoc, then_equal}
use Rattle.std.proofs.lemmas.Bool.Decides.{nat_tests}

-- digits, each below 10
abbrev pub Decimal : List ℕ → Type 0
Decimal ds = AllByRecursion (λ d. d < 10) ds

-- the last digit, if there is one, isn't 0
abbrev pub EndsWell : List ℕ → Type 0
EndsWell [] = Unit {0}
EndsWell (d ∷ []) = 0 < d
EndsWell (d ∷ e ∷ ds) = EndsWell (e ∷ ds)

pub last_cons : (d e : ℕ) (ds : List ℕ)
    → slice_index (d ∷ e ∷ ds) (length (d ∷ e ∷ ds) - 1) ≡ slice_index (e ∷ ds) (length (e ∷ ds) - 1)
last_cons d e ds =
    let a : length (d ∷ e ∷ ds) - 1 ≡ suc (length ds) = omega arith in
    let b : length (e ∷ ds) - 1 ≡ length ds = omega arith in
    rw (a, b) refl

pub ends_well : (ds : List ℕ) → (0 < length ds → 0 < slice_index ds (length ds - 1)) → EndsWell ds
ends_well [] h = tt
ends_well (d ∷ []) h = h (omega arith)
ends_well (d ∷ e ∷ ds) h = ends_well (e ∷ ds) (λ l. rw last_cons at (h (omega arith)))

pub ends_tail : (d : ℕ) (ds : List ℕ) → EndsWell (d ∷ ds) → EndsWell ds
ends_tail d [] h = tt
ends_tail d (e ∷ ds) h = h

-- a packed pair compares as its first digit and then its second
packed_rank : (a b c d : ℕ) → b < 16 → d < 16 → (o p : Ordering) → MatchOrdering o (a < c) (a ≡ c) (c < a)
    → MatchOrdering p (b < d) (b ≡ d) (d < b)
    → MatchOrdering (ordering_then o p) (16 * a + b + 1 < 16 * c + d + 1) (16 * a + b + 1
    ≡ 16 * c + d + 1) (16 * c + d + 1 < 16 * a + b + 1)
packed_rank a b c d hb hd Less p h k = omega arith
packed_rank a b c d hb hd Equal Less h k = omega arith
packed_rank a b c d hb hd Equal Equal h k = omega arith
packed_rank a b c d hb hd Equal Greater h k = omega arith
packed_rank a b c d hb hd Greater p h k = omega arith

packed_cmp : (a b c d : ℕ) → b < 16 → d < 16
    → nat_cmp (16 * a + b + 1) (16 * c + d + 1) ≡ ordering_then (nat_cmp a c) (nat_cmp b d)
packed_cmp a b c d hb hd =
    sym (nat_cmp_is (16 * a + b + 1) (16 * c + d + 1) (ordering_then (nat_cmp a c) (nat_cmp b d))
    (packed_rank a b c d hb hd (nat_cmp a c) (nat_cmp b d) (ranks a c) (ranks b d)))

half_rank : (a c : ℕ) → (o : Ordering) → MatchOrdering o (a < c) (a ≡ c) (c < a)
    → MatchOrdering o (16 * a + 1 < 16 * c + 1) (16 * a + 1 ≡ 16 * c + 1) (16 * c + 1 < 16 * a + 1)
half_rank a c Less h = omega arith
half_rank a c Equal h = omega arith
half_rank a c Greater h = omega arith

half_cmp : (a c : ℕ) → nat_cmp (16 * a + 1) (16 * c + 1) ≡ nat_cmp a c
half_cmp a c = sym (nat_cmp_is (16 * a + 1) (16 * c + 1) (nat_cmp a c) (half_rank a c (nat_cmp a c) (ranks a c)))

-- a list that ends inside the other's pair is less
ends_less : (a c d : ℕ) (ys : List ℕ) → EndsWell (d ∷ ys) → a ≡ c
    → ordering_then (nat_cmp (16 * a + 1) (16 * c + d + 1)) (slice_cmp nat_cmp [] (pairs_of ys)) ≡ Less
ends_less a c zero [] ends e = absurd (omega arith)
ends_less a c (suc d) ys ends e = rw (nat_cmp_less (16 * a + 1) (16 * c + suc d + 1) (omega arith)) refl
ends_less a c zero (y ∷ []) ends e = rw (nat_cmp_equal (16 * a + 1) (16 * c + 0 + 1) (omega arith)) refl
ends_less a c zero (y ∷ z ∷ ys) ends e = rw (nat_cmp_equal (16 * a + 1) (16 * c + 0 + 1) (omega arith)) refl

shorter_cmp : (a c d : ℕ) (ys : List ℕ) → d < 16 → EndsWell (d ∷ ys) → (o : Ordering)
    → MatchOrdering o (a < c) (a ≡ c) (c < a)
    → ordering_then (nat_cmp (16 * a + 1) (16 * c + d + 1)) (slice_cmp nat_cmp [] (pairs_of ys)) ≡ ordering_then o Less
shorter_cmp a c d ys hd ends Less h = rw (nat_cmp_less (16 * a + 1) (16 * c + d + 1) (omega arith)) refl
shorter_cmp a c d ys hd ends Equal h = ends_less a c d ys ends h
shorter_cmp a c d ys hd ends Greater h = rw (nat_cmp_greater (16 * a + 1) (16 * c + d + 1) (omega arith)) refl

goes_on : (a b c : ℕ) (xs : List ℕ) → EndsWell (b ∷ xs) → a ≡ c
    → ordering_then (nat_cmp (16 * a + b + 1) (16 * c + 1)) (slice_cmp nat_cmp (pairs_of xs) []) ≡ Greater
goes_on a zero c [] ends e = absurd (omega arith)
goes_on a (suc b) c xs ends e = rw (nat_cmp_greater (16 * a + suc b + 1) (16 * c + 1) (omega arith)) refl
goes_on a zero c (x ∷ []) ends e = rw (nat_cmp_equal (16 * a + 0 + 1) (16 * c + 1) (omega arith)) refl
goes_on a zero c (x ∷ z ∷ xs) ends e = rw (nat_cmp_equal (16 * a + 0 + 1) (16 * c + 1) (omega arith)) refl

longer_cmp : (a b c : ℕ) (xs : List ℕ) → b < 16 → EndsWell (b ∷ xs) → (o : Ordering)
    → MatchOrdering o (a < c) (a ≡ c) (c < a)
    → ordering_then (nat_cmp (16 * a + b + 1) (16 * c + 1)) (slice_cmp nat_cmp (pairs_of xs) [])
    ≡ ordering_then o Greater
longer_cmp a b c xs hb ends Less h = rw (nat_cmp_less (16 * a + b + 1) (16 * c + 1) (omega arith)) refl
longer_cmp a b c xs hb ends Equal h = goes_on a b c xs ends h
longer_cmp a b c xs hb ends Greater h = rw (nat_cmp_greater (16 * a + b + 1) (16 * c + 1) (omega arith)) refl

pub pairs_cmp : (xs ys : List ℕ) → Decimal xs → Decimal ys → EndsWell xs → EndsWell ys
    → slice_cmp nat_cmp (pairs_of xs) (pairs_of ys) ≡ slice_cmp nat_cmp xs ys
pairs_cmp [] [] dx dy ex ey = refl
pairs_cmp [] (c ∷ []) dx dy ex ey = refl
pairs_cmp [] (c ∷ d ∷ ys) dx dy ex ey = refl
pairs_cmp (a ∷ []) [] dx dy ex ey = refl
pairs_cmp (a ∷ b ∷ xs) [] dx dy ex ey = refl
pairs_cmp (a ∷ []) (c ∷ []) dx dy ex ey = ap (λ o. ordering_then o Equal) (half_cmp a c)
pairs_cmp (a ∷ []) (c ∷ d ∷ ys) dx dy ex ey = shorter_cmp a c d ys (omega (arith, dy.1.0)) ey (nat_cmp a c) (ranks a c)
pairs_cmp (a ∷ b ∷ xs) (c ∷ []) dx dy ex ey = longer_cmp a b c xs (omega (arith, dx.1.0)) ex (nat_cmp a c) (ranks a c)
pairs_cmp (a ∷ b ∷ xs) (c ∷ d ∷ ys) dx dy ex ey =
    ap (λ o. ordering_then o (slice_cmp nat_cmp (pairs_of xs) (pairs_of ys)))
    (packed_cmp a b c d (omega (arith, dx.1.0)) (omega (arith, dy.1.0)))
    ∙ then_assoc (nat_cmp a c) (nat_cmp b d) (slice_cmp nat_cmp (pairs_of xs) (pairs_of ys))
    ∙ ap (λ o. ordering_then (nat_cmp a c) (ordering_then (nat_cmp b d) o))
    (pairs_cmp xs ys dx.1.1 dy.1.1 (ends_tail b xs ex) (ends_tail d ys ey))

-- a byte that is neither 0 nor past the last one
abbrev pub IsInner : ℕ → Type 0
IsInner b = (0 < b) × (b < 256)

pub pairs_inner : (ds : List ℕ) → Decimal ds → AllByRecursion IsInner (pairs_of ds)
pairs_inner [] h = tt
pairs_inner (a ∷ []) h = ((omega arith, omega (arith, h.0)), tt)
pairs_inner (a ∷ b ∷ ds) h = ((omega arith, omega (arith, h.0, h.1.0)), pairs_inner ds h.1.1)

-- complements compare the other way round, where a 255 ends each
flipped_rank : (x y : ℕ) → x < 256 → y < 256 → (o : Ordering) → MatchOrdering o (y < x) (y ≡ x) (x < y)
    → MatchOrdering o (255 - x < 255 - y) (255 - x ≡ 255 - y) (255 - y < 255 - x)
flipped_rank x y hx hy Less h = omega arith
flipped_rank x y hx hy Equal h = omega arith
flipped_rank x y hx hy Greater h = omega arith

flipped_cmp : (x y : ℕ) → x < 256 → y < 256 → nat_cmp (255 - x) (255 - y) ≡ nat_cmp y x
flipped_cmp x y hx hy =
    sym (nat_cmp_is (255 - x) (255 - y) (nat_cmp y x) (flipped_rank x y hx hy (nat_cmp y x) (ranks y x)))

pub complement_cmp : (xs ys : List ℕ) → AllByRecursion IsInner xs → AllByRecursion IsInner ys
    → slice_cmp nat_cmp (complement xs ++ 255 ∷ []) (complement ys ++ 255 ∷ []) ≡ slice_cmp nat_cmp ys xs
complement_cmp [] [] hx hy = refl
complement_cmp [] (y ∷ ys) hx hy = rw (nat_cmp_greater 255 (255 - y) (omega (arith, hy.0.0))) refl
complement_cmp (x ∷ xs) [] hx hy = rw (nat_cmp_less (255 - x) 255 (omega (arith, hx.0.0))) refl
complement_cmp (x ∷ xs) (y ∷ ys) hx hy =
    ap (λ o. ordering_then o (slice_cmp nat_cmp (complement xs ++ 255 ∷ []) (complement ys ++ 255 ∷ [])))
    (flipped_cmp x y hx.0.1 hy.0.1)
    ∙ ap (λ o. ordering_then (nat_cmp y x) o) (complement_cmp xs ys hx.1 hy.1)

first_less : (e f : ℤ) → negsuc 42 ≤ℤ e → e <ℤ f → first_byte e < first_byte f
first_less (pos e) (pos f) low h = omega (arith, ints)
first_less (pos e) (negsuc f) low h = absurd (omega (arith, ints))
first_less (negsuc e) (pos f) low h = omega (arith, ints)
first_less (negsuc e) (negsuc f) low h = omega (arith, ints)

first_rank : (e f : ℤ) → negsuc 42 ≤ℤ e → negsuc 42 ≤ℤ f → (o : Ordering) → MatchOrdering o (e <ℤ f) (e ≡ f) (f <ℤ e)
    → MatchOrdering o (first_byte e < first_byte f) (first_byte e ≡ first_byte f) (first_byte f < first_byte e)
first_rank e f le lf Less h = first_less e f le h
first_rank e f le lf Equal h = ap first_byte h
first_rank e f le lf Greater h = first_less f e lf h

first_cmp : (e f : ℤ) → negsuc 42 ≤ℤ e → negsuc 42 ≤ℤ f → nat_cmp (first_byte e) (first_byte f) ≡ int_cmp e f
first_cmp e f le lf =
    sym (nat_cmp_is (first_byte e) (first_byte f) (int_cmp e f) (first_rank e f le lf (int_cmp e f) (int_ranks e f)))

pub first_within : (e : ℤ) → negsuc 42 ≤ℤ e → e ≤ℤ pos 46 → (147 < first_byte e) × (first_byte e < 238)
first_within (pos e) low high = (omega (arith, ints), omega (arith, ints))
first_within (negsuc e) low high = (omega (arith, ints), omega (arith, ints))

pub decimal_of : (n : Numeral) → IsNumeral n → Decimal n.digits
decimal_of n h = recursion_from_All (λ d. d < 10) n.digits h.decimal

sizes_cmp : (a b : Numeral) → IsNumeral a → IsNumeral b → slice_cmp nat_cmp (size_bytes a) (size_bytes b) ≡ size_cmp a b
sizes_cmp a b ha hb =
    ap (λ o. ordering_then o (slice_cmp nat_cmp (pairs_of a.digits) (pairs_of b.digits)))
    (first_cmp a.exponent b.exponent ha.least hb.least)
    ∙ ap (λ o. ordering_then (int_cmp a.exponent b.exponent) o)
    (pairs_cmp a.digits b.digits (decimal_of a ha) (decimal_of b hb) (ends_well a.digits ha.last)
    (ends_well b.digits hb.last))

pub size_inner : (n : Numeral) → IsNumeral n → AllByRecursion IsInner (size_bytes n)
size_inner n h =
    let f = first_within n.exponent h.least h.greatest in
    ((omega (arith, f.0), omega (arith, f.1)), pairs_inner n.digits (decimal_of n h))

pub some_from : (n : ℕ) → eqb n 0 ≡ false → 0 < n
some_from n t = grind (arith, nat_tests)

-- the bytes by whether the number is zero, and by its sign
abbrev pub bytes_by : Bool → Bool → Numeral → List ℕ
bytes_by none negative n = cond none (128 ∷ []) (cond negative (complement (size_bytes n) ++ 255 ∷ []) (size_bytes n))

abbrev pub side_by : Bool → Bool → ℕ
side_by none negative = cond none 1 (cond negative 0 2)

pub zero_cmp : (a b : Numeral) → IsNumeral a → IsNumeral b → length a.digits ≡ 0 → length b.digits ≡ 0
    → size_cmp a b ≡ Equal
zero_cmp a b ha hb ea eb =
    rw (nil_from_length a.digits ea, nil_from_length b.digits eb, ha.zero_exponent ea, hb.zero_exponent eb) refl

both_equal : (b : Bool) (x y : Ordering) → x ≡ Equal → y ≡ Equal → cond b x y ≡ Equal
both_equal true x y p q = p
both_equal false x y p q = q

order_by : (a b : Numeral) → IsNumeral a → IsNumeral b → (za zb na nb : Bool) → eqb (length a.digits) 0 ≡ za
    → eqb (length b.digits) 0 ≡ zb
    → slice_cmp nat_cmp (bytes_by za na a) (bytes_by zb nb b)
    ≡ ordering_then (nat_cmp (side_by za na) (side_by zb nb)) (cond na (size_cmp b a) (size_cmp a b))
order_by a b ha hb true true na nb ea eb =
    let la = eqb-true (length a.digits) 0 ea in
    let lb = eqb-true (length b.digits) 0 eb in
    sym (both_equal na (size_cmp b a) (size_cmp a b) (zero_cmp b a hb ha lb la) (zero_cmp a b ha hb la lb))
order_by a b ha hb true false na true ea eb =
    let f = first_within b.exponent hb.least hb.greatest in
    rw (nat_cmp_greater 128 (255 - first_byte b.exponent) (omega (arith, f.0))) refl
order_by a b ha hb true false na false ea eb =
    let f = first_within b.exponent hb.least hb.greatest in
    rw (nat_cmp_less 128 (first_byte b.exponent) (omega (arith, f.0))) refl
order_by a b ha hb false true true nb ea eb =
    let f = first_within a.exponent ha.least ha.greatest in
    rw (nat_cmp_less (255 - first_byte a.exponent) 128 (omega (arith, f.0))) refl
order_by a b ha hb false true false nb ea eb =
    let f = first_within a.exponent ha.least ha.greatest in
    rw (nat_cmp_greater (first_byte a.exponent) 128 (omega (arith, f.0))) refl
order_by a b ha hb false false true true ea eb =
    complement_cmp (size_bytes a) (size_bytes b) (size_inner a ha) (size_inner b hb) ∙ sizes_cmp b a hb ha
order_by a b ha hb false false true false ea eb =
    let f = first_within a.exponent ha.least ha.greatest in
    let g = first_within b.exponent hb.least hb.greatest in
    rw (nat_cmp_less (255 - first_byte a.exponent) (first_byte b.exponent) (omega (arith, f.0, g.0))) refl
order_by a b ha hb false false false true ea eb =
    let f = first_within a.exponent ha.least ha.greatest in
    let g = first_within b.exponent hb.least hb.greatest in
    rw (nat_cmp_greater (first_byte a.exponent) (255 - first_byte b.exponent) (omega (arith, f.0, g.0))) refl
order_by a b ha hb false false false false ea eb = sizes_cmp a b ha hb

pub bytes_in_order : (a b : Numeral) → IsNumeral a → IsNumeral b
    → slice_cmp nat_cmp (bytes_of a) (bytes_of b) ≡ number_cmp a b
unfolding bytes_of number_cmp
bytes_in_order a b ha hb =
    order_by a b ha hb (eqb (length a.digits) 0) (eqb (length b.digits) 0) a.negative b.negative refl refl

-- Only equal numbers compare as equal.
sizes_equal : (a b : Numeral) → size_cmp a b ≡ Equal → (a.digits ≡ b.digits) × (a.exponent ≡ b.exponent)
sizes_equal a b e =
    let p = then_equal (int_cmp a.exponent b.exponent) (slice_cmp nat_cmp a.digits b.digits) e in
    (exact_bytes a.digits b.digits p.1, exact_signed a.exponent b.exponent p.0)

either_equal : (n : Bool) (a b : Numeral) → cond n (size_cmp b a) (size_cmp a b) ≡ Equal
    → (a.digits ≡ b.digits) × (a.exponent ≡ b.exponent)
either_equal true a b e = let p = sizes_equal b a e in (sym p.0, sym p.1)
either_equal false a b e = sizes_equal a b e

sides_equal : (none m n : Bool) → (none ≡ true → m ≡ false) → (none ≡ true → n ≡ false)
    → side_by none m ≡ side_by none n → m ≡ n
sides_equal true m n hm hn e = hm refl ∙ sym (hn refl)
sides_equal false true true hm hn e = refl
sides_equal false true false hm hn e = absurd (omega arith)
sides_equal false false true hm hn e = absurd (omega arith)
sides_equal false false false hm hn e = refl

abbrev numeral : Bool → List ℕ → ℤ → Numeral
numeral negative digits exponent = record { negative = negative; digits = digits; exponent = exponent }

pub same_numeral : (a b : Numeral) → a.negative ≡ b.negative → a.digits ≡ b.digits → a.exponent ≡ b.exponent → a ≡ b
same_numeral a b p q r =
    ap (λ (n : Bool). numeral n a.digits a.exponent) p
    ∙ ap (λ (ds : List ℕ). numeral b.negative ds a.exponent) q
    ∙ ap (λ (e : ℤ). numeral b.negative b.digits e) r

equal_by : (a b : Numeral) → IsNumeral a → IsNumeral b → number_cmp a b ≡ Equal → a ≡ b
unfolding number_cmp
equal_by a b ha hb e =
    let p = then_equal (nat_cmp (side_by (eqb (length a.digits) 0) a.negative)
    (side_by (eqb (length b.digits) 0) b.negative)) (cond a.negative (size_cmp b a) (size_cmp a b)) e in
    let q = either_equal a.negative a b p.1 in
    let s : side_by (eqb (length a.digits) 0) a.negative ≡ side_by (eqb (length b.digits) 0) b.negative =
    exact_unsigned _ _ p.0 in
    let t : side_by (eqb (length a.digits) 0) a.negative ≡ side_by (eqb (length a.digits) 0) b.negative = s
    ∙ ap (λ (ds : List ℕ). side_by (eqb (length ds) 0) b.negative) (sym q.0) in
    let m = sides_equal (eqb (length a.digits) 0) a.negative b.negative
    (λ z. ha.zero_sign (eqb-true (length a.digits) 0 z))
    (λ z. hb.zero_sign (ap length (sym q.0) ∙ eqb-true (length a.digits) 0 z)) t in
    same_numeral a b m q.0 q.1

-- no two numbers have the same bytes
pub one_packing : (a b : Numeral) → IsNumeral a → IsNumeral b → bytes_of a ≡ bytes_of b → a ≡ b
one_packing a b ha hb e =
    equal_by a b ha hb (sym (bytes_in_order a b ha hb) ∙ ap (λ xs. slice_cmp nat_cmp xs (bytes_of b)) e
    ∙ tied_itself nat_list_cmp_total (bytes_of b))

-- what bytes there are
pub length-pairs_of : (ds : List ℕ) → 2 * length (pairs_of ds) ≤ length ds + 1
length-pairs_of [] = omega arith
length-pairs_of (a ∷ []) = omega arith
length-pairs_of (a ∷ b ∷ ds) = omega (arith, length-pairs_of ds)

complement_inner : (xs : List ℕ) → AllByRecursion IsInner xs → AllByRecursion (λ b. b < 255) xs
    → AllByRecursion IsInner (complement xs ++ 255 ∷ [])
complement_inner [] h k = ((omega arith, omega arith), tt)
complement_inner (x ∷ xs) h k = ((omega (arith, k.0), omega arith), complement_inner xs h.1 k.1)

pairs_below : (ds : List ℕ) → Decimal ds → AllByRecursion (λ b. b < 255) (pairs_of ds)
pairs_below [] h = tt
pairs_below (a ∷ []) h = (omega (arith, h.0), tt)
pairs_below (a ∷ b ∷ ds) h = (omega (arith, h.0, h.1.0), pairs_below ds h.1.1)

each_by : (n : Numeral) → IsNumeral n → (none negative : Bool) → AllByRecursion IsInner (bytes_by none negative n)
each_by n h true negative = ((omega arith, omega arith), tt)
each_by n h false true =
    let f = first_within n.exponent h.least h.greatest in
    complement_inner (size_bytes n) (size_inner n h) (omega (arith, f.1), pairs_below n.digits (decimal_of n h))
each_by n h false false = size_inner n h

pub each_byte : (n : Numeral) → IsNumeral n → All IsInner (bytes_of n)
unfolding bytes_of
each_byte n h =
    All-from_recursion IsInner (bytes_by (eqb (length n.digits) 0) n.negative n)
    (each_by n h (eqb (length n.digits) 0) n.negative)

count_by_sign : (n : Numeral) → IsNumeral n → (none negative : Bool)
    → (1 ≤ length (bytes_by none negative n)) × (length (bytes_by none negative n) ≤ 11)
count_by_sign n h true negative = (omega arith, omega arith)
count_by_sign n h false true =
    let p = length-pairs_of n.digits in
    let c = h.count in
    let m = length-map (size_bytes n) (λ b. 255 - b) in
    let l = length-append (complement (size_bytes n)) (255 ∷ []) in
    (omega arith, omega arith)
count_by_sign n h false false =
    let p = length-pairs_of n.digits in
    let c = h.count in
    (omega arith, omega arith)

pub byte_count : (n : Numeral) → IsNumeral n → (1 ≤ length (bytes_of n)) × (length (bytes_of n) ≤ 11)
unfolding bytes_of
byte_count n h = count_by_sign n h (eqb (length n.digits) 0) n.negative

first_by : (n : Numeral) → IsNumeral n → (none negative : Bool) → slice_index (bytes_by none negative n) 0 < 255
first_by n h true negative = omega arith
first_by n h false true = let f = first_within n.exponent h.least h.greatest in omega (arith, f.0)
first_by n h false false = let f = first_within n.exponent h.least h.greatest in omega (arith, f.1)

pub first_bound : (n : Numeral) → IsNumeral n → slice_index (bytes_of n) 0 < 255
unfolding bytes_of
first_bound n h = first_by n h (eqb (length n.digits) 0) n.negative
