-- Numbers are ordered as their values are.
use Rattle.std.proofs.Common.{◌≡◌, ℕ, zero, suc, ◌+◌, ◌-◌, ◌*◌, ◌^◌, ◌<◌, ◌≤◌, ℤ, pos, negsuc, neg_ℤ, Bool, true, false}
use Rattle.std.proofs.Common.{cond, eqb, List, [], ◌∷◌, length, refl, sym, ap, ◌∙◌, arith}
use Rattle.std.specs.Prelude.{slice_index, ◌≤ℤ◌, ◌<ℤ◌}
use Rattle.std.specs.Ordering.{nat_cmp, int_cmp, ordering_then, MatchOrdering}
use Rattle.std.specs.Cmp.{ranks, int_ranks, nat_cmp_is, int_cmp_is}
use Rattle.std.specs.Cmp.Lexicographic.{slice_cmp}
use Rattle.std.specs.declared.cmp.Ordering.{Ordering}
use Rattle.std.specs.declared.cmp.Ordering.TheVariants.{Less, Equal, Greater}
use Rattle.std.proofs.Math.Nat.{mul-le-mul_right}
use Rattle.std.proofs.lemmas.Bool.{eqb-true, true≢false}
use Rattle.std.proofs.lemmas.Grind.{pow_more}
use Rattle.std.proofs.lemmas.Int.{ints}
use Rattle.std.proofs.lemmas.List.{nil_from_length}
use Rattle.m_number.specs.Numeral.{Numeral, IsNumeral}
use Rattle.m_number.specs.Order.{size_cmp, number_cmp}
use Rattle.m_number.specs.Value.{scaled, power_of, size_value, value_of}
use Rattle.m_number.proofs.BytesLemmas.{Decimal, EndsWell, ends_well, ends_tail, decimal_of, some_from}
use Rattle.m_number.proofs.BytesLemmas.{zero_cmp, side_by}
use Rattle.m_number.proofs.OrderingLemmas.{nat_cmp_less, nat_cmp_equal, nat_cmp_greater}

next : (k : ℕ) → 10 ^ suc k ≡ 10 * 10 ^ k
next k =
    let e : suc k ≡ k + 1 = omega arith in
    let m : 10 ^ k * 10 ≡ 10 * 10 ^ k = omega arith in
    ap (λ n. 10 ^ n) e ∙ pow_more 10 k ∙ m

positive : (k : ℕ) → 0 < 10 ^ k
positive zero = omega arith
positive (suc k) = omega (arith, next k, positive k)

grows : (i m n : ℕ) → n ≡ i + m → 10 ^ i ≤ 10 ^ n
grows i zero n e =
    let same : i ≡ n = omega arith in
    let p : 10 ^ i ≡ 10 ^ n = ap (λ k. 10 ^ k) same in
    omega (arith, p)
grows i (suc m) n e =
    let more : n ≡ suc (i + m) = omega arith in
    let p : 10 ^ n ≡ 10 ^ suc (i + m) = ap (λ k. 10 ^ k) more in
    omega (arith, p, next (i + m), grows i m (i + m) refl)

less_one : (k : ℕ) → suc k - 1 ≡ k
less_one k = omega arith

-- digits stand for less than the power of ten above that of the first
scaled_less : (ds : List ℕ) (k : ℕ) → Decimal ds → length ds ≤ k + 1 → scaled ds k < 10 ^ suc k
scaled_less [] k h l = positive (suc k)
scaled_less (d ∷ []) k h l =
    let nine : d ≤ 9 = omega (arith, h.0) in
    let m = mul-le-mul_right (10 ^ k) nine in
    omega (arith, m, next k, positive k)
scaled_less (d ∷ e ∷ ds) zero h l = absurd (omega arith)
scaled_less (d ∷ e ∷ ds) (suc k) h l =
    let nine : d ≤ 9 = omega (arith, h.0) in
    let m = mul-le-mul_right (10 ^ suc k) nine in
    let r = scaled_less (e ∷ ds) k h.1 (omega arith) in
    rw less_one (omega (arith, m, next (suc k), r))

scaled_tail : (d : ℕ) (ds : List ℕ) (k : ℕ) → Decimal (d ∷ ds) → length (d ∷ ds) ≤ k + 1 → scaled ds (k - 1) < 10 ^ k
scaled_tail d [] k h l = positive k
scaled_tail d (e ∷ ds) zero h l = absurd (omega arith)
scaled_tail d (e ∷ ds) (suc k) h l = rw less_one (scaled_less (e ∷ ds) k h.1 (omega arith))

-- and for no less than that of the first, if that isn't 0
scaled_lead : (ds : List ℕ) (k : ℕ) → 0 < length ds → 0 < slice_index ds 0 → 10 ^ k ≤ scaled ds k
scaled_lead [] k some lead = absurd (omega arith)
scaled_lead (d ∷ ds) k some lead =
    let one : 1 ≤ d = omega arith in
    let m = mul-le-mul_right (10 ^ k) one in
    omega (arith, m)

scaled_positive : (ds : List ℕ) (k : ℕ) → 0 < length ds → EndsWell ds → length ds ≤ k + 1 → 0 < scaled ds k
scaled_positive [] k some ends l = absurd (omega arith)
scaled_positive (d ∷ []) k some ends l =
    let one : 1 ≤ d = omega arith in
    let m = mul-le-mul_right (10 ^ k) one in
    omega (arith, m, positive k)
scaled_positive (d ∷ e ∷ ds) zero some ends l = absurd (omega arith)
scaled_positive (d ∷ e ∷ ds) (suc k) some ends l =
    let r = scaled_positive (e ∷ ds) k (omega arith) ends (omega arith) in
    rw less_one (omega (arith, r))

lower : (c d p x y : ℕ) → x < p → c < d → c * p + x < d * p + y
lower c d p x y h l =
    let above : c + 1 ≤ d = omega arith in
    let m = mul-le-mul_right p above in
    omega (arith, m)

step_rank : (c d p x y : ℕ) → x < p → y < p → (o r : Ordering) → MatchOrdering o (c < d) (c ≡ d) (d < c)
    → MatchOrdering r (x < y) (x ≡ y) (y < x)
    → MatchOrdering (ordering_then o r) (c * p + x < d * p + y) (c * p + x ≡ d * p + y) (d * p + y < c * p + x)
step_rank c d p x y hx hy Less r h k = lower c d p x y hx h
step_rank c d p x y hx hy Equal Less h k = let e = ap (λ z. z * p) h in omega (arith, e)
step_rank c d p x y hx hy Equal Equal h k = let e = ap (λ z. z * p) h in omega (arith, e)
step_rank c d p x y hx hy Equal Greater h k = let e = ap (λ z. z * p) h in omega (arith, e)
step_rank c d p x y hx hy Greater r h k = lower d c p y x hy h

step_cmp : (c d p x y : ℕ) → x < p → y < p → nat_cmp (c * p + x) (d * p + y) ≡ ordering_then (nat_cmp c d) (nat_cmp x y)
step_cmp c d p x y hx hy =
    sym (nat_cmp_is (c * p + x) (d * p + y) (ordering_then (nat_cmp c d) (nat_cmp x y))
    (step_rank c d p x y hx hy (nat_cmp c d) (nat_cmp x y) (ranks c d) (ranks x y)))

-- at one exponent the digits compare as what they stand for
scaled_cmp : (xs ys : List ℕ) (k : ℕ) → Decimal xs → Decimal ys → EndsWell xs → EndsWell ys → length xs ≤ k + 1
    → length ys ≤ k + 1 → nat_cmp (scaled xs k) (scaled ys k) ≡ slice_cmp nat_cmp xs ys
scaled_cmp [] [] k dx dy ex ey lx ly = refl
scaled_cmp [] (d ∷ ds) k dx dy ex ey lx ly =
    nat_cmp_less 0 (scaled (d ∷ ds) k) (scaled_positive (d ∷ ds) k (omega arith) ey ly)
scaled_cmp (c ∷ cs) [] k dx dy ex ey lx ly =
    nat_cmp_greater (scaled (c ∷ cs) k) 0 (scaled_positive (c ∷ cs) k (omega arith) ex lx)
scaled_cmp (c ∷ []) (d ∷ []) zero dx dy ex ey lx ly = step_cmp c d (10 ^ 0) 0 0 (positive 0) (positive 0)
scaled_cmp (c ∷ []) (d ∷ e ∷ ds) zero dx dy ex ey lx ly = absurd (omega arith)
scaled_cmp (c ∷ e ∷ cs) (d ∷ ds) zero dx dy ex ey lx ly = absurd (omega arith)
scaled_cmp (c ∷ cs) (d ∷ ds) (suc k) dx dy ex ey lx ly =
    let more = scaled_cmp cs ds k dx.1 dy.1 (ends_tail c cs ex) (ends_tail d ds ey) (omega arith) (omega arith) in
    step_cmp c d (10 ^ suc k) (scaled cs (suc k - 1)) (scaled ds (suc k - 1)) (scaled_tail c cs (suc k) dx lx)
    (scaled_tail d ds (suc k) dy ly)
    ∙ ap (λ (j : ℕ). ordering_then (nat_cmp c d) (nat_cmp (scaled cs j) (scaled ds j))) (less_one k)
    ∙ ap (λ (o : Ordering). ordering_then (nat_cmp c d) o) more

power_enough : (e : ℤ) → negsuc 42 ≤ℤ e → 17 ≤ power_of e
power_enough (pos e) low = omega (arith, ints)
power_enough (negsuc e) low = omega (arith, ints)

power_less : (e f : ℤ) → negsuc 42 ≤ℤ e → e <ℤ f → power_of e < power_of f
power_less (pos e) (pos f) low h = omega (arith, ints)
power_less (pos e) (negsuc f) low h = absurd (omega (arith, ints))
power_less (negsuc e) (pos f) low h = omega (arith, ints)
power_less (negsuc e) (negsuc f) low h = omega (arith, ints)

long_enough : (n : Numeral) → IsNumeral n → length n.digits ≤ power_of n.exponent + 1
long_enough n h = let c = h.count in let p = power_enough n.exponent h.least in omega arith

-- a greater exponent is a greater value
apart : (a b : Numeral) → IsNumeral a → IsNumeral b → 0 < length b.digits → a.exponent <ℤ b.exponent
    → size_value a < size_value b
apart a b ha hb some h =
    let under = scaled_less a.digits (power_of a.exponent) (decimal_of a ha) (long_enough a ha) in
    let over = scaled_lead b.digits (power_of b.exponent) some (hb.first some) in
    let p = power_less a.exponent b.exponent ha.least h in
    let between =
    grows (suc (power_of a.exponent)) (power_of b.exponent - suc (power_of a.exponent)) (power_of b.exponent)
    (omega arith) in
    omega (arith, under, over, between)

by_exponent : (a b : Numeral) → IsNumeral a → IsNumeral b → 0 < length a.digits → 0 < length b.digits → (o : Ordering)
    → MatchOrdering o (a.exponent <ℤ b.exponent) (a.exponent ≡ b.exponent) (b.exponent <ℤ a.exponent)
    → nat_cmp (size_value a) (size_value b) ≡ ordering_then o (slice_cmp nat_cmp a.digits b.digits)
by_exponent a b ha hb sa sb Less h = nat_cmp_less (size_value a) (size_value b) (apart a b ha hb sb h)
by_exponent a b ha hb sa sb Equal h =
    let e = ap power_of h in
    let l = long_enough a ha in
    ap (λ (k : ℕ). nat_cmp (scaled a.digits k) (size_value b)) e
    ∙ scaled_cmp a.digits b.digits (power_of b.exponent) (decimal_of a ha) (decimal_of b hb)
    (ends_well a.digits ha.last) (ends_well b.digits hb.last) (omega arith) (long_enough b hb)
by_exponent a b ha hb sa sb Greater h = nat_cmp_greater (size_value a) (size_value b) (apart b a hb ha sa h)

size_value_cmp : (a b : Numeral) → IsNumeral a → IsNumeral b → 0 < length a.digits → 0 < length b.digits
    → nat_cmp (size_value a) (size_value b) ≡ size_cmp a b
size_value_cmp a b ha hb sa sb =
    by_exponent a b ha hb sa sb (int_cmp a.exponent b.exponent) (int_ranks a.exponent b.exponent)

size_value_positive : (n : Numeral) → IsNumeral n → 0 < length n.digits → 0 < size_value n
size_value_positive n h some =
    scaled_positive n.digits (power_of n.exponent) some (ends_well n.digits h.last) (long_enough n h)

size_value_zero : (n : Numeral) → length n.digits ≡ 0 → size_value n ≡ 0
size_value_zero n e = ap (λ (ds : List ℕ). scaled ds (power_of n.exponent)) (nil_from_length n.digits e)

plus_rank : (s t : ℕ) (o : Ordering) → MatchOrdering o (s < t) (s ≡ t) (t < s)
    → MatchOrdering o (pos s <ℤ pos t) (pos s ≡ pos t) (pos t <ℤ pos s)
plus_rank s t Less h = omega (arith, ints)
plus_rank s t Equal h = ap pos h
plus_rank s t Greater h = omega (arith, ints)

plus_cmp : (s t : ℕ) → int_cmp (pos s) (pos t) ≡ nat_cmp s t
plus_cmp s t = sym (int_cmp_is (pos s) (pos t) (nat_cmp s t) (plus_rank s t (nat_cmp s t) (ranks s t)))

minus_rank : (s t : ℕ) (o : Ordering) → MatchOrdering o (t < s) (t ≡ s) (s < t)
    → MatchOrdering o (neg_ℤ (pos s) <ℤ neg_ℤ (pos t)) (neg_ℤ (pos s) ≡ neg_ℤ (pos t)) (neg_ℤ (pos t) <ℤ neg_ℤ (pos s))
minus_rank s t Less h = omega (arith, ints)
minus_rank s t Equal h = ap (λ (n : ℕ). neg_ℤ (pos n)) (sym h)
minus_rank s t Greater h = omega (arith, ints)

minus_cmp : (s t : ℕ) → int_cmp (neg_ℤ (pos s)) (neg_ℤ (pos t)) ≡ nat_cmp t s
minus_cmp s t =
    sym (int_cmp_is (neg_ℤ (pos s)) (neg_ℤ (pos t)) (nat_cmp t s) (minus_rank s t (nat_cmp t s) (ranks t s)))

-- the value by the sign
abbrev value_by : Bool → Numeral → ℤ
value_by negative n = cond negative (neg_ℤ (pos (size_value n))) (pos (size_value n))

value_order_by : (a b : Numeral) → IsNumeral a → IsNumeral b → (za zb na nb : Bool) → eqb (length a.digits) 0 ≡ za
    → eqb (length b.digits) 0 ≡ zb → a.negative ≡ na → b.negative ≡ nb
    → int_cmp (value_by na a) (value_by nb b)
    ≡ ordering_then (nat_cmp (side_by za na) (side_by zb nb)) (cond na (size_cmp b a) (size_cmp a b))
value_order_by a b ha hb true zb true nb ea eb sa sb =
    absurd (true≢false (sym sa ∙ ha.zero_sign (eqb-true (length a.digits) 0 ea)))
value_order_by a b ha hb za true na true ea eb sa sb =
    absurd (true≢false (sym sb ∙ hb.zero_sign (eqb-true (length b.digits) 0 eb)))
value_order_by a b ha hb false false true true ea eb sa sb =
    minus_cmp (size_value a) (size_value b)
    ∙ size_value_cmp b a hb ha (some_from (length b.digits) eb) (some_from (length a.digits) ea)
value_order_by a b ha hb false true true false ea eb sa sb =
    let p = size_value_positive a ha (some_from (length a.digits) ea) in
    sym (int_cmp_is (neg_ℤ (pos (size_value a))) (pos (size_value b)) Less (omega (arith, ints)))
value_order_by a b ha hb false false true false ea eb sa sb =
    let p = size_value_positive a ha (some_from (length a.digits) ea) in
    sym (int_cmp_is (neg_ℤ (pos (size_value a))) (pos (size_value b)) Less (omega (arith, ints)))
value_order_by a b ha hb true false false true ea eb sa sb =
    let p = size_value_positive b hb (some_from (length b.digits) eb) in
    sym (int_cmp_is (pos (size_value a)) (neg_ℤ (pos (size_value b))) Greater (omega (arith, ints)))
value_order_by a b ha hb false false false true ea eb sa sb =
    let p = size_value_positive b hb (some_from (length b.digits) eb) in
    sym (int_cmp_is (pos (size_value a)) (neg_ℤ (pos (size_value b))) Greater (omega (arith, ints)))
value_order_by a b ha hb true true false false ea eb sa sb =
    let la = eqb-true (length a.digits) 0 ea in
    let lb = eqb-true (length b.digits) 0 eb in
    let ta = size_value_zero a la in
    let tb = size_value_zero b lb in
    plus_cmp (size_value a) (size_value b) ∙ nat_cmp_equal (size_value a) (size_value b) (ta ∙ sym tb)
    ∙ sym (zero_cmp a b ha hb la lb)
value_order_by a b ha hb true false false false ea eb sa sb =
    let t = size_value_zero a (eqb-true (length a.digits) 0 ea) in
    let p = size_value_positive b hb (some_from (length b.digits) eb) in
    plus_cmp (size_value a) (size_value b) ∙ nat_cmp_less (size_value a) (size_value b) (omega arith)
value_order_by a b ha hb false true false false ea eb sa sb =
    let t = size_value_zero b (eqb-true (length b.digits) 0 eb) in
    let p = size_value_positive a ha (some_from (length a.digits) ea) in
    plus_cmp (size_value a) (size_value b) ∙ nat_cmp_greater (size_value a) (size_value b) (omega arith)
value_order_by a b ha hb false false false false ea eb sa sb =
    plus_cmp (size_value a) (size_value b)
    ∙ size_value_cmp a b ha hb (some_from (length a.digits) ea) (some_from (length b.digits) eb)

pub values_in_order : (a b : Numeral) → IsNumeral a → IsNumeral b → int_cmp (value_of a) (value_of b) ≡ number_cmp a b
unfolding number_cmp
values_in_order a b ha hb =
    value_order_by a b ha hb (eqb (length a.digits) 0) (eqb (length b.digits) 0) a.negative b.negative refl refl refl
    refl
