-- Which bytes are a number's, told by the bytes alone.
use Rattle.std.proofs.Common.{◌≡◌, ℕ, zero, suc, ◌+◌, ◌-◌, ◌*◌, ◌/◌, ◌%◌, ◌<◌, ◌≤◌, ℤ, pos, negsuc, Bool, true, false}
use Rattle.std.proofs.Common.{cond}
use Rattle.std.proofs.Common.{List, [], ◌∷◌, ◌++◌, length, map, refl, sym, ap, subst, ◌∙◌, inl, inr, ◌↔◌}
use Rattle.std.proofs.Common.{arith}
use Rattle.std.specs.Prelude.{slice_index, ◌≤ℤ◌, ◌==◌, ◌&&◌, nat_lt, nat_le}
use Rattle.std.specs.List.{list_all}
use Rattle.std.proofs.lemmas.Bool.{and_parts, and_from, cases_lt, eqb-true, eq-eqb, ne_eqb, ltb-true}
use Rattle.std.proofs.lemmas.Bool.{lt-ltb, leb-true, le-leb, false≢true}
use Rattle.std.proofs.lemmas.Int.{ints}
use Rattle.std.proofs.lemmas.List.{length-map, map-id}
use Rattle.std.proofs.lemmas.List.Elements.{All-from_recursion}
use Rattle.m_number.specs.Numeral.{Numeral, IsNumeral}
use Rattle.m_number.specs.Bytes.{first_byte, pairs_of, bytes_of}
use Rattle.m_number.specs.Packed.{signed_byte, is_pair, have_ends, are_pairs, is_nonzero}
use Rattle.m_number.proofs.BytesLemmas.{Decimal, decimal_of, EndsWell, ends_well, last_cons, bytes_by, first_within}
use Rattle.m_number.proofs.BytesLemmas.{length-pairs_of, byte_count}
use Rattle.m_number.proofs.PackedLemmas.{signed_twice, zero_shape, plus_shape, minus_shape, minus_last, alone}

-- ---- one pair

abbrev IsPair : ℕ → Type 0
IsPair b = (0 < b) × ((b - 1) / 16 < 10) × ((b - 1) % 16 < 10)

pair_parts : (b : ℕ) → is_pair b ≡ true → IsPair b
pair_parts b t =
    let p = and_parts (nat_lt 0 b) (nat_lt ((b - 1) / 16) 10 && nat_lt ((b - 1) % 16) 10) t in
    let q = and_parts (nat_lt ((b - 1) / 16) 10) (nat_lt ((b - 1) % 16) 10) p.1 in
    (ltb-true 0 b p.0, ltb-true _ 10 q.0, ltb-true _ 10 q.1)

pair_from : (b : ℕ) → IsPair b → is_pair b ≡ true
pair_from b h =
    and_from (nat_lt 0 b) _ (lt-ltb 0 b h.0)
    (and_from (nat_lt ((b - 1) / 16) 10) (nat_lt ((b - 1) % 16) 10) (lt-ltb _ 10 h.1) (lt-ltb _ 10 h.2))

pair_of_digits : (a b : ℕ) → a < 10 → b < 10 → IsPair (16 * a + b + 1)
pair_of_digits a b h k = (omega arith, omega arith, omega arith)

pair_of_digit : (a : ℕ) → a < 10 → IsPair (16 * a + 1)
pair_of_digit a h = (omega arith, omega arith, omega arith)

signed_back : (s : Bool) (b x : ℕ) → 0 < signed_byte s b → x ≡ signed_byte s b → signed_byte s x ≡ b
signed_back true b x h e = omega arith
signed_back false b x h e = e

-- ---- the pairs of a number's digits

abbrev IsPacked : Bool → List ℕ → Type 0
IsPacked s [] = Unit {0}
IsPacked s (b ∷ []) = IsPair (signed_byte s b) × (1 < signed_byte s b)
IsPacked s (b ∷ c ∷ packed) = IsPair (signed_byte s b) × IsPacked s (c ∷ packed)

packed_from : (s : Bool) (packed : List ℕ) → list_all (λ b. is_pair (signed_byte s b)) packed ≡ true
    → 1 < signed_byte s (slice_index packed (length packed - 1)) → IsPacked s packed
packed_from s [] t h = tt
packed_from s (b ∷ []) t h = (pair_parts (signed_byte s b) (and_parts (is_pair (signed_byte s b)) true t).0, h)
packed_from s (b ∷ c ∷ packed) t h =
    let p = and_parts (is_pair (signed_byte s b)) (list_all (λ b. is_pair (signed_byte s b)) (c ∷ packed)) t in
    (pair_parts (signed_byte s b) p.0, packed_from s (c ∷ packed) p.1 (rw last_cons at h))

all_packed : (s : Bool) (packed : List ℕ) → IsPacked s packed
    → list_all (λ b. is_pair (signed_byte s b)) packed ≡ true
all_packed s [] h = refl
all_packed s (b ∷ []) h = and_from (is_pair (signed_byte s b)) true (pair_from (signed_byte s b) h.0) refl
all_packed s (b ∷ c ∷ packed) h =
    and_from (is_pair (signed_byte s b)) _ (pair_from (signed_byte s b) h.0) (all_packed s (c ∷ packed) h.1)

last_packed : (s : Bool) (packed : List ℕ) → 0 < length packed → IsPacked s packed
    → 1 < signed_byte s (slice_index packed (length packed - 1))
last_packed s [] some h = absurd (omega arith)
last_packed s (b ∷ []) some h = h.1
last_packed s (b ∷ c ∷ packed) some h = rw last_cons (last_packed s (c ∷ packed) (omega arith) h.1)

pairs_packed : (s : Bool) (ds : List ℕ) → Decimal ds → EndsWell ds → IsPacked s (map (signed_byte s) (pairs_of ds))
pairs_packed s [] d e = tt
pairs_packed s (a ∷ []) d e =
    rw (signed_twice s (16 * a + 1) (omega (arith, d.0))) (pair_of_digit a d.0, omega (arith, e))
pairs_packed s (a ∷ b ∷ []) d e =
    rw (signed_twice s (16 * a + b + 1) (omega (arith, d.0, d.1.0))) (pair_of_digits a b d.0 d.1.0, omega (arith, e))
pairs_packed s (a ∷ b ∷ c ∷ []) d e = (
  rw (signed_twice s (16 * a + b + 1) (omega (arith, d.0, d.1.0))) (pair_of_digits a b d.0 d.1.0),
  pairs_packed s (c ∷ []) d.1.1 e,
)
pairs_packed s (a ∷ b ∷ c ∷ f ∷ ds) d e = (
  rw (signed_twice s (16 * a + b + 1) (omega (arith, d.0, d.1.0))) (pair_of_digits a b d.0 d.1.0),
  pairs_packed s (c ∷ f ∷ ds) d.1.1 e,
)

first_packed : (s : Bool) (ds : List ℕ) → Decimal ds → 0 < length ds → 0 < slice_index ds 0
    → 16 < signed_byte s (slice_index (map (signed_byte s) (pairs_of ds)) 0)
first_packed s [] d some h = absurd (omega arith)
first_packed s (a ∷ []) d some h = rw (signed_twice s (16 * a + 1) (omega (arith, d.0))) (omega (arith, h))
first_packed s (a ∷ b ∷ ds) d some h =
    rw (signed_twice s (16 * a + b + 1) (omega (arith, d.0, d.1.0))) (omega (arith, h))

some_pairs : (ds : List ℕ) → 0 < length ds → 0 < length (pairs_of ds)
some_pairs [] h = h
some_pairs (a ∷ []) h = omega arith
some_pairs (a ∷ b ∷ ds) h = omega arith

-- the digits of a number pass
are_pairs-digits : (s : Bool) (n : Numeral) → IsNumeral n → 0 < length n.digits
    → are_pairs s (map (signed_byte s) (pairs_of n.digits)) ≡ true
are_pairs-digits s n h some =
    let packed : List ℕ = map (signed_byte s) (pairs_of n.digits) in
    let count : length packed ≡ length (pairs_of n.digits) = length-map (pairs_of n.digits) (signed_byte s) in
    let d = decimal_of n h in
    let right = pairs_packed s n.digits d (ends_well n.digits h.last) in
    let more : 0 < length packed = omega (arith, count, some_pairs n.digits some) in
    let counted =
    and_from (nat_lt 0 (length packed)) (nat_le (length packed) 9) (lt-ltb 0 (length packed) more)
    (le-leb (length packed) 9 (omega (arith, count, length-pairs_of n.digits, h.count))) in
    let begun = lt-ltb 16 _ (first_packed s n.digits d some (h.first some)) in
    let ended = lt-ltb 1 _ (last_packed s packed more right) in
    and_from (have_ends s packed) (list_all (λ b. is_pair (signed_byte s b)) packed)
    (and_from _ _ (and_from _ _ counted begun) ended) (all_packed s packed right)

-- ---- the digits in bytes

abbrev high : Bool → ℕ → ℕ
high s b = (signed_byte s b - 1) / 16

abbrev low : Bool → ℕ → ℕ
low s b = (signed_byte s b - 1) % 16

abbrev digits_in : Bool → List ℕ → List ℕ
digits_in s [] = []
digits_in s (b ∷ []) = cond (low s b == 0) (high s b ∷ []) (high s b ∷ low s b ∷ [])
digits_in s (b ∷ c ∷ packed) = high s b ∷ low s b ∷ digits_in s (c ∷ packed)

pair_value : (s : Bool) (b : ℕ) → IsPair (signed_byte s b) → signed_byte s (16 * high s b + low s b + 1) ≡ b
pair_value s b h = signed_back s b _ h.0 (omega (arith, h.0))

one_again : (s : Bool) (b : ℕ) → IsPair (signed_byte s b) → (t : Bool) → (low s b == 0) ≡ t
    → map (signed_byte s) (pairs_of (cond t (high s b ∷ []) (high s b ∷ low s b ∷ []))) ≡ b ∷ []
one_again s b h true t =
    let none = eqb-true (low s b) 0 t in
    ap (λ x. x ∷ []) (signed_back s b (16 * high s b + 1) h.0 (omega (arith, h.0, none)))
one_again s b h false t = ap (λ x. x ∷ []) (pair_value s b h)

packed_again : (s : Bool) (packed : List ℕ) → IsPacked s packed
    → map (signed_byte s) (pairs_of (digits_in s packed)) ≡ packed
packed_again s [] h = refl
packed_again s (b ∷ []) h = one_again s b h.0 (low s b == 0) refl
packed_again s (b ∷ c ∷ packed) h = λ i. pair_value s b h.0 i ∷ packed_again s (c ∷ packed) h.1 i

one_decimal : (a b : ℕ) (t : Bool) → a < 10 → b < 10 → Decimal (cond t (a ∷ []) (a ∷ b ∷ []))
one_decimal a b true h k = (h, tt)
one_decimal a b false h k = (h, (k, tt))

decimal_in : (s : Bool) (packed : List ℕ) → IsPacked s packed → Decimal (digits_in s packed)
decimal_in s [] h = tt
decimal_in s (b ∷ []) h = one_decimal (high s b) (low s b) (low s b == 0) h.0.1 h.0.2
decimal_in s (b ∷ c ∷ packed) h = (h.0.1, (h.0.2, decimal_in s (c ∷ packed) h.1))

one_some : (a b : ℕ) (t : Bool) → 0 < length (cond t (a ∷ []) (a ∷ b ∷ []))
one_some a b true = omega arith
one_some a b false = omega arith

some_in : (s : Bool) (packed : List ℕ) → 0 < length packed → 0 < length (digits_in s packed)
some_in s [] h = h
some_in s (b ∷ []) h = one_some (high s b) (low s b) (low s b == 0)
some_in s (b ∷ c ∷ packed) h = omega arith

one_few : (a b : ℕ) (t : Bool) → length (cond t (a ∷ []) (a ∷ b ∷ [])) ≤ 2
one_few a b true = omega arith
one_few a b false = omega arith

count_in : (s : Bool) (packed : List ℕ) → length (digits_in s packed) ≤ 2 * length packed
count_in s [] = omega arith
count_in s (b ∷ []) = omega (arith, one_few (high s b) (low s b) (low s b == 0))
count_in s (b ∷ c ∷ packed) = omega (arith, count_in s (c ∷ packed))

ends_more : (d : ℕ) (ds : List ℕ) → 0 < length ds → EndsWell ds → EndsWell (d ∷ ds)
ends_more d [] some h = absurd (omega arith)
ends_more d (e ∷ ds) some h = h

one_ends : (x : ℕ) (t : Bool) → ((x - 1) % 16 == 0) ≡ t → 1 < x
    → EndsWell (cond t ((x - 1) / 16 ∷ []) ((x - 1) / 16 ∷ (x - 1) % 16 ∷ []))
one_ends x true t h = let none = eqb-true ((x - 1) % 16) 0 t in omega arith
one_ends x false t h = one_last ((x - 1) % 16) t
  where
    one_last : (y : ℕ) → (y == 0) ≡ false → 0 < y
    one_last zero t = absurd (false≢true (sym t))
    one_last (suc y) t = omega arith

ends_in : (s : Bool) (packed : List ℕ) → IsPacked s packed → EndsWell (digits_in s packed)
ends_in s [] h = tt
ends_in s (b ∷ []) h = one_ends (signed_byte s b) (low s b == 0) refl h.1
ends_in s (b ∷ c ∷ packed) h =
    let more = ends_in s (c ∷ packed) h.1 in
    ends_more (high s b) (low s b ∷ digits_in s (c ∷ packed)) (omega arith)
    (ends_more (low s b) (digits_in s (c ∷ packed)) (some_in s (c ∷ packed) (omega arith)) more)

last_of : (ds : List ℕ) → EndsWell ds → 0 < length ds → 0 < slice_index ds (length ds - 1)
last_of [] h some = absurd (omega arith)
last_of (d ∷ []) h some = h
last_of (d ∷ e ∷ ds) h some = rw last_cons (last_of (e ∷ ds) h (omega arith))

one_first : (a b : ℕ) (t : Bool) → 0 < a → 0 < slice_index (cond t (a ∷ []) (a ∷ b ∷ [])) 0
one_first a b true h = h
one_first a b false h = h

first_in : (s : Bool) (packed : List ℕ) → 0 < length packed → 16 < signed_byte s (slice_index packed 0)
    → 0 < slice_index (digits_in s packed) 0
first_in s [] some h = absurd (omega arith)
first_in s (b ∷ []) some h =
    let more : 0 < high s b = omega (arith, h) in
    one_first (high s b) (low s b) (low s b == 0) more
first_in s (b ∷ c ∷ packed) some h = let more : 0 < high s b = omega (arith, h) in more

-- ---- the number

record Exponent (first : ℕ) : Type 0 where
  exponent : ℤ
  least : negsuc 42 ≤ℤ exponent
  greatest : exponent ≤ℤ pos 46
  is : first_byte exponent ≡ first

exponent_of : (first : ℕ) → 147 < first → first < 238 → Exponent first
exponent_of first l h =
    elim (cases_lt 190 first) [
      | inl k ↦ record {
        exponent = pos (first - 191);
        least = omega (arith, ints);
        greatest = omega (arith, ints);
        is = omega arith;
      }
      | inr k ↦ record {
        exponent = negsuc (190 - first);
        least = omega (arith, ints);
        greatest = omega (arith, ints);
        is = omega arith;
      }
    ]

-- a number of this sign whose bytes are these
record Found (s : Bool) (first : ℕ) (packed : List ℕ) : Type 0 where
  n : Numeral
  right : IsNumeral n
  bytes : bytes_of n ≡ bytes_by false s n
  head : first_byte n.exponent ≡ first
  rest : map (signed_byte s) (pairs_of n.digits) ≡ packed

nonzero_bytes : (n : Numeral) → 0 < length n.digits → bytes_of n ≡ bytes_by false n.negative n
unfolding bytes_of
nonzero_bytes n some = ap (λ t. bytes_by t n.negative n) (ne_eqb (length n.digits) 0 (λ e. omega arith))

found_by : (s : Bool) (first : ℕ) (packed : List ℕ) → Exponent first → IsPacked s packed → 0 < length packed
    → length packed ≤ 9 → 16 < signed_byte s (slice_index packed 0) → Found s first packed
found_by s first packed e right some few head =
    let ds : List ℕ = digits_in s packed in
    let more : 0 < length ds = some_in s packed some in
    let made : Numeral = record { negative = s; digits = digits_in s packed; exponent = e.exponent } in
    record {
      n = made;
      right = record {
        decimal = All-from_recursion (λ d. d < 10) ds (decimal_in s packed right);
        count = omega (arith, count_in s packed);
        first = λ _. first_in s packed some head;
        last = last_of ds (ends_in s packed right);
        least = e.least;
        greatest = e.greatest;
        zero_sign = λ none. absurd (omega arith);
        zero_exponent = λ none. absurd (omega arith);
      };
      bytes = nonzero_bytes made more;
      head = e.is;
      rest = packed_again s packed right;
    }

found : (s : Bool) (first : ℕ) (packed : List ℕ) → is_nonzero s first packed ≡ true → Found s first packed
found s first packed t =
    let p = and_parts (nat_lt 147 first && nat_lt first 238) (are_pairs s packed) t in
    let f = and_parts (nat_lt 147 first) (nat_lt first 238) p.0 in
    let q = and_parts (have_ends s packed) (list_all (λ b. is_pair (signed_byte s b)) packed) p.1 in
    let l = and_parts _ (nat_lt 1 (signed_byte s (slice_index packed (length packed - 1)))) q.0 in
    let b = and_parts (nat_lt 0 (length packed) && nat_le (length packed) 9)
    (nat_lt 16 (signed_byte s (slice_index packed 0))) l.0 in
    let c = and_parts (nat_lt 0 (length packed)) (nat_le (length packed) 9) b.0 in
    found_by s first packed (exponent_of first (ltb-true 147 first f.0) (ltb-true first 238 f.1))
    (packed_from s packed q.1 (ltb-true 1 _ l.1)) (ltb-true 0 (length packed) c.0) (leb-true (length packed) 9 c.1)
    (ltb-true 16 _ b.1)

passes : (s : Bool) (first : ℕ) (packed : List ℕ) (n : Numeral) → IsNumeral n → 0 < length n.digits
    → first ≡ first_byte n.exponent → packed ≡ map (signed_byte s) (pairs_of n.digits)
    → is_nonzero s first packed ≡ true
passes s first packed n h some e f =
    let within = first_within n.exponent h.least h.greatest in
    and_from (nat_lt 147 first && nat_lt first 238) (are_pairs s packed)
    (and_from (nat_lt 147 first) (nat_lt first 238) (lt-ltb 147 first (omega (arith, e, within.0)))
    (lt-ltb first 238 (omega (arith, e, within.1))))
    (ap (are_pairs s) f ∙ are_pairs-digits s n h some)

-- ---- the tests

abbrev pub IsEncoded : List ℕ → Type 0
IsEncoded bytes = (n : Numeral) × IsNumeral n × (bytes_of n ≡ bytes)

pub encoded_plus : (first : ℕ) (packed : List ℕ) → 128 < first
    → (is_nonzero false first packed ≡ true) ↔ IsEncoded (first ∷ packed)
encoded_plus first packed above = (
  λ t. let f = found false first packed t in
      let rest : pairs_of f.n.digits ≡ packed = sym (map-id (pairs_of f.n.digits)) ∙ f.rest in
      (f.n, f.right, f.bytes ∙ (λ i. f.head i ∷ rest i)),
  λ (n, h, e). let s = plus_shape n h first packed above e in passes false first packed n h s.some s.head s.rest,
)

pub encoded_minus : (first : ℕ) (packed : List ℕ) → first < 128
    → (is_nonzero true (255 - first) packed ≡ true) ↔ IsEncoded (first ∷ (packed ++ 255 ∷ []))
encoded_minus first packed below = (
  λ t. let f = found true (255 - first) packed t in
      let head : 255 - first_byte f.n.exponent ≡ first = omega (arith, f.head) in
      (f.n, f.right, f.bytes ∙ (λ i. head i ∷ (f.rest i ++ 255 ∷ []))),
  λ (n, h, e). let s = minus_shape n h first packed 255 below e in
      passes true (255 - first) packed n h s.some s.head s.rest,
)

pub encoded_zero : (rest : List ℕ) → ((length rest == 0) ≡ true) ↔ IsEncoded (128 ∷ rest)
unfolding bytes_of
encoded_zero [] = (
  λ _. (record { negative = false; digits = []; exponent = pos 0 }, zero_is, refl),
  λ _. refl,
)
  where
    zero_is : IsNumeral (record { negative = false; digits = []; exponent = pos 0 })
    zero_is = record {
      decimal = All-from_recursion (λ d. d < 10) [] tt;
      count = omega arith;
      first = λ some. absurd (omega arith);
      last = λ some. absurd (omega arith);
      least = omega (arith, ints);
      greatest = omega (arith, ints);
      zero_sign = λ _. refl;
      zero_exponent = λ _. refl;
    }
encoded_zero (b ∷ rest) = (
  λ t. let none = eqb-true (length (b ∷ rest)) 0 t in absurd (omega arith),
  λ (n, h, e). absurd (no_more n (zero_shape n h (b ∷ rest) e) e),
)
  where
    no_more : (n : Numeral) → length n.digits ≡ 0 → bytes_of n ≡ 128 ∷ b ∷ rest → ⊥
    no_more n none e =
        let zero_bytes : bytes_of n ≡ 128 ∷ [] = ap (λ t. bytes_by t n.negative n) (eq-eqb (length n.digits) 0 none) in
        let l : 1 ≡ length (128 ∷ b ∷ rest) = sym (ap length zero_bytes) ∙ ap length e in
        absurd (omega arith)

pub encoded_none : (bytes : List ℕ) → length bytes ≡ 0 → IsEncoded bytes → ⊥
encoded_none bytes none (n, h, e) = let l = ap length e in let count = byte_count n h in absurd (omega arith)

pub encoded_alone : (first : ℕ) → first < 128 → IsEncoded (first ∷ []) → ⊥
encoded_alone first below (n, h, e) = alone n h first below e

pub encoded_open : (first : ℕ) (packed : List ℕ) (last : ℕ) → first < 128 → (last ≡ 255 → ⊥)
    → IsEncoded (first ∷ (packed ++ last ∷ [])) → ⊥
encoded_open first packed last below other (n, h, e) = other (minus_last n h first packed last below e)

-- ---- as the function's paths need them

pub encoded_at : {bytes same : List ℕ} {result t : Bool} → bytes ≡ same → result ≡ t → (t ≡ true) ↔ IsEncoded same
    → (result ≡ true) ↔ IsEncoded bytes
encoded_at e r h = (λ q. subst IsEncoded (sym e) (h.0 (sym r ∙ q)), λ q. r ∙ h.1 (subst IsEncoded e q))

pub encoded_never : {bytes : List ℕ} → (IsEncoded bytes → ⊥) → (false ≡ true) ↔ IsEncoded bytes
encoded_never h = (λ t. absurd (false≢true t), λ q. absurd (h q))
