-- A number's text gives the number back.
use Rattle.std.proofs.Common.{◌≡◌, ◌≢◌, ℕ, zero, suc, ◌+◌, ◌-◌, ◌<◌, ◌≤◌, ℤ, pos, negsuc, Bool, true, false, not, cond}
use Rattle.std.proofs.Common.{eqb, ltb, leb, List, [], ◌∷◌, ◌++◌, length, get_or, take, drop, map, replicate, refl, sym}
use Rattle.std.proofs.Common.{ap, ◌∙◌, arith, add-one, append_assoc, length-append}
use Rattle.std.specs.List.{prefix_len, suffix_len}
use Rattle.std.specs.Prelude.{slice_index, ◌≤ℤ◌}
use Rattle.std.proofs.lemmas.Bool.Decides.{nat_tests}
use Rattle.std.proofs.lemmas.List.{length-take-le, get_or-map, get_or-append_right, get_or-replicate}
use Rattle.std.proofs.lemmas.List.{get_or_append_left, map-append, take-append-drop, take_at, drop_at, length-map}
use Rattle.std.proofs.lemmas.List.{length-replicate}
use Rattle.std.proofs.lemmas.List.Sums.{suffix_len_is}
use Rattle.std.proofs.lemmas.Bool.{leb-true, leb-false, false≢true}
use Rattle.std.proofs.lemmas.Slice.Eq.{bytes_eq-Decides}
use Rattle.std.specs.Str.{bytes_eq}
use Rattle.std.proofs.lemmas.Int.{ints}
use Rattle.m_number.specs.Numeral.{Numeral, IsNumeral}
use Rattle.m_number.specs.Text.{codes_of, large_text, nonzero_text, size_text, text_of}

-- each code gives its digit
pub digits_of_codes : (ds : List ℕ) → map (λ c. c - 48) (codes_of ds) ≡ ds
digits_of_codes [] = refl
digits_of_codes (d ∷ ds) =
    let e : (48 + d) - 48 ≡ d = omega arith in
    let r = digits_of_codes ds in
    cc

prefix_len-append_cons : (p : ℕ → Bool) (x : ℕ) (xs ys : List ℕ) (b : Bool) → p x ≡ b
    → prefix_len p (x ∷ xs) ≡ suc (length xs)
    → (prefix_len p xs ≡ length xs → prefix_len p (xs ++ ys) ≡ length xs + prefix_len p ys)
    → prefix_len p (x ∷ (xs ++ ys)) ≡ suc (length xs) + prefix_len p ys
prefix_len-append_cons p x xs ys true e h more =
    let k = rw e at h in
    let m = more (omega (arith, k)) in
    rw e (omega (arith, m))
prefix_len-append_cons p x xs ys false e h more = absurd (let k = rw e at h in omega (arith, k))

-- where all of a front passes, the test goes on behind it
pub prefix_len-append : (p : ℕ → Bool) (xs ys : List ℕ) → prefix_len p xs ≡ length xs
    → prefix_len p (xs ++ ys) ≡ length xs + prefix_len p ys
prefix_len-append p [] ys h = omega arith
prefix_len-append p (x ∷ xs) ys h = prefix_len-append_cons p x xs ys (p x) refl h (prefix_len-append p xs ys)

pub prefix_len-replicate : (p : ℕ → Bool) (x : ℕ) → p x ≡ true → (n : ℕ) → prefix_len p (replicate n x) ≡ n
prefix_len-replicate p x e zero = refl
prefix_len-replicate p x e (suc n) = rw e (omega (arith, prefix_len-replicate p x e n))

abbrev pub not_point : ℕ → Bool
not_point c = not (eqb c 46)

abbrev pub is_zero : ℕ → Bool
is_zero c = eqb c 48

abbrev zeros : ℕ → List ℕ
zeros k = replicate k 48

length-zeros : (k : ℕ) → length (zeros k) ≡ k
length-zeros k = length-replicate k 48

code_not_point : (d : ℕ) → not_point (48 + d) ≡ true
code_not_point d = grind (arith, nat_tests)

code_not_zero : (d : ℕ) → 0 < d → is_zero (48 + d) ≡ false
code_not_zero d h = grind (arith, nat_tests)

prefix_len-codes : (ds : List ℕ) → prefix_len not_point (codes_of ds) ≡ length (codes_of ds)
prefix_len-codes [] = refl
prefix_len-codes (d ∷ ds) = rw (code_not_point d) (omega (arith, prefix_len-codes ds))

-- digits, then something else
pub whole-codes : (ds ys : List ℕ) → prefix_len not_point (codes_of ds ++ ys) ≡ length ds + prefix_len not_point ys
whole-codes ds ys = prefix_len-append not_point (codes_of ds) ys (prefix_len-codes ds)
    ∙ ap (λ n. n + prefix_len not_point ys) (length-map ds (λ d. 48 + d))

-- zeros before a digit that isn't 0
pub zeros-codes : (k d : ℕ) (xs : List ℕ) → 0 < d → prefix_len is_zero (zeros k ++ (48 + d) ∷ xs) ≡ k
zeros-codes k d xs h =
    let a = prefix_len-append is_zero (zeros k) ((48 + d) ∷ xs) (prefix_len-replicate is_zero 48 refl k
    ∙ sym (length-zeros k)) in
    let b : prefix_len is_zero ((48 + d) ∷ xs) ≡ 0 = rw (code_not_zero d h) in
    let z = length-zeros k in
    omega arith

code_at : (ds : List ℕ) (i : ℕ) → i < length ds → get_or (codes_of ds) i 0 ≡ 48 + get_or ds i 0
code_at ds i h = get_or-map (λ d. 48 + d) ds i 0 0 h

filler_at : (ds : List ℕ) (k i : ℕ) → length ds ≤ i → i < length (codes_of ds ++ zeros k)
    → get_or (codes_of ds ++ zeros k) i 0 ≡ 48
filler_at ds k i h l =
    let n = length-map ds (λ d. 48 + d) in
    let z = length-zeros k in
    let m = length-append (codes_of ds) (zeros k) in
    get_or-append_right (codes_of ds) (zeros k) (length ds) i 0 n h
    ∙ get_or-replicate k (i - length ds) 48 0 (omega arith)

-- zeros behind digits of which the last isn't 0
pub end_zeros : (ds : List ℕ) (k : ℕ) → 0 < length ds → 0 < slice_index ds (length ds - 1)
    → suffix_len is_zero (codes_of ds ++ zeros k) ≡ k
end_zeros ds k h last =
    let n = length-map ds (λ d. 48 + d) in
    let z = length-zeros k in
    let m = length-append (codes_of ds) (zeros k) in
    let at = get_or_append_left (codes_of ds) (zeros k) 0 (length ds - 1) (omega arith)
    ∙ code_at ds (length ds - 1) (omega arith) in
    let e = suffix_len_is is_zero (codes_of ds ++ zeros k) (length ds) 0 (omega arith)
    (λ i low high. ap is_zero (filler_at ds k i low high))
    (λ _. ap is_zero at ∙ code_not_zero (slice_index ds (length ds - 1)) last) in
    omega arith

-- what a text spells behind its sign: the codes of its digits, and the exponent
abbrev pub fraction_reading : List ℕ → List ℕ × ℤ
fraction_reading f = (drop (prefix_len is_zero f) f, negsuc (prefix_len is_zero f))

abbrev pub large_reading : List ℕ → List ℕ × ℤ
large_reading s =
    cond (ltb (prefix_len not_point s) (length s))
    (take (prefix_len not_point s) s ++ drop (prefix_len not_point s + 1) s, pos (prefix_len not_point s - 1))
    (take (length s - suffix_len is_zero s) s, pos (prefix_len not_point s - 1))

abbrev pub size_reading : List ℕ → List ℕ × ℤ
size_reading s = cond (eqb (slice_index s 0) 46) (fraction_reading (drop 1 s)) (large_reading s)

abbrev pub numeral_read : Bool → List ℕ × ℤ → Numeral
numeral_read negative found = record { negative = negative; digits = map (λ c. c - 48) found.0; exponent = found.1 }

abbrev pub reading : List ℕ → Numeral
reading t =
    cond (eqb (slice_index t 0) 45)
    (numeral_read true (size_reading (drop 1 t)))
    (numeral_read false (size_reading t))

pub fraction_again : (ds : List ℕ) (k : ℕ) → 0 < length ds → 0 < slice_index ds 0
    → fraction_reading (zeros k ++ codes_of ds) ≡ (codes_of ds, negsuc k)
fraction_again [] k h first = absurd (omega arith)
fraction_again (d ∷ ds) k h first =
    let e = zeros-codes k d (codes_of ds) first in
    rw e (ap (λ (xs : List ℕ). (xs, negsuc k)) (drop_at (zeros k) (codes_of (d ∷ ds)) k (length-zeros k)))

pointed_reading : (s : List ℕ) (w : ℕ) → prefix_len not_point s ≡ w → w < length s
    → large_reading s ≡ (take w s ++ drop (w + 1) s, pos (w - 1))
pointed_reading s w h l = rw h (let t : ltb w (length s) ≡ true = grind (arith, nat_tests) in rw t refl)

whole_reading : (s : List ℕ) (w z : ℕ) → prefix_len not_point s ≡ w → length s ≤ w → suffix_len is_zero s ≡ z
    → large_reading s ≡ (take (length s - z) s, pos (w - 1))
whole_reading s w z h l e = rw (h, e) (let t : ltb w (length s) ≡ false = grind (arith, nat_tests) in rw t refl)

-- all the digits are whole, and zeros may follow
pub filled_again : (ds : List ℕ) (k e : ℕ) → 0 < length ds → 0 < slice_index ds (length ds - 1) → length ds + k ≡ e + 1
    → large_reading (codes_of ds ++ zeros k) ≡ (codes_of ds, pos e)
filled_again ds k e h last count =
    let n = length-map ds (λ d. 48 + d) in
    let z = length-zeros k in
    let m = length-append (codes_of ds) (zeros k) in
    let p : prefix_len not_point (zeros k) ≡ k = prefix_len-replicate not_point 48 refl k in
    let whole : prefix_len not_point (codes_of ds ++ zeros k) ≡ e + 1 = omega (arith, whole-codes ds (zeros k)) in
    let size : length (codes_of ds ++ zeros k) ≡ e + 1 = omega arith in
    let front : take (length (codes_of ds ++ zeros k) - k) (codes_of ds ++ zeros k) ≡ codes_of ds =
    take_at (codes_of ds) (zeros k) (length (codes_of ds ++ zeros k) - k) (omega arith) in
    let minus : (e + 1) - 1 ≡ e = omega arith in
    whole_reading (codes_of ds ++ zeros k) (e + 1) k whole (omega arith) (end_zeros ds k h last)
    ∙ rw (front, minus) refl

pub pointed_again : (front back : List ℕ) (e : ℕ) → length front ≡ e + 1
    → large_reading (codes_of front ++ 46 ∷ codes_of back) ≡ (codes_of (front ++ back), pos e)
pointed_again front back e count =
    let n = length-map front (λ d. 48 + d) in
    let m = length-append (codes_of front) (46 ∷ codes_of back) in
    let whole : prefix_len not_point (codes_of front ++ 46 ∷ codes_of back) ≡ e + 1 =
    omega (arith, whole-codes front (46 ∷ codes_of back)) in
    let first = take_at (codes_of front) (46 ∷ codes_of back) (e + 1) (omega arith) in
    let regrouped : codes_of front ++ 46 ∷ codes_of back ≡ (codes_of front ++ 46 ∷ []) ++ codes_of back =
    sym (append_assoc (codes_of front) (46 ∷ []) (codes_of back)) in
    let o = length-append (codes_of front) (46 ∷ []) in
    let second = ap (drop (e + 1 + 1)) regrouped
    ∙ drop_at (codes_of front ++ 46 ∷ []) (codes_of back) (e + 1 + 1) (omega arith) in
    let minus : (e + 1) - 1 ≡ e = omega arith in
    pointed_reading (codes_of front ++ 46 ∷ codes_of back) (e + 1) whole (omega arith)
    ∙ rw (first, second, minus, map-append (λ d. 48 + d) front back) refl

lt_not_eqb : (a b : ℕ) → a < b → eqb b a ≡ false
lt_not_eqb a b h = grind (arith, nat_tests)

large_not_point : (s : List ℕ) → slice_index s 0 ≢ 46 → size_reading s ≡ large_reading s
large_not_point s h = let t : eqb (slice_index s 0) 46 ≡ false = grind (arith, nat_tests) in rw t refl

-- a text of 1 or more begins with a digit
large_start : (d : ℕ) (ds : List ℕ) (e : ℕ) (b : Bool)
    → 47 < slice_index
    (cond b (codes_of (d ∷ ds) ++ zeros (e + 1 - length (d ∷ ds)))
    (codes_of (take (e + 1) (d ∷ ds)) ++ 46 ∷ codes_of (drop (e + 1) (d ∷ ds)))) 0
large_start d ds e true = omega arith
large_start d ds e false = rw add-one (omega arith)

large_again_by : (d : ℕ) (ds : List ℕ) (e : ℕ) → 0 < slice_index (d ∷ ds) (length (d ∷ ds) - 1) → (b : Bool)
    → leb (length (d ∷ ds)) (e + 1) ≡ b
    → large_reading
    (cond b (codes_of (d ∷ ds) ++ zeros (e + 1 - length (d ∷ ds)))
    (codes_of (take (e + 1) (d ∷ ds)) ++ 46 ∷ codes_of (drop (e + 1) (d ∷ ds)))) ≡ (codes_of (d ∷ ds), pos e)
large_again_by d ds e last true t =
    let le : length (d ∷ ds) ≤ e + 1 = leb-true (length (d ∷ ds)) (e + 1) t in
    filled_again (d ∷ ds) (e + 1 - length (d ∷ ds)) e (omega arith) last (omega arith)
large_again_by d ds e last false t =
    let lt : e + 1 < length (d ∷ ds) = leb-false (length (d ∷ ds)) (e + 1) t in
    pointed_again (take (e + 1) (d ∷ ds)) (drop (e + 1) (d ∷ ds)) e (length-take-le (e + 1) (d ∷ ds) (omega arith))
    ∙ ap (λ (xs : List ℕ). (codes_of xs, pos e)) (take-append-drop (e + 1) (d ∷ ds))

-- a number of 1 or more
large_again : (d : ℕ) (ds : List ℕ) (e : ℕ) → 0 < slice_index (d ∷ ds) (length (d ∷ ds) - 1)
    → size_reading (large_text (d ∷ ds) (e + 1)) ≡ (codes_of (d ∷ ds), pos e)
large_again d ds e last =
    let start = large_start d ds e (leb (length (d ∷ ds)) (e + 1)) in
    large_not_point (large_text (d ∷ ds) (e + 1)) (λ h. absurd (omega (arith, start, h)))
    ∙ large_again_by d ds e last (leb (length (d ∷ ds)) (e + 1)) refl

pub some_digits : (d : ℕ) (ds : List ℕ) → eqb (length (d ∷ ds)) 0 ≡ false
some_digits d ds = lt_not_eqb 0 (length (d ∷ ds)) (omega arith)

-- with digits it isn't zero
size_nonzero : (d : ℕ) (ds : List ℕ) (e : ℤ) → size_text (d ∷ ds) e ≡ nonzero_text (d ∷ ds) e
size_nonzero d ds e = ap (λ (b : Bool). cond b (48 ∷ []) (nonzero_text (d ∷ ds) e)) (some_digits d ds)

-- a number without its sign
size_again_at : (ds : List ℕ) (e : ℤ) → (0 < length ds → 0 < slice_index ds 0)
    → (0 < length ds → 0 < slice_index ds (length ds - 1)) → (length ds ≡ 0 → e ≡ pos 0)
    → size_reading (size_text ds e) ≡ (codes_of ds, e)
size_again_at [] e first last none = ap (λ (x : ℤ). ([], x)) (sym (none refl))
size_again_at (d ∷ ds) (pos e) first last none = ap size_reading (size_nonzero d ds (pos e))
    ∙ large_again d ds e (last (omega arith))
size_again_at (d ∷ ds) (negsuc k) first last none = ap size_reading (size_nonzero d ds (negsuc k))
    ∙ fraction_again (d ∷ ds) k (omega arith) (first (omega arith))

pub size_again : (n : Numeral) → IsNumeral n
    → size_reading (size_text n.digits n.exponent) ≡ (codes_of n.digits, n.exponent)
size_again n h = size_again_at n.digits n.exponent h.first h.last h.zero_exponent

-- no text without its sign begins as one with it does
size_start : (ds : List ℕ) (e : ℤ) → 45 < slice_index (size_text ds e) 0
size_start [] e = omega arith
size_start (d ∷ ds) (pos e) =
    rw (size_nonzero d ds (pos e)) (omega (arith, large_start d ds e (leb (length (d ∷ ds)) (e + 1))))
size_start (d ∷ ds) (negsuc k) = rw (size_nonzero d ds (negsuc k)) (omega arith)

read_back : (n : Numeral) (b : Bool) → n.negative ≡ b → numeral_read b (codes_of n.digits, n.exponent) ≡ n
read_back n b e =
    rw (digits_of_codes n.digits) (ap (λ (x : Bool). let m : Numeral =
    record { negative = x; digits = n.digits; exponent = n.exponent } in m) (sym e))

again_at : (n : Numeral) (b : Bool) → n.negative ≡ b → IsNumeral n
    → reading (cond b (45 ∷ size_text n.digits n.exponent) (size_text n.digits n.exponent)) ≡ n
again_at n true e h = ap (numeral_read true) (size_again n h) ∙ read_back n true e
again_at n false e h =
    let start = size_start n.digits n.exponent in
    let t : eqb (slice_index (size_text n.digits n.exponent) 0) 45 ≡ false =
    lt_not_eqb 45 (slice_index (size_text n.digits n.exponent) 0) start in
    ap (λ (b : Bool). cond b (numeral_read true (size_reading (drop 1 (size_text n.digits n.exponent))))
    (numeral_read false (size_reading (size_text n.digits n.exponent)))) t
    ∙ ap (numeral_read false) (size_again n h) ∙ read_back n false e

pub again : (n : Numeral) → IsNumeral n → reading (text_of n) ≡ n
unfolding text_of
again n h = again_at n n.negative refl h

-- no two numbers have one text
pub one_reading : (a b : Numeral) → IsNumeral a → IsNumeral b → text_of a ≡ text_of b → a ≡ b
one_reading a b ha hb e = sym (again a ha) ∙ ap reading e ∙ again b hb

-- what stands behind a sign
behind_sign_by : (n : Numeral) (b : Bool) (rest : List ℕ)
    → cond b (45 ∷ size_text n.digits n.exponent) (size_text n.digits n.exponent) ≡ 45 ∷ rest
    → (b ≡ true) × (size_text n.digits n.exponent ≡ rest)
behind_sign_by n true rest e = (refl, cc)
behind_sign_by n false rest e =
    let q : slice_index (size_text n.digits n.exponent) 0 ≡ 45 = ap (λ (s : List ℕ). slice_index s 0) e in
    absurd (omega (arith, size_start n.digits n.exponent, q))

pub behind_sign : (n : Numeral) (rest : List ℕ) → text_of n ≡ 45 ∷ rest
    → (n.negative ≡ true) × (size_text n.digits n.exponent ≡ rest)
unfolding text_of
behind_sign n rest e = behind_sign_by n n.negative rest e

without_sign_by : (n : Numeral) (b : Bool) (s : List ℕ)
    → cond b (45 ∷ size_text n.digits n.exponent) (size_text n.digits n.exponent) ≡ s
    → ((rest : List ℕ) → s ≡ 45 ∷ rest → ⊥) → (b ≡ false) × (size_text n.digits n.exponent ≡ s)
without_sign_by n true s e other = absurd (other (size_text n.digits n.exponent) (sym e))
without_sign_by n false s e other = (refl, e)

pub without_sign : (n : Numeral) (s : List ℕ) → text_of n ≡ s → ((rest : List ℕ) → s ≡ 45 ∷ rest → ⊥)
    → (n.negative ≡ false) × (size_text n.digits n.exponent ≡ s)
unfolding text_of
without_sign n s e other = without_sign_by n n.negative s e other

-- what the code reads of a number's text, piece by piece
pub read_fraction : (n : Numeral) → IsNumeral n → (rest : List ℕ) (z : ℕ) → size_text n.digits n.exponent ≡ 46 ∷ rest
    → z ≡ prefix_len is_zero rest → (codes_of n.digits ≡ drop z rest) × (n.exponent ≡ negsuc z)
read_fraction n h rest z e is =
    let same : (codes_of n.digits, n.exponent) ≡ (drop z rest, negsuc z) = sym (size_again n h) ∙ ap size_reading e
    ∙ ap (λ k. (drop k rest, negsuc k)) (sym is) in
    (ap (λ (x : List ℕ × ℤ). x.0) same, ap (λ (x : List ℕ × ℤ). x.1) same)

read_large : (n : Numeral) → IsNumeral n → (s : List ℕ) → size_text n.digits n.exponent ≡ s → slice_index s 0 ≢ 46
    → (codes_of n.digits, n.exponent) ≡ large_reading s
read_large n h s e other = sym (size_again n h) ∙ ap size_reading e ∙ large_not_point s other

pub read_pointed : (n : Numeral) → IsNumeral n → (s : List ℕ) (w : ℕ) → size_text n.digits n.exponent ≡ s
    → slice_index s 0 ≢ 46 → w ≡ prefix_len not_point s → w < length s
    → (codes_of n.digits ≡ take w s ++ drop (w + 1) s) × (n.exponent ≡ pos (w - 1))
read_pointed n h s w e start is lt =
    let same : (codes_of n.digits, n.exponent) ≡ (take w s ++ drop (w + 1) s, pos (w - 1)) = read_large n h s e start
    ∙ pointed_reading s w (sym is) lt in
    (ap (λ (x : List ℕ × ℤ). x.0) same, ap (λ (x : List ℕ × ℤ). x.1) same)

pub read_whole : (n : Numeral) → IsNumeral n → (s : List ℕ) (w z : ℕ) → size_text n.digits n.exponent ≡ s
    → slice_index s 0 ≢ 46 → w ≡ prefix_len not_point s → z ≡ suffix_len is_zero s → length s ≤ w
    → (codes_of n.digits ≡ take (length s - z) s) × (n.exponent ≡ pos (w - 1))
read_whole n h s w z e start is ends le =
    let same : (codes_of n.digits, n.exponent) ≡ (take (length s - z) s, pos (w - 1)) = read_large n h s e start
    ∙ whole_reading s w z (sym is) le (sym ends) in
    (ap (λ (x : List ℕ × ℤ). x.0) same, ap (λ (x : List ℕ × ℤ). x.1) same)

-- the digits, read from the codes in two parts
pub joined : (none first both front back ds : List ℕ) → none ≡ [] → first ≡ none ++ map (λ c. c - 48) front
    → both ≡ first ++ map (λ c. c - 48) back → codes_of ds ≡ front ++ back → both ≡ ds
joined none first both front back ds e f g h =
    g ∙ ap (λ (xs : List ℕ). xs ++ map (λ c. c - 48) back) (f ∙ ap (λ (xs : List ℕ). xs ++ map (λ c. c - 48) front) e)
    ∙ sym (map-append (λ c. c - 48) front back) ∙ ap (map (λ c. c - 48)) (sym h) ∙ digits_of_codes ds

-- how long texts are
large_length : (ds : List ℕ) (e : ℕ) → length ds ≤ 18 → e ≤ 46 → (b : Bool) → leb (length ds) (e + 1) ≡ b
    → length (cond b (codes_of ds ++ zeros (e + 1 - length ds))
    (codes_of (take (e + 1) ds) ++ 46 ∷ codes_of (drop (e + 1) ds))) ≤ 61
large_length ds e count high true t =
    let n = length-map ds (λ d. 48 + d) in
    let z = length-zeros (e + 1 - length ds) in
    let m = length-append (codes_of ds) (zeros (e + 1 - length ds)) in
    omega arith
large_length ds e count high false t =
    let n = length-map (take (e + 1) ds) (λ d. 48 + d) in
    let o = length-map (drop (e + 1) ds) (λ d. 48 + d) in
    let m = length-append (codes_of (take (e + 1) ds)) (46 ∷ codes_of (drop (e + 1) ds)) in
    let all = ap length (take-append-drop (e + 1) ds) in
    let a = length-append (take (e + 1) ds) (drop (e + 1) ds) in
    omega arith

size_length_at : (ds : List ℕ) (e : ℤ) → length ds ≤ 18 → negsuc 42 ≤ℤ e → e ≤ℤ pos 46 → length (size_text ds e) ≤ 61
size_length_at [] e count low high = omega arith
size_length_at (d ∷ ds) (pos e) count low high =
    rw (size_nonzero d ds (pos e)) (large_length (d ∷ ds) e count (omega (
      arith,
      ints,
    )) (leb (length (d ∷ ds)) (e + 1)) refl)
size_length_at (d ∷ ds) (negsuc k) count low high =
    let n = length-map (d ∷ ds) (λ d. 48 + d) in
    let z = length-zeros k in
    let m = length-append (zeros k) (codes_of (d ∷ ds)) in
    let b : k ≤ 42 = omega (arith, ints) in
    rw (size_nonzero d ds (negsuc k)) (omega arith)

text_length_by : (n : Numeral) (b : Bool) → length (size_text n.digits n.exponent) ≤ 61
    → length (cond b (45 ∷ size_text n.digits n.exponent) (size_text n.digits n.exponent)) ≤ 62
text_length_by n true h = omega arith
text_length_by n false h = omega arith

pub text_length : (n : Numeral) → IsNumeral n → length (text_of n) ≤ 62
unfolding text_of
text_length n h = text_length_by n n.negative (size_length_at n.digits n.exponent h.count h.least h.greatest)

-- what a front of one byte that is taken off says
pub taken_off : (x : ℕ) (s rest : List ℕ) → take 1 s ≡ x ∷ [] → rest ≡ drop 1 s → s ≡ x ∷ rest
taken_off x s rest t r = sym (take-append-drop 1 s) ∙ ap (λ (xs : List ℕ). xs ++ drop 1 s) t
    ∙ ap (λ (xs : List ℕ). x ∷ xs) (sym r)

pub front_taken : (x : ℕ) (s rest : List ℕ) → bytes_eq (take 1 s) (x ∷ []) ≡ true → rest ≡ drop 1 s → s ≡ x ∷ rest
front_taken x s rest t r = taken_off x s rest ((bytes_eq-Decides (take 1 s) (x ∷ [])).0 t) r

pub no_front : (x : ℕ) (s : List ℕ) → bytes_eq (take 1 s) (x ∷ []) ≡ false → (rest : List ℕ) → s ≡ x ∷ rest → ⊥
no_front x s t rest e = false≢true (sym t ∙ (bytes_eq-Decides (take 1 s) (x ∷ [])).1 (ap (take 1) e))
