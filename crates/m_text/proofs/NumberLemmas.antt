-- The bytes of a number's text.
use Rattle.std.proofs.Common.{◌≡◌, ℕ, zero, suc, ◌+◌, ◌-◌, ◌<◌, ℤ, pos, negsuc, Bool, true, false, ◌&&◌, eqb, leb, List}
use Rattle.std.proofs.Common.{[], ◌∷◌, ◌++◌, length, take, drop, replicate, refl, ap, ◌∙◌, arith, ⊎_elim}
use Rattle.std.proofs.lemmas.Bool.{cond-true, cases_Bool, cond-false, and_parts}
use Rattle.std.specs.List.{list_all, AllByRecursion, All}
use Rattle.std.proofs.lemmas.List.Elements.{recursion_from_All, All-take, All-drop}
use Rattle.m_number.specs.Numeral.{Numeral, IsNumeral}
use Rattle.m_number.specs.Text.{text_of, size_text, nonzero_text, large_text, codes_of}
use Rattle.m_text.specs.Front.{is_number_byte}
use Rattle.std.specs.Char.{is_ascii_digit}
use Rattle.std.specs.Prelude.{◌==◌, ◌||◌}

all_both : (xs ys : List ℕ) → list_all is_number_byte xs ≡ true → list_all is_number_byte ys ≡ true
    → list_all is_number_byte (xs ++ ys) ≡ true
all_both [] ys a b = b
all_both (x ∷ xs) ys a b =
    let h = and_parts (is_number_byte x) (list_all is_number_byte xs) a in
    ap (λ (t : Bool). t && list_all is_number_byte (xs ++ ys)) h.0 ∙ all_both xs ys h.1 b

pub digit_pass : (d : ℕ) → d < 10 → is_ascii_digit (48 + d) ≡ true
digit_pass zero l = refl
digit_pass (suc zero) l = refl
digit_pass (suc (suc zero)) l = refl
digit_pass (suc (suc (suc zero))) l = refl
digit_pass (suc (suc (suc (suc zero)))) l = refl
digit_pass (suc (suc (suc (suc (suc zero))))) l = refl
digit_pass (suc (suc (suc (suc (suc (suc zero)))))) l = refl
digit_pass (suc (suc (suc (suc (suc (suc (suc zero))))))) l = refl
digit_pass (suc (suc (suc (suc (suc (suc (suc (suc zero)))))))) l = refl
digit_pass (suc (suc (suc (suc (suc (suc (suc (suc (suc zero))))))))) l = refl
digit_pass (suc (suc (suc (suc (suc (suc (suc (suc (suc (suc d)))))))))) l = absurd (omega (arith, l))

or_last : (t : Bool) → (t || true) ≡ true
or_last true = refl
or_last false = refl

digit_code : (d : ℕ) → d < 10 → is_number_byte (48 + d) ≡ true
digit_code d l = ap (λ t. (48 + d == 45 || 48 + d == 46) || t) (digit_pass d l) ∙ or_last (48 + d == 45 || 48 + d == 46)

all_codes : (ds : List ℕ) → AllByRecursion (λ d. d < 10) ds → list_all is_number_byte (codes_of ds) ≡ true
all_codes [] h = refl
all_codes (d ∷ ds) h = ap (λ (t : Bool). t && list_all is_number_byte (codes_of ds)) (digit_code d h.0)
    ∙ all_codes ds h.1

all_zeros : (n : ℕ) → list_all is_number_byte (replicate n 48) ≡ true
all_zeros zero = refl
all_zeros (suc n) = all_zeros n

codes_pass : (ds : List ℕ) → All (λ d. d < 10) ds → list_all is_number_byte (codes_of ds) ≡ true
codes_pass ds h = all_codes ds (recursion_from_All (λ (d : ℕ). d < 10) ds h)

large_pass : (ds : List ℕ) (whole : ℕ) → All (λ d. d < 10) ds → list_all is_number_byte (large_text ds whole) ≡ true
large_pass ds whole h =
    let F : List ℕ → Bool = λ t. list_all is_number_byte t in
    ⊎_elim
    (λ (q : leb (length ds) whole ≡ true). ap F (cond-true (leb (length ds) whole) _ _ q)
    ∙ all_both (codes_of ds) (replicate (whole - length ds) 48) (codes_pass ds h) (all_zeros (whole - length ds)))
    (λ (q : leb (length ds) whole ≡ false).
    ap F (cond-false (leb (length ds) whole) _ _ q)
    ∙ all_both (codes_of (take whole ds)) (46 ∷ codes_of (drop whole ds))
    (codes_pass (take whole ds) (All-take (λ (d : ℕ). d < 10) whole ds h))
    (codes_pass (drop whole ds) (All-drop (λ (d : ℕ). d < 10) whole ds h)))
    (cases_Bool (leb (length ds) whole))

nonzero_pass : (ds : List ℕ) (e : ℤ) → All (λ d. d < 10) ds → list_all is_number_byte (nonzero_text ds e) ≡ true
nonzero_pass ds (pos e) h = large_pass ds (e + 1) h
nonzero_pass ds (negsuc k) h = all_both (replicate k 48) (codes_of ds) (all_zeros k) (codes_pass ds h)

size_pass : (ds : List ℕ) (e : ℤ) → All (λ d. d < 10) ds → list_all is_number_byte (size_text ds e) ≡ true
size_pass ds e h =
    let F : List ℕ → Bool = λ t. list_all is_number_byte t in
    ⊎_elim
    (λ (q : eqb (length ds) 0 ≡ true). ap F (cond-true (eqb (length ds) 0) _ _ q))
    (λ (q : eqb (length ds) 0 ≡ false). ap F (cond-false (eqb (length ds) 0) _ _ q) ∙ nonzero_pass ds e h)
    (cases_Bool (eqb (length ds) 0))

pub number_bytes : (n : Numeral) → IsNumeral n → list_all is_number_byte (text_of n) ≡ true
unfolding text_of
number_bytes n h =
    let F : List ℕ → Bool = λ t. list_all is_number_byte t in
    ⊎_elim
    (λ (q : n.negative ≡ true). ap F (cond-true n.negative _ _ q) ∙ size_pass n.digits n.exponent h.decimal)
    (λ (q : n.negative ≡ false). ap F (cond-false n.negative _ _ q) ∙ size_pass n.digits n.exponent h.decimal)
    (cases_Bool n.negative)
