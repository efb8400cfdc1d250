-- A string's bytes without their escapes: what was escaped, and only that, can be unescaped.
use Rattle.std.proofs.Common.{◌≡◌, ℕ, zero, suc, ◌+◌, ◌-◌, ◌<◌, Bool, true, false, cond, List, [], ◌∷◌, ◌++◌, length}
use Rattle.std.proofs.Common.{take, drop, replicate, ℤ, pos, negsuc, refl, sym, ap, subst, ◌∙◌, ◌⊎◌, inl, inr, arith}
use Rattle.std.proofs.Common.{flat_map, length-append, Option, None, Some}
use Rattle.std.specs.Prelude.{◌==◌, ◌&&◌, ◌||◌, ◌↔◌, not, nat_lt, nat_le, option_map, is_some, IfSome, IfNone}
use Rattle.std.specs.List.{AllByRecursion}
use Rattle.std.proofs.lemmas.Bool.{cases_Bool, and_parts, or_cases, cond-true, cond-false, ltb-true, lt-ltb, eqb-true}
use Rattle.std.proofs.lemmas.Bool.{false≢true, true≢false, false_from_ne_true}
use Rattle.m_number.specs.Numeral.{Numeral, IsNumeral}
use Rattle.m_number.specs.Text.{codes_of, large_text, nonzero_text, size_text, text_of}
use Rattle.m_number.specs.Number.{numeral_of}
use Rattle.m_number.specs.declared.number.Number.{Number}
use Rattle.m_key.specs.Key.{escaped}
use Rattle.m_key.specs.KeyParts.{unescaped}
use Rattle.m_key.proofs.EscapeLemmas.{escaped-plain}
use Rattle.m_key.proofs.KeyPartLemmas.{Bytes}

plain_front : (b : ℕ) (rest : List ℕ) → 1 < b → unescaped (b ∷ rest) ≡ option_map (λ text. b ∷ text) (unescaped rest)
plain_front b [] h = cond-true (nat_lt 1 b) (Some (b ∷ [])) None (lt-ltb 1 b h)
plain_front b (c ∷ rest) h = cond-true (nat_lt 1 b) _ _ (lt-ltb 1 b h)

-- what is escaped in front is unescaped
pub unescaped-escaped : (b : ℕ) (rest : List ℕ)
    → unescaped (escaped b ++ rest) ≡ option_map (λ text. b ∷ text) (unescaped rest)
unescaped-escaped zero rest = refl
unescaped-escaped (suc zero) rest = refl
unescaped-escaped (suc (suc b)) rest = ap (λ xs. unescaped (xs ++ rest)) (escaped-plain (suc (suc b)) (omega arith))
    ∙ plain_front (suc (suc b)) rest (omega arith)

pub unescaped_again : (text : List ℕ) → unescaped (flat_map escaped text) ≡ Some text
unescaped_again [] = refl
unescaped_again (b ∷ text) = unescaped-escaped b (flat_map escaped text)
    ∙ ap (option_map (λ t. b ∷ t)) (unescaped_again text)

abbrev pub Right_text : List ℕ → List ℕ → Type 0
Right_text bytes text = (flat_map escaped text ≡ bytes) × (Bytes bytes → Bytes text)

pub none_some : (text : List ℕ) → None ≡ Some text → ⊥
none_some text e = absurd (cc)

mapped : (b : ℕ) (o : Option (List ℕ)) (text : List ℕ) → option_map (λ t. b ∷ t) o ≡ Some text
    → (tail : List ℕ) × (o ≡ Some tail) × (text ≡ b ∷ tail)
mapped b None text e = absurd (cc)
mapped b (Some t) text e = (t, refl, cc)

one_more : (b : ℕ) (rest more text tail : List ℕ) → escaped b ++ more ≡ rest → text ≡ b ∷ tail
    → (Bytes rest → (b < 256) × Bytes more) → Right_text more tail → Right_text rest text
one_more b rest more text tail e f low r = (
  ap (flat_map escaped) f ∙ ap (λ xs. escaped b ++ xs) r.0 ∙ e,
  λ h. subst Bytes (sym f) ((low h).0, r.1 (low h).1),
)

plain_again : (b : ℕ) (rest text : List ℕ) → 1 < b → ((t : List ℕ) → unescaped rest ≡ Some t → Right_text rest t)
    → unescaped (b ∷ rest) ≡ Some text → Right_text (b ∷ rest) text
plain_again b rest text l more e =
    let m = mapped b (unescaped rest) text (sym (plain_front b rest l) ∙ e) in
    one_more b (b ∷ rest) rest text m.0 (ap (λ xs. xs ++ rest) (escaped-plain b l)) m.2 (λ h. h) (more m.0 m.1)

pair_is : (b c : ℕ) (bytes : List ℕ) → b ≡ 1 → (c == 1 ≡ true) ⊎ (c == 2 ≡ true)
    → escaped (c - 1) ++ bytes ≡ b ∷ c ∷ bytes
pair_is b c bytes e (inl f) =
    let g : c ≡ 1 = eqb-true c 1 f in
    let first : escaped (c - 1) ++ bytes ≡ 1 ∷ 1 ∷ bytes = ap (λ x. escaped (x - 1) ++ bytes) g in
    cc
pair_is b c bytes e (inr f) =
    let g : c ≡ 2 = eqb-true c 2 f in
    let first : escaped (c - 1) ++ bytes ≡ 1 ∷ 2 ∷ bytes = ap (λ x. escaped (x - 1) ++ bytes) g in
    cc

pair_again : (b c : ℕ) (bytes text : List ℕ) (t : Bool) → ((b == 1) && (c == 1 || c == 2)) ≡ t
    → ((t : List ℕ) → unescaped bytes ≡ Some t → Right_text bytes t)
    → cond t (option_map (λ text. (c - 1) ∷ text) (unescaped bytes)) None ≡ Some text → Right_text (b ∷ c ∷ bytes) text
pair_again b c bytes text true t more e =
    let p = and_parts (b == 1) (c == 1 || c == 2) t in
    let m = mapped (c - 1) (unescaped bytes) text e in
    one_more (c - 1) (b ∷ c ∷ bytes) bytes text m.0
    (pair_is b c bytes (eqb-true b 1 p.0) (or_cases (c == 1) (c == 2) p.1)) m.2 (λ h. (
      omega (arith, h.1.0),
      h.1.1,
    )) (more m.0 m.1)
pair_again b c bytes text false t more e = absurd (cc)

-- The bytes that are unescaped are a text's, escaped.
pub text_again : (bytes text : List ℕ) → unescaped bytes ≡ Some text → Right_text bytes text
text_again [] text e = let f : [] ≡ text = cc in (ap (flat_map escaped) (sym f), λ h. subst Bytes f tt)
text_again (b ∷ []) text e =
    elim (cases_Bool (nat_lt 1 b)) [
      | inl t ↦ plain_again b [] text (ltb-true 1 b t) (text_again []) e
      | inr t ↦ absurd (none_some text (sym (cond-false (nat_lt 1 b) (Some (b ∷ [])) None t) ∙ e))
    ]
text_again (b ∷ c ∷ bytes) text e =
    elim (cases_Bool (nat_lt 1 b)) [
      | inl t ↦ plain_again b (c ∷ bytes) text (ltb-true 1 b t) (text_again (c ∷ bytes)) e
      | inr t ↦ pair_again b c bytes text ((b == 1) && (c == 1 || c == 2)) refl (text_again bytes)
          (sym (cond-false (nat_lt 1 b) (option_map (λ text. b ∷ text) (unescaped (c ∷ bytes))) _ t) ∙ e)
    ]

pub unescaped_none : (bytes : List ℕ) → 0 < length bytes → ((b : ℕ) (rest : List ℕ) → escaped b ++ rest ≡ bytes → ⊥)
    → unescaped bytes ≡ None
unescaped_none [] some none = absurd (omega arith)
unescaped_none (b ∷ []) some none =
    cond-false (nat_lt 1 b) (Some (b ∷ [])) None
    (false_from_ne_true (nat_lt 1 b) (λ t. none b [] (ap (λ xs. xs ++ []) (escaped-plain b (ltb-true 1 b t)))))
unescaped_none (b ∷ c ∷ bytes) some none =
    cond-false (nat_lt 1 b) _ _ (false_from_ne_true (nat_lt 1 b)
    (λ t. none b (c ∷ bytes) (ap (λ xs. xs ++ c ∷ bytes) (escaped-plain b (ltb-true 1 b t)))))
    ∙ cond-false ((b == 1) && (c == 1 || c == 2)) _ None (false_from_ne_true ((b == 1) && (c == 1 || c == 2)) no_pair)
  where
    second : b ≡ 1 → (c == 1 ≡ true) ⊎ (c == 2 ≡ true) → ⊥
    second e (inl f) = let g : c ≡ 1 = eqb-true c 1 f in none 0 bytes (cc)
    second e (inr f) = let g : c ≡ 2 = eqb-true c 2 f in none 1 bytes (cc)

    no_pair : ((b == 1) && (c == 1 || c == 2)) ≡ true → ⊥
    no_pair t =
        let p = and_parts (b == 1) (c == 1 || c == 2) t in
        second (eqb-true b 1 p.0) (or_cases (c == 1) (c == 2) p.1)

pub shorter : (b : ℕ) (more rest : List ℕ) → escaped b ++ more ≡ rest → length more < length rest
shorter b more rest e =
    let l : length (escaped b ++ more) ≡ length rest = ap length e in
    omega (arith, l, length-append (escaped b) more, escaped_some b)
  where
    escaped_some : (b : ℕ) → 0 < length (escaped b)
    escaped_some zero = omega arith
    escaped_some (suc zero) = omega arith
    escaped_some (suc (suc b)) = rw (escaped-plain (suc (suc b)) (omega arith)) (omega arith)

-- ---- the texts of numbers

abbrev Plain : List ℕ → Type 0
Plain text = AllByRecursion (λ b. 1 < b) text

-- bytes above 1 stand for themselves
plain-escaped : (text : List ℕ) → Plain text → flat_map escaped text ≡ text
plain-escaped [] h = refl
plain-escaped (b ∷ text) h =
    ap (λ xs. xs ++ flat_map escaped text) (escaped-plain b h.0) ∙ ap (λ xs. b ∷ xs) (plain-escaped text h.1)

Plain-append : (a b : List ℕ) → Plain a → Plain b → Plain (a ++ b)
Plain-append [] b p q = q
Plain-append (x ∷ a) b p q = (p.0, Plain-append a b p.1 q)

Plain-cond : (t : Bool) (a b : List ℕ) → Plain a → Plain b → Plain (cond t a b)
Plain-cond true a b p q = p
Plain-cond false a b p q = q

Plain-codes : (ds : List ℕ) → Plain (codes_of ds)
Plain-codes [] = tt
Plain-codes (d ∷ ds) = (omega arith, Plain-codes ds)

Plain-zeros : (n : ℕ) → Plain (replicate n 48)
Plain-zeros zero = tt
Plain-zeros (suc n) = (omega arith, Plain-zeros n)

Plain-large : (ds : List ℕ) (whole : ℕ) → Plain (large_text ds whole)
Plain-large ds whole =
    Plain-cond (nat_le (length ds) whole) _ _
    (Plain-append (codes_of ds) (replicate (whole - length ds) 48) (Plain-codes ds) (Plain-zeros (whole - length ds)))
    (Plain-append (codes_of (take whole ds)) (46 ∷ codes_of (drop whole ds)) (Plain-codes (take whole ds)) (
      omega arith,
      Plain-codes (drop whole ds),
    ))

Plain-nonzero : (ds : List ℕ) (e : ℤ) → Plain (nonzero_text ds e)
Plain-nonzero ds (pos e) = Plain-large ds (e + 1)
Plain-nonzero ds (negsuc zeros) =
    (omega arith, Plain-append (replicate zeros 48) (codes_of ds) (Plain-zeros zeros) (Plain-codes ds))

Plain-size : (ds : List ℕ) (e : ℤ) → Plain (size_text ds e)
Plain-size ds e = Plain-cond (length ds == 0) (48 ∷ []) (nonzero_text ds e) (omega arith, tt) (Plain-nonzero ds e)

-- no byte of a number's text is escaped
Plain-text : (n : Numeral) → Plain (text_of n)
unfolding text_of
Plain-text n =
    Plain-cond n.negative (45 ∷ size_text n.digits n.exponent) (size_text n.digits n.exponent)
    (omega arith, Plain-size n.digits n.exponent) (Plain-size n.digits n.exponent)

abbrev pub IsNoNumber : List ℕ → Type 0
IsNoNumber text = (n : Numeral) → IsNumeral n → text_of n ≡ text → ⊥

text_found : (bytes : List ℕ) → is_some (unescaped bytes) ≡ true → IsNoNumber bytes
    → (text : List ℕ) × (unescaped bytes ≡ Some text) × IsNoNumber text
text_found bytes some none = found (unescaped bytes) refl some
  where
    own : (text : List ℕ) (n : Numeral) → unescaped bytes ≡ Some text → text_of n ≡ text → text_of n ≡ bytes
    own text n e f =
        f ∙ sym (plain-escaped text (subst Plain f (Plain-text n))) ∙ (text_again bytes text e).0

    found : (o : Option (List ℕ)) → unescaped bytes ≡ o → is_some o ≡ true
        → (text : List ℕ) × (unescaped bytes ≡ Some text) × IsNoNumber text
    found None e t = absurd (false≢true t)
    found (Some text) e t = (text, e, λ n h f. none n h (own text n e f))

text_refused : (bytes text : List ℕ) (n : Numeral) → text_of n ≡ bytes → unescaped bytes ≡ Some text → text_of n ≡ text
text_refused bytes text n e f =
    let again : Some bytes ≡ Some text =
    sym (unescaped_again bytes) ∙ ap unescaped (plain-escaped bytes (subst Plain e (Plain-text n))) ∙ f in
    cc

-- what is told by whether a number has these bytes as its text
pub text_test : (r : Option Number) (none : Bool) (bytes : List ℕ) → is_some r ≡ not none
    → IfSome r (λ n. text_of (numeral_of n) ≡ bytes) → IfNone r (IsNoNumber bytes) → is_some (unescaped bytes) ≡ true
    → (none ≡ true) ↔ ((text : List ℕ) × (unescaped bytes ≡ Some text) × IsNoNumber text)
text_test None true bytes e some nothing t = (λ _. text_found bytes t nothing, λ _. refl)
text_test None false bytes e some nothing t = absurd (false≢true e)
text_test (Some n) true bytes e some nothing t = absurd (true≢false e)
text_test (Some n) false bytes e some nothing t = (
  λ f. absurd (false≢true f),
  λ (text, f, g). absurd (g (numeral_of n) n.is_numeral (text_refused bytes text (numeral_of n) some f)),
)

-- ---- whether bytes can be unescaped

some_mapped : (b : ℕ) (o : Option (List ℕ)) → is_some (option_map (λ text. b ∷ text) o) ≡ is_some o
some_mapped b None = refl
some_mapped b (Some text) = refl

-- what is left decides
pub some_more : (b : ℕ) (rest more : List ℕ) → escaped b ++ more ≡ rest
    → is_some (unescaped more) ≡ is_some (unescaped rest)
some_more b rest more e = sym (some_mapped b (unescaped more))
    ∙ ap is_some (sym (unescaped-escaped b more) ∙ ap unescaped e)
