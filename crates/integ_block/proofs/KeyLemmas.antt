-- How a key's name and subscripts are read, piece by piece.
use Rattle.std.proofs.Common.{◌≡◌, ℕ, Bool, true, false, cond, List, [], ◌∷◌, length}
use Rattle.std.proofs.Common.{take, refl, sym, ap, ◌∙◌, arith, Option}
use Rattle.std.proofs.Common.{None, Some}
use Rattle.std.specs.Prelude.{◌==◌, ◌↔◌, not, bytes_eq}
use Rattle.std.proofs.lemmas.Bool.{cond-true, cond-false, eqb-true, false≢true}
use Rattle.std.proofs.lemmas.Bool.{false_from_ne_true}
use Rattle.m_number.specs.Numeral.{Numeral, IsNumeral}
use Rattle.m_number.specs.Text.{text_of}
use Rattle.m_number.specs.Bytes.{bytes_of}
use Rattle.m_number.proofs.BytesLemmas.{byte_count}
use Rattle.m_number.proofs.TextLemmas.{no_front}
use Rattle.gds_law.specs.Number.{is_number_text, is_number_bytes}
use Rattle.m_key.specs.KeyParts.{unescaped}
use Rattle.gds_law.specs.Key.{is_text, subscript_fault}
use Rattle.gds_law.specs.declared.kind.FaultKind.TheVariants.{BadNumber}
use Rattle.gds_law.proofs.NumberLemmas.{text_test, bytes_test}

-- ---- numbers

pub is_number_of : (t : Bool) (bytes : List ℕ) → (t ≡ true) ↔ ((n : Numeral) × IsNumeral n × (bytes_of n ≡ bytes))
    → t ≡ is_number_bytes bytes
is_number_of true bytes h = sym ((bytes_test bytes).1 (h.0 refl))
is_number_of false bytes h =
    sym (false_from_ne_true (is_number_bytes bytes) (λ t. false≢true (h.1 ((bytes_test bytes).0 t))))

-- ---- strings

abbrev IsTextOf : List ℕ → List ℕ → Type 0
IsTextOf bytes text = (unescaped bytes ≡ Some text) × ((n : Numeral) → IsNumeral n → text_of n ≡ text → ⊥)

no_text : (bytes : List ℕ) → (((text : List ℕ) × IsTextOf bytes text) → ⊥) → (o : Option (List ℕ))
    → unescaped bytes ≡ o → is_text o ≡ false
no_text bytes none None e = refl
no_text bytes none (Some text) e =
    false_from_ne_true (not (is_number_text text)) (λ t. none (
      text,
      (e, λ n h f. false≢true (sym (ap not ((text_test text).1 (n, h, f))) ∙ t)),
    ))

pub is_text_of : (t : Bool) (bytes : List ℕ)
    → (t ≡ true) ↔ ((text : List ℕ) × (unescaped bytes ≡ Some text)
    × ((n : Numeral) → IsNumeral n → text_of n ≡ text → ⊥)) → t ≡ is_text (unescaped bytes)
is_text_of true bytes h =
    let (text, e, none) = h.0 refl in
    let no_number : is_number_text text ≡ false =
    false_from_ne_true (is_number_text text) (λ t. let f = (text_test text).0 t in none f.0 f.1 f.2) in
    sym (ap is_text e ∙ ap not no_number)
is_text_of false bytes h = sym (no_text bytes (λ (text, f). false≢true (h.1 (text, f.0, f.1))) (unescaped bytes) refl)

-- ---- subscripts

number_by : (b : ℕ) (bytes : List ℕ) → b == 255 ≡ false
    → subscript_fault (b ∷ bytes) ≡ cond (is_number_bytes (b ∷ bytes)) None (Some BadNumber)
number_by b bytes t = cond-true (not (b == 255)) (cond (is_number_bytes (b ∷ bytes)) None (Some BadNumber)) _ (ap not t)

-- No number has no bytes.
no_number : is_number_bytes [] ≡ false
no_number = false_from_ne_true (is_number_bytes []) (λ t. none ((bytes_test []).0 t))
  where
    none : (n : Numeral) × IsNumeral n × (bytes_of n ≡ []) → ⊥
    none (n, h, e) =
        let l : length (bytes_of n) ≡ 0 = ap length e in
        let count = byte_count n h in
        omega arith

number_fault : (part : List ℕ) → bytes_eq (take 1 part) (255 ∷ []) ≡ false
    → subscript_fault part ≡ cond (is_number_bytes part) None (Some BadNumber)
number_fault [] t = sym (cond-false (is_number_bytes []) None (Some BadNumber) no_number)
number_fault (b ∷ bytes) t =
    number_by b bytes (false_from_ne_true (b == 255) (λ e. let same : b ≡ 255 = eqb-true b 255 e in
    no_front 255 (b ∷ bytes) t bytes (ap (λ x. x ∷ bytes) same)))

pub is_number_then : (part : List ℕ) → bytes_eq (take 1 part) (255 ∷ []) ≡ false → is_number_bytes part ≡ true
    → subscript_fault part ≡ None
is_number_then part t n = number_fault part t ∙ cond-true (is_number_bytes part) None (Some BadNumber) n
