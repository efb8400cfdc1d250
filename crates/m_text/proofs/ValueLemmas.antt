-- What texts of values stand for.
use Rattle.std.proofs.Common.{◌≡◌, ℕ, ◌<◌, true, false, List, [], ◌∷◌, ◌++◌, length, map, flat_map, Option, None, Some}
use Rattle.std.proofs.Common.{refl, sym, ap, ◌∙◌, arith, inl, inr, ◌⊎◌, ⊎_elim}
use Rattle.std.proofs.lemmas.Bool.{and_parts}
use Rattle.std.specs.List.{list_all, AllByRecursion}
use Rattle.std.proofs.lemmas.List.{append-nil}
use Rattle.std.specs.Prelude.{IfSome, IfNone}
use Rattle.std.specs.Option.{is_some}
use Rattle.m_number.specs.declared.number.Number.{Number}
use Rattle.m_number.specs.Number.{numeral_of}
use Rattle.m_number.specs.Numeral.{Numeral, IsNumeral}
use Rattle.m_number.specs.Text.{text_of}
use Rattle.m_text.specs.Grammar.{joined, c, char, zch, zchar, Piece, quoted, coded, piece_text, piece_bytes, IsPiece}
use Rattle.m_text.specs.Grammar.{Expression, bare, string, expression_text, expression_bytes, IsExpression, IsValueText}
use Rattle.m_text.specs.Front.{Found, with_front, string_at, is_number_byte}
use Rattle.m_text.proofs.FoundLemmas.{pair_of, with_front-nil}
use Rattle.m_text.proofs.FrontLemmas.{heads}
use Rattle.m_text.proofs.PieceLemmas.{string_at-found, string_at-again}
use Rattle.m_text.proofs.NumberLemmas.{number_bytes}

-- the first byte of a piece isn't one of a number
pub piece_head : (piece : Piece) (rest : List ℕ) → heads is_number_byte (piece_text piece ++ rest) ≡ false
piece_head (quoted bytes) rest = refl
piece_head (coded c digits) rest = refl
piece_head (coded char digits) rest = refl
piece_head (coded zch digits) rest = refl
piece_head (coded zchar digits) rest = refl

piece_some : (piece : Piece) (rest : List ℕ) → 0 < length (piece_text piece ++ rest)
piece_some (quoted bytes) rest = omega arith
piece_some (coded c digits) rest = omega arith
piece_some (coded char digits) rest = omega arith
piece_some (coded zch digits) rest = omega arith
piece_some (coded zchar digits) rest = omega arith

pass_apart : (text : List ℕ) → 0 < length text → heads is_number_byte text ≡ false
    → list_all is_number_byte text ≡ true → ⊥
pass_apart [] l h a = omega (arith, l)
pass_apart (x ∷ xs) l h a = let p = (and_parts (is_number_byte x) (list_all is_number_byte xs) a).0 in
    let q : true ≡ false = sym p ∙ h in cc

string_head : (pieces : List Piece) → 0 < length pieces
    → heads is_number_byte (joined 95 (map piece_text pieces)) ≡ false
string_head [] l = absurd (omega (arith, l))
string_head (first ∷ others) l = piece_head first _

string_some : (pieces : List Piece) → 0 < length pieces → 0 < length (joined 95 (map piece_text pieces))
string_some [] l = absurd (omega (arith, l))
string_some (first ∷ others) l = piece_some first _

-- the text of a number is no string
pub number_no_string : (n : Numeral) (pieces : List Piece) → IsNumeral n → 0 < length pieces
    → text_of n ≡ joined 95 (map piece_text pieces) → ⊥
number_no_string n pieces h l e =
    pass_apart (joined 95 (map piece_text pieces)) (string_some pieces l) (string_head pieces l)
    (ap (λ (t : List ℕ). list_all is_number_byte t) (sym e) ∙ number_bytes n h)

string_read : (pieces : List Piece) → 0 < length pieces → AllByRecursion IsPiece pieces
    → string_at (joined 95 (map piece_text pieces)) ≡ Some (flat_map piece_bytes pieces, [])
string_read [] l right = absurd (omega (arith, l))
string_read (first ∷ others) l right =
    ap string_at (sym (append-nil (joined 95 (map piece_text (first ∷ others)))))
    ∙ string_at-again first others [] right refl refl

pub value_of_number : (n : Numeral) (text : List ℕ) → IsNumeral n → text_of n ≡ text → IsValueText text text
value_of_number n text h e = record { expression = bare n; right = h; written = e; meant = e }

pub value_of_string : (text value : List ℕ) → string_at text ≡ Some (value, []) → IsValueText text value
value_of_string text value e =
    let h = string_at-found text value [] e in
    record {
      expression = string (h.first ∷ h.others);
      right = (omega arith, h.right);
      written = sym (h.written ∙ append-nil (joined 95 (map piece_text (h.first ∷ h.others))));
      meant = sym h.meant;
    }

-- a value's text is the text of a number or a string
pub record IsBare (text value : List ℕ) : Type 0 where
  pub number : Numeral
  pub right : IsNumeral number
  pub written : text_of number ≡ text
  pub meant : value ≡ text

reads_expression : (e : Expression) (text value : List ℕ) → IsExpression e → expression_text e ≡ text
    → expression_bytes e ≡ value → IsBare text value ⊎ (string_at text ≡ Some (value, []))
reads_expression (bare n) text value h w m = inl (record { number = n; right = h; written = w; meant = sym m ∙ w })
reads_expression (string pieces) text value h w m =
    inr (ap string_at (sym w) ∙ string_read pieces h.0 h.1 ∙ ap (λ (v : List ℕ). Some (v, [])) m)

pub reads_value : (text value : List ℕ) → IsValueText text value
    → IsBare text value ⊎ (string_at text ≡ Some (value, []))
reads_value text value h = reads_expression h.expression text value h.right h.written h.meant

pub no_value : (text value : List ℕ) → ((n : Numeral) → IsNumeral n → text_of n ≡ text → ⊥)
    → (string_at text ≡ Some (value, []) → ⊥) → IsValueText text value → ⊥
no_value text value no_number no_string h =
    ⊎_elim
    (λ (b : IsBare text value). no_number b.number b.right b.written)
    (λ (s : string_at text ≡ Some (value, [])). no_string s)
    (reads_value text value h)

bare_apart : (text a b : List ℕ) → IsBare text a → string_at text ≡ Some (b, []) → ⊥
bare_apart text a b x s =
    let h = string_at-found text b [] s in
    number_no_string x.number (h.first ∷ h.others) x.right (omega arith) (x.written ∙ h.written
    ∙ append-nil (joined 95 (map piece_text (h.first ∷ h.others))))

pub one_value_lem : (text a b : List ℕ) → IsValueText text a → IsValueText text b → a ≡ b
one_value_lem text a b x y =
    ⊎_elim
    (λ (p : IsBare text a).
    ⊎_elim
    (λ (q : IsBare text b). p.meant ∙ sym q.meant)
    (λ (q : string_at text ≡ Some (b, [])). absurd (bare_apart text a b p q))
    (reads_value text b y))
    (λ (p : string_at text ≡ Some (a, [])).
    ⊎_elim
    (λ (q : IsBare text b). absurd (bare_apart text b a q p))
    (λ (q : string_at text ≡ Some (b, [])). (pair_of a [] b [] (sym p ∙ q)).0)
    (reads_value text b y))
    (reads_value text a x)

pub string_whole : (front text bytes rest : List ℕ) → front ≡ []
    → with_front front (string_at text) ≡ Some (bytes, rest) → string_at text ≡ Some (bytes, rest)
string_whole front text bytes rest e h =
    sym (with_front-nil (string_at text)) ∙ ap (λ (f : List ℕ). with_front f (string_at text)) (sym e) ∙ h

pub no_string_none : (text value : List ℕ) → string_at text ≡ None → string_at text ≡ Some (value, []) → ⊥
no_string_none text value n s = let wrong : ◌≡◌ {A = Option Found} None (Some (value, [])) = sym n ∙ s in cc

pub no_string_rest : (text bytes rest value : List ℕ) → string_at text ≡ Some (bytes, rest) → (length rest ≡ 0 → ⊥)
    → string_at text ≡ Some (value, []) → ⊥
no_string_rest text bytes rest value e n s = n (ap length (pair_of bytes rest value [] (sym e ∙ s)).1)

-- what a test for a number answers
pub canonical_some : (o : Option Number) (text : List ℕ) → IfSome o (λ n. text_of (numeral_of n) ≡ text)
    → is_some o ≡ true → (n : Numeral) × IsNumeral n × (text_of n ≡ text)
canonical_some None text h e = absurd (cc)
canonical_some (Some n) text h e = (numeral_of n, n.is_numeral, h)

pub canonical_none : {P : Type 0} (o : Option Number) → IfNone o P → is_some o ≡ false → P
canonical_none None h e = h
canonical_none (Some n) h e = absurd (cc)
