-- What a reference names: a node, by the name of its global and its subscripts.
use Rattle.std.specs.Prelude.{◌≡◌, ℕ, ◌<◌, ◌≤◌, Bool, false, ◌&&◌, ◌||◌, ◌==◌, nat_le, List, [], ◌∷◌, length, All}
use Rattle.std.specs.Prelude.{IsTrue}
use Rattle.std.specs.Char.{is_ascii_alphabetic, is_ascii_alphanumeric}
use Rattle.std.specs.List.{list_all}
use Rattle.m_number.specs.Numeral.{Numeral, IsNumeral}
use Rattle.m_number.specs.Text.{text_of}

-- a number, or a string by its bytes
pub data NodeSubscript : Type 0 where
  number : Numeral → NodeSubscript
  string : List ℕ → NodeSubscript

pub record Node : Type 0 where
  pub name : List ℕ
  pub subscripts : List NodeSubscript

-- a letter or '%', and then letters and digits
abbrev pub is_word : List ℕ → Bool
is_word [] = false
is_word (b ∷ bs) = (b == 37 || is_ascii_alphabetic b) && list_all is_ascii_alphanumeric bs

-- the same as IsName, as a test
abbrev pub is_name : List ℕ → Bool
is_name bytes = is_word bytes && nat_le (length bytes) 31

pub record IsName (bytes : List ℕ) : Type 0 where
  pub word : IsTrue (is_word bytes)
  pub count : length bytes ≤ 31

-- Which bytes are a string. The text of a canonical number is that number instead.
pub record IsText (text : List ℕ) : Type 0 where
  pub not_null : 0 < length text
  pub bytes : All (λ b. b < 256) text
  pub no_number : (n : Numeral) → IsNumeral n → text_of n ≡ text → ⊥

abbrev pub IsSubscript : NodeSubscript → Type 0
IsSubscript (number n) = IsNumeral n
IsSubscript (string text) = IsText text

-- which nodes there are
pub record IsNode (n : Node) : Type 0 where
  pub name : IsName n.name
  pub count : length n.subscripts ≤ 31
  pub subscripts : All IsSubscript n.subscripts

-- the text that a subscript is written for
abbrev pub spelled : NodeSubscript → List ℕ
spelled (number n) = text_of n
spelled (string text) = text
