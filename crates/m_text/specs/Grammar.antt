-- The texts of values and references, by syntax trees, as ASCII codes: 34 is '"', 40 is '(', 41 is ')', 44 is ',', 94
-- is '^' and 95 is '_'.
use Rattle.std.specs.Prelude.{◌≡◌, ℕ, ◌+◌, ◌-◌, ◌*◌, ◌==◌, ◌<◌, ◌≤◌, List, [], ◌∷◌, ◌++◌, length, map, flat_map, fold}
use Rattle.std.specs.Prelude.{IsTrue, codes, if◌then◌else◌}
use Rattle.std.specs.Char.{is_ascii_digit}
use Rattle.std.specs.List.{list_all, AllByRecursion}
use Rattle.m_number.specs.Numeral.{Numeral, IsNumeral}
use Rattle.m_number.specs.Text.{text_of}
use Rattle.m_key.specs.Node.{Node, IsNode, spelled}

-- texts one after another, with a byte before each but the first
abbrev pub joined : ℕ → List (List ℕ) → List ℕ
joined by [] = []
joined by (text ∷ texts) = text ++ flat_map (λ next. by ∷ next) texts

-- what may stand before codes
pub data Word : Type 0 where
  c : Word
  char : Word
  zch : Word
  zchar : Word

abbrev pub word_text : Word → List ℕ
word_text c = codes "$C"
word_text char = codes "$CHAR"
word_text zch = codes "$ZCH"
word_text zchar = codes "$ZCHAR"

-- the number that decimal digits spell
abbrev pub code_value : List ℕ → ℕ
code_value digits = fold (λ value digit. 10 * value + (digit - 48)) 0 digits

-- which digits are the code of a byte
pub record IsCode (digits : List ℕ) : Type 0 where
  pub decimal : IsTrue (list_all is_ascii_digit digits)
  pub least : 1 ≤ length digits
  pub greatest : length digits ≤ 3
  pub value : code_value digits ≤ 255

-- a piece of a string: bytes in quotes, or the digits of codes
pub data Piece : Type 0 where
  quoted : List ℕ → Piece
  coded : Word → List (List ℕ) → Piece

-- a quote inside quotes is written twice
abbrev pub doubled : ℕ → List ℕ
doubled b = if b == 34 then 34 ∷ 34 ∷ [] else b ∷ []

abbrev pub piece_text : Piece → List ℕ
piece_text (quoted bytes) = 34 ∷ (flat_map doubled bytes ++ 34 ∷ [])
piece_text (coded word digits) = word_text word ++ 40 ∷ (joined 44 digits ++ 41 ∷ [])

abbrev pub piece_bytes : Piece → List ℕ
piece_bytes (quoted bytes) = bytes
piece_bytes (coded word digits) = map code_value digits

abbrev pub IsPiece : Piece → Type 0
IsPiece (quoted bytes) = Unit {0}
IsPiece (coded word digits) = (0 < length digits) × AllByRecursion IsCode digits

-- what stands for a value: a number as it is, or a string of one or more pieces
pub data Expression : Type 0 where
  bare : Numeral → Expression
  string : List Piece → Expression

abbrev pub expression_text : Expression → List ℕ
expression_text (bare n) = text_of n
expression_text (string pieces) = joined 95 (map piece_text pieces)

abbrev pub expression_bytes : Expression → List ℕ
expression_bytes (bare n) = text_of n
expression_bytes (string pieces) = flat_map piece_bytes pieces

abbrev pub IsExpression : Expression → Type 0
IsExpression (bare n) = IsNumeral n
IsExpression (string pieces) = (0 < length pieces) × AllByRecursion IsPiece pieces

-- the text stands for the value
pub record IsValueText (text value : List ℕ) : Type 0 where
  pub expression : Expression
  pub right : IsExpression expression
  pub written : expression_text expression ≡ text
  pub meant : expression_bytes expression ≡ value

-- a reference with a name and the texts of its subscripts
abbrev pub reference_form : List ℕ → List (List ℕ) → List ℕ
reference_form name [] = 94 ∷ name
reference_form name (text ∷ texts) = 94 ∷ (name ++ 40 ∷ (joined 44 (text ∷ texts) ++ 41 ∷ []))

-- The text stands for the node. A subscript is what the bytes of an expression spell, so that a string of a number's
-- text is that number, and the empty string is none.
pub record IsReferenceText (text : List ℕ) (node : Node) : Type 0 where
  pub is_node : IsNode node
  pub subscripts : List Expression
  pub right : AllByRecursion IsExpression subscripts
  pub written : reference_form node.name (map expression_text subscripts) ≡ text
  pub meant : map expression_bytes subscripts ≡ map spelled node.subscripts

-- The text is the node's with one more subscript, the null one: the empty string, however it is written. With it there
-- are 31 subscripts at most.
pub record IsNullReferenceText (text : List ℕ) (node : Node) : Type 0 where
  pub is_node : IsNode node
  pub fewer : length node.subscripts < 31
  pub subscripts : List Expression
  pub right : AllByRecursion IsExpression subscripts
  pub written : reference_form node.name (map expression_text subscripts) ≡ text
  pub meant : map expression_bytes subscripts ≡ map spelled node.subscripts ++ [] ∷ []
