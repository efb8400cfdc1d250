-- Which subscripts stand at the front of a text.
use Rattle.std.specs.Prelude.{◌≡◌, ℕ, ◌+◌, ◌<◌, ◌≤◌, ◌||◌, List, [], ◌∷◌, ◌++◌, length, map, min, IsTrue}
use Rattle.std.specs.Char.{is_ascii_alphanumeric}
use Rattle.std.specs.List.{AllByRecursion, prefix_len}
use Rattle.m_key.specs.Node.{NodeSubscript, string, IsSubscript, spelled}
use Rattle.m_text.specs.Grammar.{joined, Expression, expression_text, expression_bytes, IsExpression}
use Rattle.m_text.specs.Front.{leads}

-- the null subscript, which no node has
abbrev pub null : NodeSubscript
null = string []

-- a subscript stands at the front of the text
pub record StandsAt (text : List ℕ) (s : NodeSubscript) (rest : List ℕ) : Type 0 where
  pub expression : Expression
  pub right : IsExpression expression
  pub written : text ≡ expression_text expression ++ rest
  pub meant : expression_bytes expression ≡ spelled s

-- ',' or ')' comes next
abbrev pub IsEnded : List ℕ → Type 0
IsEnded rest = IsTrue (leads 44 rest || leads 41 rest)

-- subscripts and a ')' stand at the front of the text
pub record ListStandsAt (text : List ℕ) (ss : List NodeSubscript) (rest : List ℕ) : Type 0 where
  pub expressions : List Expression
  pub some : 0 < length expressions
  pub right : AllByRecursion IsExpression expressions
  pub written : text ≡ joined 44 (map expression_text expressions) ++ 41 ∷ rest
  pub meant : map expression_bytes expressions ≡ map spelled ss

-- subscripts and a ')' stand at the front of the text, and with those before them there are 31 at most
pub record ListStandsAfter (text : List ℕ) (before : ℕ) (rest : List ℕ) : Type 0 where
  pub ss : List NodeSubscript
  pub right : AllByRecursion IsSubscript ss
  pub count : before + length ss ≤ 31
  pub stand : ListStandsAt text ss rest

-- how many bytes a name at the front of the text has at most
abbrev pub longest_name : List ℕ → ℕ
longest_name [] = 0
longest_name (b ∷ bs) = min 30 (prefix_len is_ascii_alphanumeric bs) + 1
