-- The one text in which a value or a reference is written.
use Rattle.std.specs.Prelude.{ℕ, ◌+◌, ◌/◌, ◌%◌, Bool, ◌&&◌, nat_lt, nat_le, List, [], ◌∷◌, ◌++◌, map, flat_map}
use Rattle.std.specs.Prelude.{codes, if◌then◌else◌}
use Rattle.m_number.specs.Text.{text_of}
use Rattle.m_key.specs.Node.{Node, NodeSubscript, number, string}
use Rattle.m_text.specs.Grammar.{joined, c, Piece, quoted, coded, piece_text, reference_form}

abbrev pub is_printable : ℕ → Bool
is_printable b = nat_le 32 b && nat_le b 126

-- a byte's decimal digits, without leading zeros
abbrev pub decimal : ℕ → List ℕ
decimal b =
    if nat_lt b 10 then (48 + b) ∷ []
    else (if nat_lt b 100 then (48 + b / 10) ∷ (48 + b % 10) ∷ []
    else (48 + b / 100) ∷ (48 + b / 10 % 10) ∷ (48 + b % 10) ∷ [])

abbrev pub run_of : ℕ → Piece
run_of b = if is_printable b then quoted (b ∷ []) else coded c (decimal b ∷ [])

-- runs with one more byte before them
abbrev pub led_by : ℕ → List Piece → List Piece
led_by b [] = run_of b ∷ []
led_by b (quoted bytes ∷ runs) =
    if is_printable b then quoted (b ∷ bytes) ∷ runs else run_of b ∷ quoted bytes ∷ runs
led_by b (coded word digits ∷ runs) =
    if is_printable b then run_of b ∷ coded word digits ∷ runs else coded word (decimal b ∷ digits) ∷ runs

-- the bytes in runs: printable ones in quotes, the others by their codes
abbrev pub runs_of : List ℕ → List Piece
runs_of [] = []
runs_of (b ∷ bytes) = led_by b (runs_of bytes)

abbrev pub pieces_of : List ℕ → List Piece
pieces_of [] = quoted [] ∷ []
pieces_of (b ∷ bytes) = runs_of (b ∷ bytes)

-- the texts of runs, and the same behind a run
abbrev pub runs_text : List Piece → List ℕ
runs_text runs = joined 95 (map piece_text runs)

abbrev pub more_runs_text : List Piece → List ℕ
more_runs_text runs = flat_map (λ text. 95 ∷ text) (map piece_text runs)

unfoldable pub value_text : List ℕ → List ℕ
value_text value = runs_text (pieces_of value)

abbrev pub subscript_text : NodeSubscript → List ℕ
subscript_text (number n) = text_of n
subscript_text (string text) = value_text text

unfoldable pub reference_text : Node → List ℕ
reference_text node = reference_form node.name (map subscript_text node.subscripts)

-- the same with the null subscript behind those of the node
unfoldable pub null_reference_text : Node → List ℕ
null_reference_text node = reference_form node.name (map subscript_text node.subscripts ++ codes "\"\"" ∷ [])
