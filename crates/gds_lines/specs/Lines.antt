-- The lines of a text, and what a reader takes off its front. `lines` itself is std's: a line ends at byte 10, one
-- byte 13 right before that byte is dropped, and a last line without byte 10 is a line unless it is empty.
use Rattle.std.specs.Prelude.{◌≡◌, ℕ, ◌+◌, ◌==◌, Bool, nat_lt, if◌then◌else◌, List, [], ◌∷◌, length, take, Option}
use Rattle.std.specs.Prelude.{None, Some}
use Rattle.std.specs.List.{position_or_len, before_first, after_first}
use Rattle.std.specs.Str.Lines.{strip_carriage_return}
use Rattle.gds_lines.specs.declared.TheConstants.{LINE_LIMIT}

abbrev pub is_line_end : ℕ → Bool
is_line_end b = b == 10

-- how many bytes stand before the first line end, or all
abbrev pub line_len : List ℕ → ℕ
line_len text = position_or_len is_line_end text

-- the first line of a text that isn't empty
abbrev pub first_line : List ℕ → List ℕ
first_line text =
    if nat_lt (line_len text) (length text) then strip_carriage_return (before_first is_line_end text) else text

-- the text behind its first line and that line's end
abbrev pub after_first_line : List ℕ → List ℕ
after_first_line text = after_first is_line_end text

-- a line as it is given: of one above the limit, one byte more than the limit
abbrev pub given : List ℕ → List ℕ
given line = take (LINE_LIMIT + 1) line

-- the next line of a text as it is given, or None at its end
abbrev pub next_line : List ℕ → Option (List ℕ)
next_line [] = None
next_line (b ∷ bs) = Some (given (first_line (b ∷ bs)))

-- these are the answers of one call after another, from the front of the text to its end
abbrev pub AnswersInTurn : List ℕ → List (List ℕ) → Type 0
AnswersInTurn text [] = next_line text ≡ None
AnswersInTurn text (line ∷ more) = (next_line text ≡ Some line) × AnswersInTurn (after_first_line text) more
