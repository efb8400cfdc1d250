-- The first thing that is wrong with the parts of a key.
use Rattle.std.specs.Prelude.{ℕ, Bool, false, ◌==◌, nat_lt, not, List, [], ◌∷◌, length, Option, None, Some}
use Rattle.std.specs.Prelude.{if◌then◌else◌}
use Rattle.std.specs.Option.{option_or}
use Rattle.m_key.specs.Node.{is_name}
use Rattle.m_key.specs.KeyParts.{name_part, subscript_parts, unescaped}
use Rattle.gds_law.specs.Number.{is_number_text, is_number_bytes}
use Rattle.gds_law.specs.declared.kind.FaultKind.{FaultKind}
use Rattle.gds_law.specs.declared.kind.FaultKind.TheVariants.{BadName, TooManySubscripts, BadNumber, BadString}
use Rattle.gds_law.specs.declared.kind.FaultKind.TheVariants.{NullSubscript}

-- bytes of a string, which is no canonical number
abbrev pub is_text : Option (List ℕ) → Bool
is_text None = false
is_text (Some text) = not (is_number_text text)

-- what is wrong with a subscript
abbrev pub subscript_fault : List ℕ → Option FaultKind
subscript_fault [] = Some BadNumber
subscript_fault (b ∷ bytes) =
    if not (b == 255) then (if is_number_bytes (b ∷ bytes) then None else Some BadNumber)
    else (if length bytes == 0 then Some NullSubscript
    else (if is_text (unescaped bytes) then None else Some BadString))

-- the first bad subscript decides
abbrev pub first_fault : List (List ℕ) → Option FaultKind
first_fault [] = None
first_fault (part ∷ parts) = option_or (subscript_fault part) (first_fault parts)

-- what is wrong with a key's name or its subscripts, the first of it
unfoldable pub key_fault : List ℕ → Option FaultKind
key_fault key =
    if not (is_name (name_part key)) then Some BadName
    else (if nat_lt 31 (length (subscript_parts key)) then Some TooManySubscripts
    else first_fault (subscript_parts key))
