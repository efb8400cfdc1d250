-- The parts of a key's bytes. A key is its name, 00, each subscript followed by 00, and one more 00; what is read as a
-- key need not have a right name or right subscripts.
use Rattle.std.specs.Prelude.{ℕ, ◌-◌, ◌&&◌, ◌||◌, ◌==◌, nat_lt, not, List, [], ◌∷◌, length, take, drop, Option, None}
use Rattle.std.specs.Prelude.{Some, option_map, if◌then◌else◌}
use Rattle.std.specs.Borrow.{Bor}
use Rattle.std.specs.List.{take_while, slice_split}

-- the name: the bytes before the first 00
abbrev pub name_part : List ℕ → List ℕ
name_part key = take_while (λ b. not (b == 0)) key

-- the pieces into which each 00 cuts the bytes
abbrev pub pieces : List ℕ → List (List ℕ)
pieces bytes = slice_split (λ b. b == 0) bytes

-- the subscripts: the pieces behind the name, without the last two bytes
abbrev pub subscript_parts : List ℕ → List (List ℕ)
subscript_parts key = drop 1 (pieces (take (length key - 2) key))

-- the subscripts in bytes, where there are any left
abbrev pub parts_left : Option (Bor (List ℕ)) → List (List ℕ)
parts_left None = []
parts_left (Some bytes) = pieces bytes.now

-- the bytes of a string without their escapes, where they have them right: 00 is 01 01 and 01 is 01 02
abbrev pub unescaped : List ℕ → Option (List ℕ)
unescaped [] = Some []
unescaped (b ∷ []) = if nat_lt 1 b then Some (b ∷ []) else None
unescaped (b ∷ c ∷ bytes) =
    if nat_lt 1 b then option_map (λ text. b ∷ text) (unescaped (c ∷ bytes))
    else (if (b == 1) && (c == 1 || c == 2) then option_map (λ text. (c - 1) ∷ text) (unescaped bytes) else None)
