-- Numbers in a list of bytes, each with its lowest byte first.
use Rattle.std.specs.Prelude.{ℕ, ◌+◌, List, ◌++◌, length, take, drop}
use Rattle.std.specs.Int.{w16, w32, w64, from_le_bytes, to_le_bytes}

-- the number in the two, four or eight bytes from a place on
unfoldable pub u16_at : List ℕ → ℕ → ℕ
u16_at bytes at = from_le_bytes w16 (drop at bytes)

unfoldable pub u32_at : List ℕ → ℕ → ℕ
u32_at bytes at = from_le_bytes w32 (drop at bytes)

unfoldable pub u64_at : List ℕ → ℕ → ℕ
u64_at bytes at = from_le_bytes w64 (drop at bytes)

-- and back: the two, four or eight bytes of a number
unfoldable pub u16_bytes : ℕ → List ℕ
u16_bytes number = to_le_bytes w16 number

unfoldable pub u32_bytes : ℕ → List ℕ
u32_bytes number = to_le_bytes w32 number

unfoldable pub u64_bytes : ℕ → List ℕ
u64_bytes number = to_le_bytes w64 number

-- the bytes with others in place of those from a place on
abbrev pub with_bytes : List ℕ → ℕ → List ℕ → List ℕ
with_bytes bytes at piece = take at bytes ++ (piece ++ drop (at + length piece) bytes)
