-- The units of a database file: unit 0 is its header of 8,192 bytes, and unit n + 1 is block n.
use Rattle.std.specs.Prelude.{◌≡◌, ◌==◌, ℕ, ◌+◌, ◌-◌, ◌*◌, ◌≤◌, List, length, take, drop, if◌then◌else◌}
use Rattle.std.specs.Int.{w32, from_le_bytes}

-- the bytes of a block, which the header says from byte 8 on
abbrev pub block_length : List ℕ → ℕ
block_length file = from_le_bytes w32 (take 4 (drop 8 file))

-- how many bytes a unit has, where it begins, and its bytes
abbrev pub unit_length : List ℕ → ℕ → ℕ
unit_length file unit = if unit == 0 then 8192 else block_length file

abbrev pub unit_place : List ℕ → ℕ → ℕ
unit_place file unit = if unit == 0 then 0 else 8192 + (unit - 1) * block_length file

abbrev pub unit_bytes : List ℕ → ℕ → List ℕ
unit_bytes file unit = take (unit_length file unit) (drop (unit_place file unit) file)

-- The unit has so many bytes, and lies within the file.
pub record IsUnit (file : List ℕ) (unit n : ℕ) : Type 0 where
  pub length_is : n ≡ unit_length file unit
  pub within : unit_place file unit + n ≤ length file
