-- Units of the database file that wait in memory, and the file with them in their places.
use Rattle.std.specs.Prelude.{ℕ, ◌+◌, ◌-◌, ◌*◌, ◌==◌, ◌<◌, ◌≤◌, ◌≡◌, nat_lt, List, [], ◌∷◌, length}
use Rattle.std.specs.Prelude.{All, AllPairs, Any, slice_index, Option, Some, None, if◌then◌else◌}
use Rattle.host_model.specs.Disk.{written}

-- a unit and the bytes that it is to have
pub record WaitingUnit : Type 0 where
  pub unit : ℕ
  pub bytes : List ℕ

-- What the unit is to have are bytes.
abbrev pub HasBytes : WaitingUnit → Type 0
HasBytes waiting = All (λ b. b < 256) waiting.bytes

-- the units that wait, and how many more there is room for
pub record WaitingUnits : Type 0 where
  pub units : List WaitingUnit
  pub room : ℕ

-- Their numbers rise.
abbrev pub IsRising : List WaitingUnit → Type 0
IsRising units = AllPairs (λ first second. first.unit < second.unit) units

-- the bytes of a unit, if it waits
abbrev pub waiting_bytes : List WaitingUnit → ℕ → Option (List ℕ)
waiting_bytes [] unit = None
waiting_bytes (first ∷ units) unit = if first.unit == unit then Some first.bytes else waiting_bytes units unit

-- with one unit more in its place, or in place of the one with its number
abbrev pub with_unit : List WaitingUnit → WaitingUnit → List WaitingUnit
with_unit [] new = new ∷ []
with_unit (first ∷ units) new =
    if nat_lt first.unit new.unit then first ∷ with_unit units new
    else (new ∷ (if first.unit == new.unit then units else first ∷ units))

-- with the units of a plan, one after another
abbrev pub with_plan : List WaitingUnit → List WaitingUnit → List WaitingUnit
with_plan units [] = units
with_plan units (new ∷ plan) = with_plan (with_unit units new) plan

-- how many bytes a unit has in a file with blocks of this size, and where it begins
abbrev pub size_of : ℕ → ℕ → ℕ
size_of block_size unit = if unit == 0 then 8192 else block_size

abbrev pub place_of : ℕ → ℕ → ℕ
place_of block_size unit = if unit == 0 then 0 else 8192 + (unit - 1) * block_size

-- The unit has as many bytes as it should, and lies within a file of this length.
pub record LiesWithin (block_size file_length : ℕ) (waiting : WaitingUnit) : Type 0 where
  pub size : length waiting.bytes ≡ size_of block_size waiting.unit
  pub within : place_of block_size waiting.unit + length waiting.bytes ≤ file_length

-- the file with these units in their places
abbrev pub patched : ℕ → List WaitingUnit → List ℕ → List ℕ
patched block_size [] file = file
patched block_size (first ∷ units) file =
    patched block_size units (written (place_of block_size first.unit) first.bytes file)

-- The byte of the file at a place lies in the range of one of the units.
abbrev pub IsUnder : ℕ → List WaitingUnit → ℕ → Type 0
IsUnder block_size units i =
    Any (λ waiting. (place_of block_size waiting.unit ≤ i)
    × (i < place_of block_size waiting.unit + length waiting.bytes)) units

-- Writes of these units that may be torn: bytes outside their ranges stay, and the file is no shorter, and no longer
-- than what has room for all.
pub record TornUnits (block_size : ℕ) (units : List WaitingUnit) (old new : List ℕ) : Type 0 where
  pub no_shorter : length old ≤ length new
  pub no_longer : (n : ℕ) → length old ≤ n
      → All (λ waiting. place_of block_size waiting.unit + length waiting.bytes ≤ n) units → length new ≤ n
  pub outside : (i : ℕ) → i < length old → (IsUnder block_size units i → ⊥) → slice_index new i ≡ slice_index old i
