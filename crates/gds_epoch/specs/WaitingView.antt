-- Waiting units as the code keeps and finds them.
use Rattle.std.specs.Prelude.{◌≡◌, ℕ, ◌-◌, ◌<◌, ◌≤◌, List, [], length, map, slice_index_or, vec_len}
use Rattle.std.specs.Global.{Vec}
use Rattle.std.specs.Vec.{vec_capacity}
use Rattle.gds_epoch.specs.declared.waiting.UnitBytes.{UnitBytes}
use Rattle.gds_epoch.specs.Waiting.{WaitingUnit}

-- a unit as it is kept, and all of them
abbrev pub unit_of : UnitBytes → WaitingUnit
unit_of unit = record { unit = unit.unit; bytes = unit.bytes.items }

abbrev pub units_of : List UnitBytes → List WaitingUnit
units_of units = map unit_of units

-- how many more there is room for
abbrev pub room_of : Vec UnitBytes → ℕ
room_of units = vec_capacity units - vec_len units

-- the number of the unit at a place
abbrev pub number_at : List WaitingUnit → ℕ → ℕ
number_at units i = let found = slice_index_or units i (record { unit = 0; bytes = [] }) in found.unit

-- The unit of this number is at the place.
pub record IsAt (units : List WaitingUnit) (number i : ℕ) : Type 0 where
  pub in_range : i < length units
  pub has_number : number_at units i ≡ number

-- It would go there: smaller numbers are before the place, and greater ones from it on.
pub record IsGapFor (units : List WaitingUnit) (number i : ℕ) : Type 0 where
  pub in_range : i ≤ length units
  pub smaller_before : (j : ℕ) → j < i → number_at units j < number
  pub greater_after : (j : ℕ) → i ≤ j → j < length units → number < number_at units j
