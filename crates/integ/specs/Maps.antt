-- The maps of a file, group by group.
use Rattle.std.specs.Prelude.{ℕ, List, length, flat_map}
use Rattle.std.specs.List.{range_with_len}
use Rattle.gds_law.specs.Maps.{free_places, group_faults}
use Rattle.gds_law.specs.declared.fault.Fault.{Fault}
use Rattle.integ.specs.GroupMap.{in_use}

-- the faults of n groups from one on, and how many blocks are free in the groups before one
unfoldable pub groups_in : List ℕ → List ℕ → ℕ → ℕ → List Fault
groups_in file used first n = flat_map (group_faults file (in_use used)) (range_with_len first n)

unfoldable pub free_before : List ℕ → ℕ → ℕ
free_before file n = length (flat_map (free_places file) (range_with_len 0 n))
