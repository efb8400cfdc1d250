use Rattle.std.proofs.Common.{◌+◌, ◌-◌, ◌≤◌, length}
use Rattle.gds_base.specs.Reserve.{GetsMaps}
use Rattle.gds_base.proofs.growing.put_new_maps.Given as goal

-- the groups so far have maps
abbrev pub invariant-loop-group : goal.invariant-loop-group
invariant-loop-group l = record {
  maps : GetsMaps l.fn.draft l.draft l.tn l.fn.from l.group;
  more : length l.draft.units ≤ length l.fn.draft.units + (l.group - l.fn.from);
}
