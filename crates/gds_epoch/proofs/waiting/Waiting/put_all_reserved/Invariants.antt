use Rattle.std.proofs.Common.{◌≡◌, ◌+◌, ◌≤◌, length}
use Rattle.gds_epoch.specs.Waiting.{with_plan}
use Rattle.gds_epoch.specs.WaitingView.{units_of}
use Rattle.gds_epoch.proofs.waiting.Waiting.put_all_reserved.Given as goal

-- the units so far are put, and there is room for the others
abbrev pub invariant-loop-unit : goal.invariant-loop-unit
invariant-loop-unit l = record {
  put : l.self.units ≡ with_plan l.fn.self.units (units_of l.yielded);
  room : l.fn.self.room ≤ l.self.room + length l.yielded;
}
