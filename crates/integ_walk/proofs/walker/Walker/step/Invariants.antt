use Rattle.std.proofs.Common.{◌≡◌, ◌≤◌, List, length}
use Rattle.std.specs.Option.{ForSome}
use Rattle.gds_law.specs.declared.fault.Fault.{Fault}
use Rattle.gds_law.specs.Path.{Steps, AreKept, AreReached}
use Rattle.integ_walk.specs.Frame.{state_of}
use Rattle.integ_walk.specs.Walker.{IsOn, IsState, work_left}
use Rattle.integ_walk.proofs.walker.Walker.step.Given as goal

-- the walk goes on from where it stood, with less work left
abbrev pub invariant-loop-link : goal.invariant-loop-link
invariant-loop-link g l = record {
  state : IsState (state_of l.fn.header l.self);
  less : work_left (state_of l.fn.header l.self) ≤ work_left (state_of l.fn.header l.fn.self);
  buffer : length l.self.block.items ≡ length l.fn.self.block.items;
  on : ForSome (g.U.UnitSource.image l.fn.units) (λ file. (kept reached : List Steps) (start : List Fault)
      → AreKept file kept → AreReached file kept reached
      → IsOn file kept reached start (g.F.FaultSink.listed l.fn.sink) (state_of l.fn.header l.fn.self)
      → IsOn file kept reached start (g.F.FaultSink.listed l.sink) (state_of l.fn.header l.self));
  image : g.U.UnitSource.image l.units ≡ g.U.UnitSource.image l.fn.units;
  read : g.U.UnitSource.failures l.fn.units ≤ g.U.UnitSource.failures l.units;
  source : g.U.UnitSource.was_read l.fn.units l.units;
  say : g.F.FaultSink.failures l.fn.sink ≤ g.F.FaultSink.failures l.sink;
}

abbrev pub decreases-loop-link : goal.decreases-loop-link
decreases-loop-link g l = work_left (state_of l.fn.header l.self)
