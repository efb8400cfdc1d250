use Rattle.std.proofs.Common.{◌≡◌, ◌≤◌, List, length}
use Rattle.std.specs.Option.{ForSome}
use Rattle.gds_law.specs.Path.{Steps, AreKept, AreReached}
use Rattle.integ_walk.specs.Frame.{state_of}
use Rattle.integ_walk.specs.Walker.{IsOn, IsState, work_left}
use Rattle.integ_walk.proofs.walk.Given as goal

-- the walk is on since its start
abbrev pub invariant-loop-walker : goal.invariant-loop-walker
invariant-loop-walker g l = record {
  state : IsState (state_of l.fn.header l.walker);
  buffer : length l.walker.block.items ≡ l.fn.header.block_size;
  on : ForSome (g.U.UnitSource.image l.fn.units) (λ file. (kept reached : List Steps) → AreKept file kept
      → AreReached file kept reached
      → IsOn file kept reached (g.F.FaultSink.listed l.fn.sink) (g.F.FaultSink.listed l.sink)
      (state_of l.fn.header l.walker));
  image : g.U.UnitSource.image l.units ≡ g.U.UnitSource.image l.fn.units;
  read : g.U.UnitSource.failures l.fn.units ≤ g.U.UnitSource.failures l.units;
  source : g.U.UnitSource.was_read l.fn.units l.units;
  say : g.F.FaultSink.failures l.fn.sink ≤ g.F.FaultSink.failures l.sink;
}

abbrev pub decreases-loop-walker : goal.decreases-loop-walker
decreases-loop-walker g l = work_left (state_of l.fn.header l.walker)
