use Rattle.std.proofs.Common.{◌≤◌, drop}
use Rattle.std.specs.Prelude.{map}
use Rattle.gds_law.specs.Maps.{fault_of}
use Rattle.gds_law.proofs.SinkLemmas.{Reached}
use Rattle.integ.specs.Standing.{standing}
use Rattle.integ.proofs.telling.tell_standing.Given as goal

-- what of the kinds is left to be told
abbrev pub invariant-loop-kind : goal.invariant-loop-kind
invariant-loop-kind g l = record {
  told : Reached (g.F.FaultSink.listed l.fn.sink) (g.F.FaultSink.listed l.sink)
      (map (fault_of l.block) (standing (drop l.kind-index l.kinds))) (map (fault_of l.block) (standing l.kinds))
      l.count;
  few : l.count ≤ l.kind-index;
  failures : g.F.FaultSink.failures l.fn.sink ≤ g.F.FaultSink.failures l.sink;
}
