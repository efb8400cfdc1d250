use Rattle.std.proofs.Common.{◌+◌, ◌-◌, ◌≤◌}
use Rattle.gds_law.proofs.SinkLemmas.{Reached}
use Rattle.integ.specs.GroupMap.{faults_in}
use Rattle.integ.specs.GroupView.{map_of}
use Rattle.integ.proofs.group.Group.tell_four.Given as goal

-- what of the four is left to be told
abbrev pub invariant-loop-k : goal.invariant-loop-k
invariant-loop-k g l = record {
  told : Reached (g.F.FaultSink.listed l.fn.sink) (g.F.FaultSink.listed l.sink)
      (faults_in (map_of l.self) l.k (l.first + 4 - l.k)) (faults_in (map_of l.self) l.first 4) l.count;
  few : l.count + l.first ≤ l.k;
  failures : g.F.FaultSink.failures l.fn.sink ≤ g.F.FaultSink.failures l.sink;
}
