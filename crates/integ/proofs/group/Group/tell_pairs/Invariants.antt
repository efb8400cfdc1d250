use Rattle.std.proofs.Common.{◌-◌, ◌*◌, ◌≤◌}
use Rattle.gds_law.proofs.SinkLemmas.{Reached}
use Rattle.integ.specs.GroupMap.{faults_in, pair_faults}
use Rattle.integ.specs.GroupView.{map_of}
use Rattle.integ.proofs.group.Group.tell_pairs.Given as goal

-- what of the pairs is left to be told
abbrev pub invariant-loop-place : goal.invariant-loop-place
invariant-loop-place g l = record {
  told : Reached (g.F.FaultSink.listed l.fn.sink) (g.F.FaultSink.listed l.sink)
      (faults_in (map_of l.self) (4 * l.place) (512 - 4 * l.place)) (pair_faults (map_of l.self)) l.count;
  few : l.count ≤ 4 * l.place;
  failures : g.F.FaultSink.failures l.fn.sink ≤ g.F.FaultSink.failures l.sink;
}
