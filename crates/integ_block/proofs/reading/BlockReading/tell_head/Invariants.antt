use Rattle.std.proofs.Common.{◌≡◌, ◌≤◌, drop}
use Rattle.std.specs.List.{list_any}
use Rattle.gds_law.specs.Block.{head_holds}
use Rattle.gds_law.specs.Kinds.{ends}
use Rattle.integ_block.specs.BlockReading.{reading, faults_at}
use Rattle.gds_law.proofs.SinkLemmas.{Reached}
use Rattle.integ_block.proofs.KindLemmas.{kept}
use Rattle.integ_block.proofs.reading.BlockReading.tell_head.Given as goal

-- what of the kinds is left to be told
abbrev pub invariant-loop-kind : goal.invariant-loop-kind
invariant-loop-kind g l = record {
  told : Reached (g.F.FaultSink.listed l.fn.sink) (g.F.FaultSink.listed l.sink)
      (faults_at (reading l.self) l.self.at.now.path 0
      (kept ends (head_holds (reading l.self) l.bytes) (drop l.kind-index l.kinds)))
      (faults_at (reading l.self) l.self.at.now.path 0 (kept ends (head_holds (reading l.self) l.bytes) l.kinds))
      l.count;
  any : list_any ends (kept ends (head_holds (reading l.self) l.bytes) (drop l.kind-index l.kinds))
      ≡ list_any ends (kept ends (head_holds (reading l.self) l.bytes) l.kinds);
  few : l.count ≤ l.kind-index;
  failures : g.F.FaultSink.failures l.fn.sink ≤ g.F.FaultSink.failures l.sink;
}
