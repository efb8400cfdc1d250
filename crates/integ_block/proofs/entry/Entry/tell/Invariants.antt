use Rattle.std.proofs.Common.{◌≤◌, drop}
use Rattle.std.specs.Prelude.{filter}
use Rattle.gds_law.specs.Record.{holds}
use Rattle.integ_block.specs.Entry.{seen}
use Rattle.integ_block.specs.BlockReading.{reading, faults_at}
use Rattle.gds_law.proofs.SinkLemmas.{Reached}
use Rattle.integ_block.proofs.entry.Entry.tell.Given as goal

-- what of the kinds is left to be told
abbrev pub invariant-loop-kind : goal.invariant-loop-kind
invariant-loop-kind g l = record {
  told : Reached (g.F.FaultSink.listed l.fn.sink) (g.F.FaultSink.listed l.sink)
      (faults_at (reading l.self.record.reading) l.self.record.reading.at.now.path l.self.record.view.offset
      (filter (holds (reading l.self.record.reading) (seen l.self.record)) (drop l.kind-index l.kinds)))
      (faults_at (reading l.self.record.reading) l.self.record.reading.at.now.path l.self.record.view.offset
      (filter (holds (reading l.self.record.reading) (seen l.self.record)) l.kinds)) l.count;
  few : l.count ≤ l.kind-index;
  failures : g.F.FaultSink.failures l.fn.sink ≤ g.F.FaultSink.failures l.sink;
}
