use Rattle.std.proofs.Common.{ℕ, ◌+◌, ◌*◌, ◌≤◌, [], length}
use Rattle.std.specs.Prelude.{All, map}
use Rattle.gds_block.specs.Record.{AreRecords, StandsIn, bytes_left, records_of}
use Rattle.gds_law.specs.Block.{children_from, fault_at, kinds_from}
use Rattle.m_key.specs.KeyEnd.{HasOpenFronts}
use Rattle.integ_block.specs.BlockReading.{reading}
use Rattle.integ_block.specs.Child.{child_of}
use Rattle.gds_law.proofs.SinkLemmas.{Reached}
use Rattle.integ_block.proofs.reading.BlockReading.tell_records.Given as goal

-- what of the kinds and of the children is left, with the records that are left
abbrev pub invariant-loop-view : goal.invariant-loop-view
invariant-loop-view g l = record {
  can : (goal.iterator-loop-view g).can_next l.view-iterator;
  finite : (goal.iterator-loop-view g).is_finite l.view-iterator;
  told : Reached (g.F.FaultSink.listed l.fn.sink) (g.F.FaultSink.listed l.sink)
      (map (fault_at (reading l.self) l.self.at.now.path)
      (kinds_from (reading l.self) l.bytes l.end l.previous.items l.view-iterator))
      (map (fault_at (reading l.self) l.self.at.now.path)
      (kinds_from (reading l.self) l.bytes 16 [] (records_of l.bytes))) l.count;
  children : (n : ℕ)
      × Reached (map child_of l.fn.children.items) (map child_of l.children.items)
      (children_from (reading l.self) l.previous.items l.view-iterator)
      (children_from (reading l.self) [] (records_of l.bytes)) n;
  fronts : HasOpenFronts l.previous.items;
  records : AreRecords l.self.level l.end (bytes_left l.bytes l.end) l.view-iterator;
  stand : All (StandsIn l.bytes) l.view-iterator;
  end : l.end ≤ l.self.used;
  few : l.count + 17 * length l.view-iterator ≤ 17 * length (records_of l.bytes);
  failures : g.F.FaultSink.failures l.fn.sink ≤ g.F.FaultSink.failures l.sink;
}
