use Rattle.std.proofs.Common.{◌≡◌, ◌-◌, ◌*◌, ◌≤◌, length}
use Rattle.std.specs.Option.{ForSome}
use Rattle.gds_law.proofs.SinkLemmas.{Reached}
use Rattle.gds_law.specs.Maps.{map_faults}
use Rattle.integ.specs.GroupMap.{in_use}
use Rattle.integ.specs.Maps.{groups_in, free_before}
use Rattle.integ.proofs.maps.tell_maps.Given as goal

-- what of the groups is left to be told, and how many blocks are free in those before
abbrev pub invariant-loop-number : goal.invariant-loop-number
invariant-loop-number g l = record {
  told : ForSome (g.U.UnitSource.image l.fn.units)
      (λ file. Reached (g.F.FaultSink.listed l.fn.sink) (g.F.FaultSink.listed l.sink)
      (groups_in file l.used l.number (l.number-end - l.number)) (map_faults file (in_use l.used)) l.maps.faults);
  free : ForSome (g.U.UnitSource.image l.fn.units) (λ file. l.maps.free ≡ free_before file l.number);
  few : l.maps.faults ≤ 1024 * l.number;
  free_few : l.maps.free ≤ 512 * l.number;
  block : length l.block ≡ l.header.block_size;
  image : g.U.UnitSource.image l.units ≡ g.U.UnitSource.image l.fn.units;
  read : g.U.UnitSource.was_read l.fn.units l.units;
  reads : g.U.UnitSource.failures l.fn.units ≤ g.U.UnitSource.failures l.units;
  says : g.F.FaultSink.failures l.fn.sink ≤ g.F.FaultSink.failures l.sink;
}
