use Rattle.std.proofs.Common.{◌≡◌, ◌+◌, ◌++◌, [], take, drop}
use Rattle.gds_pack.specs.Packed.{packed_size, records_size, records_bytes}
use Rattle.gds_pack.specs.Entry.{items}
use Rattle.gds_pack.proofs.packing.write_records.Given as goal

abbrev pub invariant-loop-entry : goal.invariant-loop-entry
invariant-loop-entry l =
    (l.end + records_size l.previous (items (drop l.entry-index l.list)) ≡ packed_size (items l.list))
    × (take l.end l.out ++ records_bytes l.previous (items (drop l.entry-index l.list))
    ≡ take 16 l.fn.out ++ records_bytes [] (items l.list))
