use Rattle.std.proofs.Common.{◌≡◌, ◌≤◌, ◌+◌, ◌-◌, ◌^◌, min, drop}
use Rattle.gds_pack.specs.Packed.{packed_size, records_size}
use Rattle.gds_pack.specs.Entry.{items}
use Rattle.gds_pack.proofs.packing.packed_size.Given as goal

abbrev pub invariant-loop-entry : goal.invariant-loop-entry
invariant-loop-entry l =
    (l.size ≤ 2 ^ 64 - 1)
    × (min (l.size + records_size l.previous (items (drop l.entry-index l.list))) (2 ^ 64 - 1)
    ≡ min (packed_size (items l.list)) (2 ^ 64 - 1))
