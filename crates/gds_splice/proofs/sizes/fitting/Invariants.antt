use Rattle.std.proofs.Common.{◌≡◌, ◌≤◌, [], take}
use Rattle.gds_pack.specs.Packed.{packed_size, key_behind}
use Rattle.gds_pack.specs.Entry.{items}
use Rattle.gds_splice.proofs.sizes.fitting.Given as goal

abbrev pub invariant-loop-i : goal.invariant-loop-i
invariant-loop-i l =
    (l.size ≡ packed_size (items (take l.i l.entries))) × (l.size ≤ l.limit)
    × (l.previous ≡ key_behind [] (items (take l.i l.entries)))
