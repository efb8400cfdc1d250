use Rattle.std.proofs.Common.{[], drop}
use Rattle.std.specs.Prelude.{◌↔◌}
use Rattle.gds_pack.specs.Entry.{items}
use Rattle.gds_pack.specs.Packable.{AreIndex}
use Rattle.gds_splice.proofs.packable.are_index.Given as goal

abbrev pub invariant-loop-i : goal.invariant-loop-i
invariant-loop-i l = AreIndex l.previous (items (drop l.i l.entries)) ↔ AreIndex [] (items l.entries)
