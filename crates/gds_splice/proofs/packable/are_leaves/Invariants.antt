use Rattle.std.proofs.Common.{[], drop}
use Rattle.std.specs.Prelude.{◌↔◌}
use Rattle.gds_pack.specs.Entry.{items}
use Rattle.gds_pack.specs.Packable.{AreLeaves}
use Rattle.gds_splice.proofs.packable.are_leaves.Given as goal

abbrev pub invariant-loop-entry : goal.invariant-loop-entry
invariant-loop-entry l = AreLeaves l.previous (items (drop l.entry-index l.entries)) ↔ AreLeaves [] (items l.entries)
