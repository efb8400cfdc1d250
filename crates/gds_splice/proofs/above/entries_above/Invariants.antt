use Rattle.std.proofs.Common.{◌≡◌, take}
use Rattle.std.specs.Prelude.{map}
use Rattle.gds_pack.specs.Entry.{items}
use Rattle.gds_splice.specs.Parts.{part_entry}
use Rattle.gds_splice.proofs.above.entries_above.Given as goal

abbrev pub invariant-loop-part : goal.invariant-loop-part
invariant-loop-part l = items l.entries.items ≡ map part_entry (take l.part-index l.parts.parted.items)
