use Rattle.std.proofs.Common.{◌+◌, ◌-◌, ◌*◌}
use Rattle.std.specs.Vec.Iter.{into_iter_items}
use Rattle.gds_pack.specs.Entry.{items}
use Rattle.gds_remove.specs.Range.{left_of, range_of}
use Rattle.gds_remove.proofs.CuttingLemmas.{CutsOn}
use Rattle.gds_remove.proofs.cutting.+cut.Given as goal

abbrev pub decreases-cut : goal.decreases-cut
decreases-cut g l = 3 * l.level + 2

abbrev pub decreases-cut_sole : goal.decreases-cut_sole
decreases-cut_sole g l = 3 * l.level + 1

abbrev pub decreases-cut_children : goal.decreases-cut_children
decreases-cut_children g l = 3 * l.level + 1

abbrev pub decreases-prune : goal.decreases-prune
decreases-prune g l = 3 * l.level + 3

-- the range is cut out below the entries so far
abbrev pub invariant-cut_children-loop-entry : goal.invariant-cut_children-loop-entry
invariant-cut_children-loop-entry g l =
    let h = g.H.Host in
    CutsOn l.n (l.level - 1) (range_of l.fn.range) h.told h.moment h.failures h.left_since l.fn.base l.base l.fn.draft
    l.draft l.count (items l.kept.items) (items (into_iter_items l.entry-iterator)) (left_of l.left)
