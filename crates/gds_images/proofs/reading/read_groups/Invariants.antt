use Rattle.std.proofs.Common.{◌-◌}
use Rattle.gds_images.proofs.ReadingLemmas.{IsReadTo}
use Rattle.gds_images.proofs.reading.read_groups.Given as goal

abbrev pub invariant-loop-places : goal.invariant-loop-places
invariant-loop-places g l =
    IsReadTo g.H.Host.told g.H.Host.moment g.H.Host.failures g.H.Host.left_since l.fn.host l.host l.limits l.first
    l.places l.gate

abbrev pub decreases-loop-places : goal.decreases-loop-places
decreases-loop-places g l = l.limits.file_length - l.gate
