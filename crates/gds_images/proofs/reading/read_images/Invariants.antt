use Rattle.gds_images.proofs.ReadingLemmas.{IsReadSoFar}
use Rattle.gds_images.proofs.reading.read_images.Given as goal

abbrev pub invariant-loop-left : goal.invariant-loop-left
invariant-loop-left g l =
    IsReadSoFar g.H.Host.told g.H.Host.moment g.H.Host.failures g.H.Host.left_since l.fn.host l.host l.limits
    l.fn.places l.from l.size l.places l.at l.left

abbrev pub decreases-loop-left : goal.decreases-loop-left
decreases-loop-left g l = l.left
