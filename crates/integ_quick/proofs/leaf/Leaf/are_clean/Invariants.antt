use Rattle.std.proofs.Common.{length}
use Rattle.integ_quick.specs.Leaf.{IsReadTo}
use Rattle.integ_quick.proofs.leaf.Leaf.are_clean.Given as goal

abbrev pub invariant-loop-front : goal.invariant-loop-front
invariant-loop-front l = IsReadTo l.self l.left l.rest l.key

abbrev pub decreases-loop-front : goal.decreases-loop-front
decreases-loop-front l = length l.rest
