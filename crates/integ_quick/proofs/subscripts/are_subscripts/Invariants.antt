use Rattle.std.proofs.Common.{length}
use Rattle.integ_quick.specs.Subscripts.{AreSubscripts}
use Rattle.integ_quick.proofs.subscripts.are_subscripts.Given as goal

abbrev pub invariant-loop-part : goal.invariant-loop-part
invariant-loop-part l = AreSubscripts l.rest → AreSubscripts l.bytes

abbrev pub decreases-loop-part : goal.decreases-loop-part
decreases-loop-part l = length l.rest
