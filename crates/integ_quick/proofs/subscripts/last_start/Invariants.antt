use Rattle.std.proofs.Common.{◌≤◌, length}
use Rattle.integ_quick.proofs.subscripts.last_start.Given as goal

abbrev pub invariant-loop-start : goal.invariant-loop-start
invariant-loop-start l = l.start ≤ length l.bytes

-- proposed from the loop's first test
abbrev pub decreases-loop-start : goal.decreases-loop-start
decreases-loop-start l = l.start
