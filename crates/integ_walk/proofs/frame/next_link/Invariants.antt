use Rattle.std.proofs.Common.{◌≡◌, length}
use Rattle.integ_walk.specs.Frame.{all_links}
use Rattle.integ_walk.proofs.frame.next_link.Given as goal

abbrev pub invariant-loop-last : goal.invariant-loop-last
invariant-loop-last l = all_links l.fn.frames.items ≡ all_links l.frames.items

abbrev pub decreases-loop-last : goal.decreases-loop-last
decreases-loop-last l = length l.frames.items
