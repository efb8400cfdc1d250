use Rattle.std.proofs.Common.{◌≡◌, ◌++◌, take}
use Rattle.gds_splice.proofs.dividing.both.Given as goal

abbrev pub invariant-loop-n : goal.invariant-loop-n
invariant-loop-n l = l.numbers.items ≡ take l.n-index l.kept

abbrev pub invariant-loop-n-2 : goal.invariant-loop-n-2
invariant-loop-n-2 l = l.numbers.items ≡ l.kept ++ take l.n-index l.fresh
