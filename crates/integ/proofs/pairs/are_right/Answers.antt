use Rattle.std.proofs.Common.{arith}
use Rattle.std.proofs.lemmas.Bool.{eq-eqb, ne_eqb}
use Rattle.integ.proofs.PairLemmas.{right_then, right_else}
use Rattle.integ.proofs.pairs.are_right.Goals as goal

pub returns-then-low-in_use : goal.returns-then-low-in_use
returns-then-low-in_use c =
    right_then c.args.byte c.args.used (omega arith) c.requires (eq-eqb _ _ c.if-low-in_use.true)

pub returns-else-low-in_use : goal.returns-else-low-in_use
returns-else-low-in_use c =
    right_else c.args.byte c.args.used (omega arith) c.requires (ne_eqb _ _ c.if-low-in_use.false)
