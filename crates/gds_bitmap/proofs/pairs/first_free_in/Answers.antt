use Rattle.std.proofs.Common.{arith}
use Rattle.gds_bitmap.proofs.PairLemmas.{NoneFreeIn-from_low_bits, IsFirstFreeIn-lowest}
use Rattle.gds_bitmap.proofs.pairs.first_free_in.Goals as goal

pub returns-then-free-eq0-clause-none : goal.returns-then-free-eq0-clause-none
returns-then-free-eq0-clause-none c = NoneFreeIn-from_low_bits c.args.byte (omega arith) c.if-free-eq0.true

pub returns-clause-found : goal.returns-clause-found
returns-clause-found c = IsFirstFreeIn-lowest c.args.byte (omega arith) c.if-free-eq0.false
