use Rattle.std.proofs.Common.{arith}
use Rattle.gds_bitmap.proofs.PairLemmas.{count_of_low_ones}
use Rattle.gds_bitmap.proofs.pairs.count_free_in.Goals as goal

pub returns : goal.returns
returns c = rw c.from.ensures (count_of_low_ones c.args.byte c.args.pairs (omega arith) (omega arith))
