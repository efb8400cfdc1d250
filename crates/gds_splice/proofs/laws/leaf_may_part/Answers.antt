use Rattle.gds_splice.proofs.LeafLemmas.{leaf_may_part}
use Rattle.gds_splice.proofs.laws.leaf_may_part.Goals as goal

pub returns : goal.returns
returns c = leaf_may_part
