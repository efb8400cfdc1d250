use Rattle.gds_splice.proofs.TakenLemmas.{taken}
use Rattle.gds_splice.proofs.laws.taken_blocks.Goals as goal

pub returns : goal.returns
returns c = taken
