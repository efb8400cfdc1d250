use Rattle.gds_splice.proofs.StaysLemmas.{block_is_there, stays_one}
use Rattle.gds_splice.proofs.laws.block_stays_one.Goals as goal

pub returns-clause-sound : goal.returns-clause-sound
returns-clause-sound c = stays_one

pub returns-clause-there : goal.returns-clause-there
returns-clause-there c = block_is_there
