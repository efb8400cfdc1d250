use Rattle.gds_tree.proofs.RenumberLemmas.{moved, exchange}
use Rattle.gds_tree.proofs.change_laws.other_numbers.Goals as goal

pub returns-clause-sound : goal.returns-clause-sound
returns-clause-sound c = moved

pub returns-clause-exchange : goal.returns-clause-exchange
returns-clause-exchange c = exchange
