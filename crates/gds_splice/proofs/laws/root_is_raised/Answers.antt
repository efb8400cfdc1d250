use Rattle.gds_splice.proofs.RaisedLemmas.{raised_root_is_there, root_is_raised}
use Rattle.gds_splice.proofs.laws.root_is_raised.Goals as goal

pub returns-clause-sound : goal.returns-clause-sound
returns-clause-sound c = root_is_raised

pub returns-clause-there : goal.returns-clause-there
returns-clause-there c = raised_root_is_there
