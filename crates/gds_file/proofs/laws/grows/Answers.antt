use Rattle.gds_file.proofs.GrowLemmas.{grow_stays_lawful, grow_reshapes}
use Rattle.gds_file.proofs.laws.grows.Goals as goal

pub returns-clause-lawful : goal.returns-clause-lawful
returns-clause-lawful c = grow_stays_lawful

pub returns-clause-reshapes : goal.returns-clause-reshapes
returns-clause-reshapes c = grow_reshapes
