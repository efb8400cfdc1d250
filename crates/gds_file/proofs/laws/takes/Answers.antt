use Rattle.gds_file.proofs.TakeLemmas.{take_stays_lawful, take_reshapes}
use Rattle.gds_file.proofs.laws.takes.Goals as goal

pub returns-clause-lawful : goal.returns-clause-lawful
returns-clause-lawful c = take_stays_lawful

pub returns-clause-reshapes : goal.returns-clause-reshapes
returns-clause-reshapes c = take_reshapes
