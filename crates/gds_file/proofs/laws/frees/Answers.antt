use Rattle.gds_file.proofs.FreeLemmas.{free_stays_lawful, free_reshapes}
use Rattle.gds_file.proofs.laws.frees.Goals as goal

pub returns-clause-lawful : goal.returns-clause-lawful
returns-clause-lawful c = free_stays_lawful

pub returns-clause-reshapes : goal.returns-clause-reshapes
returns-clause-reshapes c = free_reshapes
