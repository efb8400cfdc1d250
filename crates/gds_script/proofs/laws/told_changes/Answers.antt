use Rattle.gds_script.proofs.MadeLemmas.{run_told}
use Rattle.gds_script.proofs.laws.told_changes.Goals as goal

pub returns : goal.returns
returns c = run_told c.one_request.ensures
