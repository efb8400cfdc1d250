use Rattle.gds_file.proofs.SameLemmas.{same_carries_over}
use Rattle.gds_file.proofs.laws.same_carries_over.Goals as goal

pub returns : goal.returns
returns c = same_carries_over
