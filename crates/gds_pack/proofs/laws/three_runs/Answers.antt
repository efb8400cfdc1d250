use Rattle.gds_pack.proofs.BoundLemmas.{CanBeCut-three}
use Rattle.gds_pack.proofs.laws.three_runs.Goals as goal

pub returns : goal.returns
returns c = CanBeCut-three
