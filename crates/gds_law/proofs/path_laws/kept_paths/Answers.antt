use Rattle.gds_law.proofs.KeptLemmas.{one_reading}
use Rattle.gds_law.proofs.path_laws.kept_paths.Goals as goal

pub returns : goal.returns
returns c = one_reading
