use Rattle.gds_ancestors.proofs.KeptLemmas.{ancestors_kept}
use Rattle.gds_ancestors.proofs.laws.ancestors_kept.Goals as goal

pub returns : goal.returns
returns c = λ old new root w above level i j sizes more lead kept.
    ancestors_kept old new i j sizes more root w above level lead kept
