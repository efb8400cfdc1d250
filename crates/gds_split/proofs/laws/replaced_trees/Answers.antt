use Rattle.std.proofs.Common.{suc, ◌++◌}
use Rattle.gds_tree.proofs.PartLemmas.{lawful_at}
use Rattle.gds_tree.proofs.ReplaceLemmas.{below_replaced}
use Rattle.gds_split.proofs.laws.replaced_trees.Goals as goal

pub returns : goal.returns
returns c = λ old new v level a taken b put before middle behind i j sizes more has first last kept kept' now trees
    higher.
    below_replaced old new v level a taken b put i j (lawful_at old v (suc level) (a ++ taken ++ b) has) now before
    middle behind sizes more first last kept kept' trees higher
