use Rattle.gds_file.proofs.StampLemmas.{stamp_keeps_trees}
use Rattle.gds_file.proofs.laws.stamp_keeps_trees.Goals as goal

pub returns : goal.returns
returns c = stamp_keeps_trees
