use Rattle.gds_tree.proofs.RootLemmas.{collapsed}
use Rattle.gds_tree.proofs.change_laws.collapsed_root.Goals as goal

pub returns : goal.returns
returns c = collapsed
