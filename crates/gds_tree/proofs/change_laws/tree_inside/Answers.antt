use Rattle.gds_tree.proofs.AroundLemmas.{around_path}
use Rattle.gds_tree.proofs.change_laws.tree_inside.Goals as goal

pub returns : goal.returns
returns c = λ image v w path level t i low leads h. around_path image i path v w level t low leads h
