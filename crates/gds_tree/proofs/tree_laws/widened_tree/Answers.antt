use Rattle.gds_tree.proofs.WidenLemmas.{widened}
use Rattle.gds_tree.proofs.tree_laws.widened_tree.Goals as goal

pub returns : goal.returns
returns c = λ image wide v level t i low w h. widened image i level wide v t w low h
