use Rattle.gds_split.proofs.TreeLemmas.{over, leaves}
use Rattle.gds_split.proofs.laws.pieces_trees.Goals as goal

pub returns-clause-index : goal.returns-clause-index
returns-clause-index c = λ image v w level low es pieces key below i at l g h has.
    over image i v level w low es pieces key below at l g h has

pub returns-clause-leaf : goal.returns-clause-leaf
returns-clause-leaf c = λ image v low es pieces key i g has. leaves image i v low es pieces key g has
