use Rattle.gds_tree.proofs.JoinLemmas.{leaf_join, index_joined}
use Rattle.gds_tree.proofs.entry_laws.joined_entries.Goals as goal

pub returns-clause-leaf : goal.returns-clause-leaf
returns-clause-leaf c = leaf_join

pub returns-clause-index : goal.returns-clause-index
returns-clause-index c = index_joined
