use Rattle.gds_tree.proofs.LawfulLemmas.{leaf_front, leaf_back, index_cut_front, index_cut_back}
use Rattle.gds_tree.proofs.entry_laws.cut_entries.Goals as goal

pub returns-clause-leaf_left : goal.returns-clause-leaf_left
returns-clause-leaf_left c = leaf_front

pub returns-clause-leaf_right : goal.returns-clause-leaf_right
returns-clause-leaf_right c = leaf_back

pub returns-clause-index_left : goal.returns-clause-index_left
returns-clause-index_left c = index_cut_front

pub returns-clause-index_right : goal.returns-clause-index_right
returns-clause-index_right c = index_cut_back
