use Rattle.gds_tree.proofs.JoinLemmas.{index_changed, index_ended}
use Rattle.gds_tree.proofs.entry_laws.changed_index.Goals as goal

pub returns-clause-between : goal.returns-clause-between
returns-clause-between c = index_changed

pub returns-clause-ended : goal.returns-clause-ended
returns-clause-ended c = index_ended
