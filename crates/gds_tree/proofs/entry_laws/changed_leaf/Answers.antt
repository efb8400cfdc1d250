use Rattle.gds_tree.proofs.JoinLemmas.{value_changed, entry_put, entries_taken}
use Rattle.gds_tree.proofs.entry_laws.changed_leaf.Goals as goal

pub returns-clause-value : goal.returns-clause-value
returns-clause-value c = value_changed

pub returns-clause-put : goal.returns-clause-put
returns-clause-put c = entry_put

pub returns-clause-taken : goal.returns-clause-taken
returns-clause-taken c = entries_taken
