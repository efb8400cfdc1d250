use Rattle.gds_tree.proofs.JoinLemmas.{elsewhere}
use Rattle.gds_tree.proofs.RootLemmas.{same_below}
use Rattle.gds_tree.proofs.entry_laws.other_visit.Goals as goal

pub returns-clause-lawful : goal.returns-clause-lawful
returns-clause-lawful c = elsewhere

pub returns-clause-trees : goal.returns-clause-trees
returns-clause-trees c = same_below
