use Rattle.gds_ancestors.proofs.StarLemmas.{star_lawful, star_trees}
use Rattle.gds_ancestors.proofs.laws.starred_entry.Goals as goal

pub returns-clause-lawful : goal.returns-clause-lawful
returns-clause-lawful c = star_lawful

pub returns-clause-trees : goal.returns-clause-trees
returns-clause-trees c = star_trees
