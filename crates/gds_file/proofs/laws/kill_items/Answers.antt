use Rattle.gds_file.proofs.ChangeLemmas.{items_outside_are_kill}
use Rattle.gds_file.proofs.KillLemmas.{kill_in_one_tree, kill_of_one_tree}
use Rattle.gds_file.proofs.laws.kill_items.Goals as goal

pub returns-clause-map : goal.returns-clause-map
returns-clause-map c = items_outside_are_kill

pub returns-clause-in_one_tree : goal.returns-clause-in_one_tree
returns-clause-in_one_tree c = kill_in_one_tree

pub returns-clause-of_one_tree : goal.returns-clause-of_one_tree
returns-clause-of_one_tree c = kill_of_one_tree
