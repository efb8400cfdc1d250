use Rattle.gds_file.proofs.ChangeLemmas.{set_item_is_set, set_in_one_tree, set_in_new_tree}
use Rattle.gds_file.proofs.laws.set_item.Goals as goal

pub returns-clause-map : goal.returns-clause-map
returns-clause-map c = set_item_is_set

pub returns-clause-in_one_tree : goal.returns-clause-in_one_tree
returns-clause-in_one_tree c = set_in_one_tree

pub returns-clause-in_new_tree : goal.returns-clause-in_new_tree
returns-clause-in_new_tree c = set_in_new_tree
