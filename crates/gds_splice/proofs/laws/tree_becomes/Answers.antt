use Rattle.gds_splice.proofs.AncestorLemmas.{becomes_behind}
use Rattle.gds_splice.proofs.LeafLemmas.{becomes_in_any_order}
use Rattle.gds_splice.proofs.laws.tree_becomes.Goals as goal

pub returns-clause-behind : goal.returns-clause-behind
returns-clause-behind c = becomes_behind

pub returns-clause-order : goal.returns-clause-order
returns-clause-order c = becomes_in_any_order
