use Rattle.gds_sound.proofs.TreeLemmas.{own_level}
use Rattle.gds_tree.proofs.TreeByLemmas.{leaf_by, index_by, by_leaf, by_index}
use Rattle.gds_tree.proofs.tree_laws.tree_by_entries.Goals as goal

pub returns-clause-leaf : goal.returns-clause-leaf
returns-clause-leaf c = leaf_by

pub returns-clause-index : goal.returns-clause-index
returns-clause-index c = index_by

pub returns-clause-of_leaf : goal.returns-clause-of_leaf
returns-clause-of_leaf c = λ image v t i low h. let r = by_leaf image v t i low h in (r.es, r.has, r.is)

pub returns-clause-of_index : goal.returns-clause-of_index
returns-clause-of_index c = λ image v level t i low h.
    let r = by_index image v level t i low h in
    (r.es, r.below, r.has, r.trees, r.is)

pub returns-clause-own : goal.returns-clause-own
returns-clause-own c = λ image v level t h. own_level image level v t h
