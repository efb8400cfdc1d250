use Rattle.gds_insert.proofs.LeafLemmas.{leaf_of}
use Rattle.gds_insert.proofs.SetLemmas.{leaf_is_set, leaf_parts}
use Rattle.gds_insert.proofs.laws.leaf_with_item.Goals as goal

pub returns-clause-trail : goal.returns-clause-trail
returns-clause-trail c = λ file v t key rest steps found place m l. leaf_of file v t key rest m steps found place l

pub returns-clause-may : goal.returns-clause-may
returns-clause-may c = leaf_parts

pub returns-clause-set : goal.returns-clause-set
returns-clause-set c = λ before after v t key rest place steps above leaf front back m l b.
    leaf_is_set before v t key rest place steps above leaf front back m l after b
