use Rattle.std.proofs.Common.{◌∷◌}
use Rattle.gds_tree.proofs.BelowLemmas.{below_append, some_both, both_parts}
use Rattle.gds_tree.proofs.tree_laws.trees_in_parts.Goals as goal

pub returns-clause-two : goal.returns-clause-two
returns-clause-two c = below_append

pub returns-clause-three : goal.returns-clause-three
returns-clause-three c = λ image v level low a b e. below_append image v level low a (e ∷ b)

pub returns-clause-some : goal.returns-clause-some
returns-clause-some c = some_both

pub returns-clause-of_some : goal.returns-clause-of_some
returns-clause-of_some c = λ a b t h. let p = both_parts a b t h in (p.first, p.second, p.here, p.later, p.is)
