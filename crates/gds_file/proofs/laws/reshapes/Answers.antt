use Rattle.gds_file.proofs.ReshapeLemmas.{nothing_reshapes, reshapes_compose, reshapes_with_more, reshapes_in_any_order}
use Rattle.gds_file.proofs.laws.reshapes.Goals as goal

pub returns-clause-nothing : goal.returns-clause-nothing
returns-clause-nothing c = nothing_reshapes

pub returns-clause-compose : goal.returns-clause-compose
returns-clause-compose c = reshapes_compose

pub returns-clause-with_more : goal.returns-clause-with_more
returns-clause-with_more c = reshapes_with_more

pub returns-clause-any_order : goal.returns-clause-any_order
returns-clause-any_order c = reshapes_in_any_order
