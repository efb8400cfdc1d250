use Rattle.std.proofs.Common.{ap}
use Rattle.integ_walk.specs.Frame.{all_links}
use Rattle.integ_walk.proofs.walker.Walker.new.Goals as goal

pub returns-clause-links : goal.returns-clause-links
unfolding all_links
returns-clause-links c = ap all_links c.new-2.ensures.items
