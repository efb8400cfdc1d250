use Rattle.std.proofs.Common.{[], refl}
use Rattle.gds_tree.specs.Below.{below_key}
use Rattle.gds_tree.proofs.RootLemmas.{front_below}
use Rattle.gds_tree.proofs.entry_laws.trees_of_front.Goals as goal

pub returns : goal.returns
returns c = λ image v level low a m packable some.
    front_below image v (below_key v m.key) level [] low a m refl refl some packable
