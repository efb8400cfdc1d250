use Rattle.gds_images.proofs.SameLemmas.{same_equivalence}
use Rattle.gds_images.proofs.laws.same_is_equivalence.Goals as goal

pub returns : goal.returns
returns c = same_equivalence
