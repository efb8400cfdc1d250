use Rattle.gds_images.proofs.RestLemmas.{rest_found}
use Rattle.gds_images.proofs.laws.rest_is_found.Goals as goal

pub returns : goal.returns
returns c = rest_found
