use Rattle.gds_images.proofs.GroupLemmas.{opens}
use Rattle.gds_images.proofs.laws.opens_to_group.Goals as goal

pub returns : goal.returns
returns c = opens
