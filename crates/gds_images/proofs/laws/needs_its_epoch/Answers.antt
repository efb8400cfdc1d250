use Rattle.gds_images.proofs.ChainLemmas.{needs_epoch}
use Rattle.gds_images.proofs.laws.needs_its_epoch.Goals as goal

pub returns : goal.returns
returns c = needs_epoch
