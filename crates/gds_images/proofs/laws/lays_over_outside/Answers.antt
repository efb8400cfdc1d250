use Rattle.gds_images.proofs.LaidLemmas.{laid_over_outside}
use Rattle.gds_images.proofs.laws.lays_over_outside.Goals as goal

pub returns : goal.returns
returns c = laid_over_outside
