use Rattle.gds_images.proofs.LaidLemmas.{laid_back_itself}
use Rattle.gds_images.proofs.laws.lays_back_itself.Goals as goal

pub returns : goal.returns
returns c = laid_back_itself
