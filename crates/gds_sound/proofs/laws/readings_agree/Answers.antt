use Rattle.gds_sound.proofs.PairLemmas.{readings_agree}
use Rattle.gds_sound.proofs.laws.readings_agree.Goals as goal

pub returns : goal.returns
returns c = readings_agree
