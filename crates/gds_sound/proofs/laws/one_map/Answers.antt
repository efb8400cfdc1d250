use Rattle.gds_sound.proofs.OneMapLemmas.{one_map}
use Rattle.gds_sound.proofs.laws.one_map.Goals as goal

pub returns : goal.returns
returns c = one_map
