use Rattle.gds_split.proofs.SizeLemmas.{own_size}
use Rattle.gds_split.proofs.laws.piece_size.Goals as goal

pub returns : goal.returns
returns c = own_size
