use Rattle.gds_pack.proofs.BoundLemmas.{packed_size-joined}
use Rattle.gds_pack.proofs.laws.joined_size.Goals as goal

pub returns : goal.returns
returns c = packed_size-joined
