use Rattle.gds_pack.proofs.SizeLemmas.{packed_size-front, packed_size-back}
use Rattle.gds_pack.proofs.laws.part_size.Goals as goal

pub returns-clause-front : goal.returns-clause-front
returns-clause-front c = packed_size-front

pub returns-clause-back : goal.returns-clause-back
returns-clause-back c = packed_size-back
