use Rattle.m_number.proofs.BytesLemmas.{one_packing}
use Rattle.m_number.proofs.laws.one_encoding.Goals as goal

pub returns : goal.returns
returns c = one_packing
