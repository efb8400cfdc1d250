use Rattle.m_number.proofs.BytesLemmas.{bytes_in_order}
use Rattle.m_number.proofs.laws.order.Goals as goal

pub returns : goal.returns
returns c = bytes_in_order
