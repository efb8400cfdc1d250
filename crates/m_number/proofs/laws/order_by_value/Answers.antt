use Rattle.m_number.proofs.ValueLemmas.{values_in_order}
use Rattle.m_number.proofs.laws.order_by_value.Goals as goal

pub returns : goal.returns
returns c = values_in_order
