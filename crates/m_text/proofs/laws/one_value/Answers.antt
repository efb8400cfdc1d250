use Rattle.m_text.proofs.ValueLemmas.{one_value_lem}
use Rattle.m_text.proofs.laws.one_value.Goals as goal

pub returns : goal.returns
returns c = one_value_lem
