use Rattle.m_number.proofs.TextLemmas.{one_reading}
use Rattle.m_number.proofs.laws.one_text.Goals as goal

pub returns : goal.returns
returns c = one_reading
