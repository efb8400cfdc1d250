use Rattle.m_number.proofs.TextLemmas.{text_length}
use Rattle.m_number.proofs.laws.text_bound.Goals as goal

pub returns : goal.returns
returns c = text_length
