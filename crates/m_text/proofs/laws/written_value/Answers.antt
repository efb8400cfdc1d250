use Rattle.m_text.proofs.WrittenLemmas.{written_value_lem}
use Rattle.m_text.proofs.laws.written_value.Goals as goal

pub returns : goal.returns
returns c = written_value_lem
