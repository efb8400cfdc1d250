use Rattle.m_text.proofs.WrittenLemmas.{written_reference_lem}
use Rattle.m_text.proofs.laws.written_reference.Goals as goal

pub returns : goal.returns
returns c = written_reference_lem
