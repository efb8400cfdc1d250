use Rattle.m_text.proofs.WrittenLemmas.{written_null_reference_lem}
use Rattle.m_text.proofs.laws.written_null_reference.Goals as goal

pub returns : goal.returns
returns c = written_null_reference_lem
