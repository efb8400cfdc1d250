use Rattle.m_text.proofs.OneReferenceLemmas.{one_reference_lem}
use Rattle.m_text.proofs.laws.one_reference.Goals as goal

pub returns : goal.returns
returns c = one_reference_lem c.one_text.ensures
