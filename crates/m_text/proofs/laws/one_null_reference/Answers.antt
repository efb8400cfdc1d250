use Rattle.m_text.proofs.NullReferenceLemmas.{one_null_reference_lem, null_apart}
use Rattle.m_text.proofs.laws.one_null_reference.Goals as goal

pub returns-clause-one : goal.returns-clause-one
returns-clause-one c = one_null_reference_lem c.one_text.ensures

pub returns-clause-apart : goal.returns-clause-apart
returns-clause-apart c = null_apart c.one_text.ensures
