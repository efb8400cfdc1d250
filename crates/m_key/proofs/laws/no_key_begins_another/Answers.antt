use Rattle.m_key.proofs.KeyLemmas as keys
use Rattle.m_key.proofs.NumberLemmas.{numbers}
use Rattle.m_key.proofs.laws.no_key_begins_another.Goals as goal

pub returns-clause-same : goal.returns-clause-same
returns-clause-same c = keys.one_key numbers

pub returns-clause-begun : goal.returns-clause-begun
returns-clause-begun c = keys.none_begins numbers
