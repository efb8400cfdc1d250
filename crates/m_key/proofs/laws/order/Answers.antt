use Rattle.m_key.proofs.KeyLemmas as keys
use Rattle.m_key.proofs.NumberLemmas.{numbers}
use Rattle.m_key.proofs.laws.order.Goals as goal

pub returns : goal.returns
returns c = keys.order numbers
