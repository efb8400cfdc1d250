use Rattle.std.proofs.Common.{[], ◌∷◌, ◌++◌, flat_map}
use Rattle.m_key.specs.Key.{ended}
use Rattle.m_key.proofs.KeyLemmas as keys
use Rattle.m_key.proofs.NumberLemmas.{numbers}
use Rattle.m_key.proofs.laws.descendants.Goals as goal

pub returns-clause-begun : goal.returns-clause-begun
returns-clause-begun c a b p q =
    (λ h. (flat_map ended h.subscripts.0 ++ 0 ∷ [], keys.lead-begins a b h), keys.leads_from numbers a b p q)

pub returns-clause-between : goal.returns-clause-between
returns-clause-between c a b p q = (keys.leads_between numbers a b, λ h. keys.between_leads numbers a b p q h.0 h.1)

pub returns-clause-test : goal.returns-clause-test
returns-clause-test c a b p q = (keys.led_leads numbers a b p q, keys.leads_led numbers a b p)
