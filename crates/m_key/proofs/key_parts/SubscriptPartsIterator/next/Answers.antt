use Rattle.std.proofs.Common.{length, ap, rules, sym, ◌∙◌}
use Rattle.m_key.specs.KeyParts.{parts_left}
use Rattle.m_key.proofs.KeyPartLemmas.{pieces-split, pieces-alone}
use Rattle.m_key.proofs.key_parts.SubscriptPartsIterator.next.Goals as goal

pub returns-in-Some-clause-steps : goal.returns-in-Some-clause-steps
returns-in-Some-clause-steps c =
    let found = c.in-Some.ensures in
    sym c.self.view_is ∙ ap parts_left c.in_ok-left.was
    ∙ pieces-split c.in_ok-left.left.now c.in-Some.part.now c.in-Some.more.now found.some found.first

pub returns-in-Some-clause-goes : goal.returns-in-Some-clause-goes
returns-in-Some-clause-goes c =
    let steps = ap length (returns-in-Some-clause-steps c) in
    search rules

pub returns-in-None-clause-steps : goal.returns-in-None-clause-steps
returns-in-None-clause-steps c =
    sym c.self.view_is ∙ ap parts_left c.in_ok-left.was ∙ pieces-alone c.in_ok-left.left.now c.in-None.ensures.none
