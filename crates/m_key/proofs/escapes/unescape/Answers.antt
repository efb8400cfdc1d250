use Rattle.std.proofs.Common.{◌<◌, length, sym, ◌∙◌, arith, false-eqb}
use Rattle.m_key.proofs.ReadingLemmas.{not_escaped}
use Rattle.m_key.proofs.escapes.unescape.Goals as goal

pub returns-in_default-clause-none : goal.returns-in_default-clause-none
returns-in_default-clause-none c t e =
    let other = false-eqb (length c.loop-rest.rest.now) 0 c.loop-rest-test.ensures in
    let some : 0 < length c.loop-rest.rest.now = omega arith in
    not_escaped c.loop-rest.text.items c.loop-rest.rest.now t some c.in_default.ensures.none (e
    ∙ sym c.loop-rest.invariant)
