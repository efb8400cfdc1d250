use Rattle.std.proofs.Common.{◌<◌, length, sym, ap, ◌∙◌, arith, false-eqb}
use Rattle.std.specs.Prelude.{is_some}
use Rattle.m_key.proofs.UnescapeLemmas.{unescaped_none, some_more}
use Rattle.m_key.proofs.escapes.is_escaped.Goals as goal

pub returns-in_default : goal.returns-in_default
returns-in_default c =
    let rest = c.loop-rest.rest.now in
    let other = false-eqb (length rest) 0 c.loop-rest-test.ensures in
    let some : 0 < length rest = omega arith in
    sym (ap is_some (unescaped_none rest some c.in_default.ensures.none)) ∙ c.loop-rest.invariant

pub loop-rest-preserved : goal.loop-rest-preserved
loop-rest-preserved c =
    some_more c.in-Some.field-0-0 c.loop-rest.rest.now c.in-Some.more.now c.in-Some.ensures.some ∙ c.loop-rest.invariant
