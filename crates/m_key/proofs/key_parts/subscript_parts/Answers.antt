use Rattle.std.proofs.Common.{drop, sym, ap, ◌∙◌}
use Rattle.m_key.specs.KeyParts.{pieces}
use Rattle.m_key.proofs.KeyPartLemmas.{pieces-split, pieces-alone}
use Rattle.m_key.proofs.key_parts.subscript_parts.Goals as goal

pub returns-in-Some : goal.returns-in-Some
returns-in-Some c =
    let first =
    pieces-split _ c.in-Some.field-0-0.now c.in-Some.left.now c.in-Some.ensures.some c.in-Some.ensures.first in
    ap (drop 1) (sym first) ∙ ap (λ bytes. drop 1 (pieces bytes)) c.without_end.ensures

pub returns-in-None : goal.returns-in-None
returns-in-None c =
    ap (drop 1) (sym (pieces-alone _ c.in-None.ensures.none))
    ∙ ap (λ bytes. drop 1 (pieces bytes)) c.without_end.ensures
