use Rattle.std.proofs.Common.{◌≡◌, ◌∙◌, Err, None, ap}
use Rattle.gds_units.specs.State.{image_of}
use Rattle.m_key.specs.Reference.{place_of}
use Rattle.gds_run.proofs.ChangeLemmas.{kill_made, kill_spent}
use Rattle.gds_run.proofs.killing.kill_node.Goals as goal

pub returns-in-Ok-clause-answer : goal.returns-in-Ok-clause-answer
returns-in-Ok-clause-answer g c =
    kill_made c.args.base.now c.kill.new.base (place_of c.args.reference.now) c.header-header.ensures.fields
    c.in-Ok.ensures.ends.1 c.in-Ok.ensures.map

pub returns-in-Err-TnSpent-clause-answer : goal.returns-in-Err-TnSpent-clause-answer
returns-in-Err-TnSpent-clause-answer g c =
    let h = g.H.Host in
    let old = c.args.base.now in
    let new = c.kill.new.base in
    kill_spent old new (place_of c.args.reference.now) c.header-header.ensures.fields (image_of old ≡ None)
    (h.failures old.host) (h.failures new.host) c.kill.result
    (c.in-Err-TnSpent.is ∙ ap (λ e. Err e) c.in-Err-TnSpent.field-0-is) c.kill.ensures.ends c.kill.ensures.spent
    c.kill.ensures.err
