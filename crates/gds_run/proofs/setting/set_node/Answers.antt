use Rattle.std.proofs.Common.{length, rules}
use Rattle.std.specs.Option.{ForSome}
use Rattle.m_key.specs.Key.{key_bytes}
use Rattle.m_key.specs.Reference.{node_of, place_of}
use Rattle.gds_shape.specs.Depth.{IsDeep}
use Rattle.gds_units.specs.State.{image_of}
use Rattle.gds_run.proofs.ChangeLemmas.{IsDevice, set_failed, set_made}
use Rattle.gds_run.proofs.setting.set_node.Goals as goal

pub returns-in-Ok-clause-answer : goal.returns-in-Ok-clause-answer
returns-in-Ok-clause-answer g c =
    set_made c.args.base.now c.set-made.new.base (place_of c.args.reference.now) c.header-header.ensures.fields
    c.args.value.now c.header-header.ensures.limits c.header-header-2.ensures.limits c.header-header-2.ensures.fields
    c.in-Ok.ensures.ends.0 c.in-Ok.ensures.map c.in-Ok.ensures.used c.in-Ok.ensures.differs
    c.in-Ok.ensures.header

pub returns-in-Err-clause-ends : goal.returns-in-Err-clause-ends
returns-in-Err-clause-ends g c =
    let h = g.H.Host in
    let old = c.args.base.now in
    let new = c.set-made.new.base in
    let node = node_of c.args.reference.now in
    let device : IsDevice c.in-Err.error = search rules in
    set_failed h.told h.failures old new old.header (length (key_bytes node)) (length c.args.value.now)
    (ForSome (image_of old) (λ image. IsDeep image node)) c.requires c.hold_told.ensures.tells c.in-Err.error
    c.into.result c.into.ensures device c.in-Err.ensures.failures c.in-Err.ensures.untold c.in-Err.ensures.said
    c.in-Err.ensures.ends
