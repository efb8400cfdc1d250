use Rattle.std.proofs.Common.{arith, ap}
use Rattle.gds_header.specs.declared.header.Header.{Header}
use Rattle.gds_units.specs.State.{image_of}
use Rattle.gds_find.proofs.FindLemmas.{always_turns, none_there, turn_answered, turn_ends}
use Rattle.gds_find.proofs.finding.turn_at.Goals as goal

pub returns-then-block-header-clause-ends : goal.returns-then-block-header-clause-ends
returns-then-block-header-clause-ends g c =
    let total = ap (λ (h : Header). h.total) c.header.ensures.header in
    none_there (image_of c.args.base.now) c.args.draft.now c.args.block c.args.due c.args.key.now c.hold_draft.ensures
    (omega (arith, total, c.if-block-header.true))

pub returns-clause-turn : goal.returns-clause-turn
returns-clause-turn g c =
    let told = image_of c.args.base.now in
    let draft = c.args.draft.now in
    turn_answered told draft c.args.block c.args.due c.args.key.now c.turn_in.result _ c.ok_or.result
    c.ok_or.ensures.value
    (always_turns told draft c.args.block c.args.due c.args.key.now c.in_ok-bytes.bytes.now c.turn_in.result
    c.hold_draft.ensures c.in_ok-bytes.ensures.bytes c.are_bytes.ensures c.turn_in.ensures.turn)

pub returns-clause-ends : goal.returns-clause-ends
returns-clause-ends g c =
    let told = image_of c.args.base.now in
    let draft = c.args.draft.now in
    turn_ends told draft c.args.block c.args.due c.args.key.now c.turn_in.result _ c.ok_or.result
    (g.H.Host.failures c.args.base.now.host) (g.H.Host.failures c.read.follows.lender-at-none.host)
    c.ok_or.ensures.value
    (always_turns told draft c.args.block c.args.due c.args.key.now c.in_ok-bytes.bytes.now c.turn_in.result
    c.hold_draft.ensures c.in_ok-bytes.ensures.bytes c.are_bytes.ensures c.turn_in.ensures.turn)
