use Rattle.std.proofs.Common.{sym, subst}
use Rattle.std.specs.Prelude.{IsSomeAnd}
use Rattle.gds_search.specs.Child.{IsChild}
use Rattle.gds_search.proofs.ReadingLemmas.{own, next, next_at, IsChild-here, IsChild-next}
use Rattle.gds_search.proofs.reading.child_at.Goals as goal

pub returns-in_err-body : goal.returns-in_err-body
returns-in_err-body c level es before behind key q packed spot =
    let at = own c.args.block.now level es before behind key c.args.place.now q packed spot in
    absurd (c.in_err-body.ensures.body _ packed.is_block at.stands (sym spot.offset))

pub returns-in_err-body_at : goal.returns-in_err-body_at
returns-in_err-body_at c level es before behind key q packed spot =
    let at = own c.args.block.now level es before behind key c.args.place.now q packed spot in
    let body = c.in_ok-body.ensures.body _ packed.is_block at.stands (sym spot.offset) in
    let more = next c.args.block.now level es before behind key c.args.place.now q packed spot c.if-place.true in
    absurd (c.in_err-body_at.ensures.body _ packed.is_block more.stands
    (next_at c.args.block.now level es before behind key c.args.place.now q packed spot c.if-place.true _ body))

pub returns-then-place : goal.returns-then-place
returns-then-place c level es before behind key q packed spot =
    let at = own c.args.block.now level es before behind key c.args.place.now q packed spot in
    let body = c.in_ok-body.ensures.body _ packed.is_block at.stands (sym spot.offset) in
    let more = next c.args.block.now level es before behind key c.args.place.now q packed spot c.if-place.true in
    let place =
    next_at c.args.block.now level es before behind key c.args.place.now q packed spot c.if-place.true _ body in
    let parts = c.in_ok-body_at.ensures.body _ packed.is_block more.stands place in
    subst (λ o. IsSomeAnd o (IsChild es key)) (sym (c.child_of.ensures _ _ parts more.size))
    (IsChild-next c.args.block.now level es before behind key c.args.place.now q packed spot c.if-place.true _ place)

pub returns : goal.returns
returns c level es before behind key q packed spot =
    let at = own c.args.block.now level es before behind key c.args.place.now q packed spot in
    let body = c.in_ok-body.ensures.body _ packed.is_block at.stands (sym spot.offset) in
    subst (λ o. IsSomeAnd o (IsChild es key)) (sym (c.child_of-2.ensures _ _ body at.size))
    (IsChild-here c.args.block.now level es before behind key c.args.place.now q packed spot c.if-place.false)
