use Rattle.std.proofs.Common.{refl, sym, arith}
use Rattle.gds_search.proofs.ReadingLemmas.{entry_stands, key_part, part_within, rest_is}
use Rattle.gds_search.proofs.reading.rest_at.Goals as goal

pub returns-in_err-body-clause-found : goal.returns-in_err-body-clause-found
returns-in_err-body-clause-found c height es before behind own key packed spot equal =
    absurd (c.in_err-body.ensures.body _ packed.is_block
    (entry_stands c.args.block.now height es before behind own packed spot.parts) (sym spot.offset))

pub returns-in_err-key_part-clause-found : goal.returns-in_err-key_part-clause-found
returns-in_err-key_part-clause-found c height es before behind own key packed spot equal =
    absurd (omega (arith, c.in_err-key_part.ensures, key_part es key c.args.place.now before behind own spot equal))

pub returns-then-body-key_part-clause-found : goal.returns-then-body-key_part-clause-found
returns-then-body-key_part-clause-found c height es before behind own key packed spot equal =
    let body = c.in_ok-body.ensures.body _ packed.is_block
    (entry_stands c.args.block.now height es before behind own packed spot.parts) (sym spot.offset) in
    let part = part_within es key c.args.place.now before behind own spot equal c.in_ok-body.body.now body in
    omega (arith, c.in_ok-key_part.ensures.0, c.in_ok-key_part.ensures.1, part, c.if-body-key_part.true)

pub returns-clause-found : goal.returns-clause-found
returns-clause-found c height es before behind own key packed spot equal =
    let body = c.in_ok-body.ensures.body _ packed.is_block
    (entry_stands c.args.block.now height es before behind own packed spot.parts) (sym spot.offset) in
    rest_is es key c.args.place.now before behind own spot equal c.in_ok-body.body.now _
    c.in_ok-key_part.key_part body (omega (arith, c.in_ok-key_part.ensures.0, c.in_ok-key_part.ensures.1)) refl
