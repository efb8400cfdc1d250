use Rattle.std.proofs.Common.{◌∙◌, refl}
use Rattle.gds_find.proofs.StartLemmas.{front_same}
use Rattle.gds_find.proofs.scan.read_next.Goals as goal

pub returns-in_default : goal.returns-in_default
returns-in_default c before behind own packed at begins =
    c.in_default.ensures 0 _ before behind own packed refl at
    (front_same before own behind c.args.entry.now.key.items c.as_slice.result.now c.as_slice.ensures.value begins)

pub returns : goal.returns
returns c before behind own packed at begins =
    let found = c.in-Some.ensures 0 _ before behind own packed refl at
    (front_same before own behind c.args.entry.now.key.items c.as_slice.result.now c.as_slice.ensures.value begins) in
    (c.in_ok-fill.ensures ∙ (λ k. record { key = found.0 k; rest = found.1 k }), found.2)
