use Rattle.std.proofs.Common.{inl}
use Rattle.std.proofs.lemmas.Result.{on_ok_weaker}
use Rattle.gds_units.proofs.DurableLemmas.{found_before, keeps_none, keeps_or}
use Rattle.gds_base.proofs.RoomLemmas.{zeros_grown}
use Rattle.gds_base.proofs.commit.make_room.Goals as goal

pub returns-then-is_stopped-clause-any_moment : goal.returns-then-is_stopped-clause-any_moment
returns-then-is_stopped-clause-any_moment g c x tells image is =
    let h = g.H.Host in
    let host = c.args.units.now.host in
    keeps_or h.moment h.left_since image x.said host host
    (keeps_none h.moment h.left_since host (c.header.ensures.found x tells))

pub returns-then-total-has-clause-kept : goal.returns-then-total-has-clause-kept
returns-then-total-has-clause-kept g c x tells image is =
    let h = g.H.Host in
    let host = c.args.units.now.host in
    inl (λ d left. found_before h.moment h.left_since host d (c.header.ensures.found x tells d left) left)

pub returns-then-total-has-clause-any_moment : goal.returns-then-total-has-clause-any_moment
returns-then-total-has-clause-any_moment g c x tells image is =
    let h = g.H.Host in
    let host = c.args.units.now.host in
    keeps_or h.moment h.left_since image x.said host host
    (keeps_none h.moment h.left_since host (c.header.ensures.found x tells))

pub returns-clause-zeros : goal.returns-clause-zeros
returns-clause-zeros g c =
    on_ok_weaker c.grow.result
    (zeros_grown c.args.units.now c.grow.new.self c.args.total c.grow.ensures.image c.header.ensures.image
    c.header.ensures.fields) c.grow.ensures.file
