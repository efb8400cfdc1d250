use Rattle.std.proofs.Common.{◌≡◌, ◌+◌, [], Err, ◌∙◌}
use Rattle.std.proofs.lemmas.Result.{err_from_is_err_and}
use Rattle.gds_images.specs.Reading.{read_on}
use Rattle.gds_images.proofs.ReadingLemmas.{OnlyRead-then, cause_then, groups_end, groups_more, groups_on}
use Rattle.gds_images.proofs.reading.read_groups.Goals as goal

pub returns-in_err-gate-2-clause-cause : goal.returns-in_err-gate-2-clause-cause
returns-in_err-gate-2-clause-cause g c =
    let h = g.H.Host in
    let limits = c.args.limits in
    let so_far = c.loop-places.invariant in
    let p = err_from_is_err_and c.from_residual-in_err-gate-2.result c.from_residual-in_err-gate-2.ensures.1 in
    rw (p.1, p.2)
    (cause_then h.told h.moment h.failures h.left_since c.args.host.now c.read_gate.new.host
    c.read_images-in-Some.new.host c.in_err-gate-2.field-0.0
    (λ x at. read_on x.images limits.epoch_length c.loop-places.places (c.loop-places.gate + 9) c.in-Some.size ≡ Err at)
    (λ x at. read_on x.images limits.epoch_length [] 25 c.args.first ≡ Err at)
    (OnlyRead-then h.told h.moment h.failures h.left_since c.args.host.now c.loop-places.host c.read_gate.new.host
    so_far.host c.in_ok-size.ensures.host)
    (λ x at tells bad. groups_on c.args.host.now c.loop-places.host limits c.args.first c.loop-places.places
    c.loop-places.gate so_far c.in_ok-size.field-0 c.in_ok-size.ensures.gate c.in-Some.size c.in-Some.is x tells ∙ bad)
    c.in_err-gate-2.ensures.cause)

pub loop-places-preserved : goal.loop-places-preserved
loop-places-preserved g c =
    let done = c.in_ok-gate-2.ensures in
    groups_more c.args.host.now c.loop-places.host c.args.limits c.args.first c.loop-places.places c.loop-places.gate
    c.loop-places.invariant c.in_ok-size.field-0 c.in_ok-size.ensures.gate c.in-Some.size c.read_gate.new.host
    c.read_images-in-Some.new.host c.read_images-in-Some.new.places c.in_ok-gate-2.gate c.in-Some.is
    c.in_ok-size.ensures.host done.host done.end.0 done.end.1 done.lie done.images

pub returns-clause-chain : goal.returns-clause-chain
returns-clause-chain g c =
    groups_end c.args.host.now c.loop-places.host c.args.limits c.args.first c.loop-places.places c.loop-places.gate
    c.loop-places.invariant c.in_ok-size.field-0 c.in_ok-size.ensures.gate c.in_default.is
