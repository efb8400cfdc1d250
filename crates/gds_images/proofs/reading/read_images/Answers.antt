use Rattle.std.proofs.Common.{sym, ◌∙◌, take, arith}
use Rattle.std.proofs.lemmas.Result.{err_from_is_err_and}
use Rattle.gds_images.proofs.ReadingLemmas.{read_ends, read_more, read_stops}
use Rattle.gds_images.proofs.reading.read_images.Goals as goal

pub read_front-requires : goal.read_front-requires
read_front-requires g c x tells = c.requires.told x (sym c.loop-left.invariant.host.read.told ∙ tells)

pub returns-in_err-place-clause-cause : goal.returns-in_err-place-clause-cause
returns-in_err-place-clause-cause g c =
    let p = err_from_is_err_and c.from_residual-in_err-place.result c.from_residual-in_err-place.ensures.1 in
    rw (p.1, p.2)
    (read_stops c.args.host.now c.loop-left.host c.read_front.new.host c.args.limits c.args.places.now c.args.from
    c.args.size c.loop-left.places c.loop-left.at c.loop-left.left c.loop-left.invariant c.requires.told
    (take c.in_ok-count.count c.read_front.new.out) c.in_err-place.field-0.0.at c.loop-left-test.true
    c.in_ok-count.ensures.bytes c.in_err-place.ensures.image)

pub loop-left-preserved : goal.loop-left-preserved
loop-left-preserved g c =
    let within = c.in_ok-place.ensures.within in
    read_more c.args.host.now c.loop-left.host c.read_front.new.host c.args.limits c.args.places.now c.args.from
    c.args.size c.loop-left.places c.loop-left.at c.loop-left.left c.loop-left.invariant c.requires.told
    (take c.in_ok-count.count c.read_front.new.out) c.in_ok-place.place c.from-taken.result c.push.new.self
    c.in_ok-count.ensures.host c.in_ok-count.ensures.bytes c.in_ok-place.ensures.image
    (record { some = within.0; low = within.1; stands = within.2; whole = within.3; fills = within.4 })
    c.from-taken.ensures c.in_ok-push.ensures.ok

pub returns-clause-images : goal.returns-clause-images
returns-clause-images g c =
    let none = c.loop-left-test.false in
    read_ends c.args.host.now c.loop-left.host c.loop-left.host c.args.limits c.args.places.now c.args.from
    c.args.size c.loop-left.places c.loop-left.at c.loop-left.left c.loop-left.invariant c.requires.told (omega arith)
