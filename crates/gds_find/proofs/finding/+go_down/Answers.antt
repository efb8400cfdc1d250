use Rattle.std.proofs.Common.{ap}
use Rattle.gds_units.specs.State.{image_of}
use Rattle.gds_find.proofs.TrailLemmas.{ends_later, found_above, none_above, on_ok_weaker, trails_here, within_pushed}
use Rattle.gds_find.proofs.finding.+go_down.Goals as goal

pub returns-in-Here-clause-found : goal.returns-in-Here-clause-found
returns-in-Here-clause-found g t c image told v tree =
    trails_here _ v c.args.key.now c.args.block c.args.due tree c.in-Here.offset c.in-Here.place
    c.args.trail.now.steps.items c.push.new.self.items c.offset.result c.in_ok-turn.turn c.push.ensures.items
    c.offset.ensures c.in-Here.is (c.in_ok-turn.ensures.turn image told v tree)

pub returns-in-Down-clause-found : goal.returns-in-Down-clause-found
returns-in-Down-clause-found g t c =
    let same = ap image_of c.turn_at.ensures.read.rest in
    on_ok_weaker _ _ c.go_down.result
    (found_above (image_of c.args.base.now) (image_of c.turn_at.new.base) same c.args.draft.now c.args.key.now
    c.args.block c.in-Down.block c.in-Down.level c.args.due c.in_ok-turn.turn c.in-Down.offset c.in-Down.is
    c.in_ok-turn.ensures.turn c.args.trail.now.steps.items c.push.new.self.items c.go_down.new.trail.steps.items
    c.offset.result c.go_down.new.trail.found c.go_down.new.trail.place c.push.ensures.items c.offset.ensures)
    c.go_down.ensures.found

pub returns-in-Down-clause-within : goal.returns-in-Down-clause-within
returns-in-Down-clause-within g t c =
    on_ok_weaker _ _ c.go_down.result
    (λ more all. more (within_pushed c.args.draft.now.header.total c.args.trail.now.steps.items c.push.new.self.items
    c.args.block c.offset.result c.push.ensures.items c.in_ok-turn.ensures.within all)) c.go_down.ensures.within

pub returns-in-Down-clause-ends : goal.returns-in-Down-clause-ends
returns-in-Down-clause-ends g t c =
    let same = ap image_of c.turn_at.ensures.read.rest in
    let h = g.H.Host in
    ends_later (h.failures c.args.base.now.host) (h.failures c.turn_at.new.base.host)
    (h.failures c.go_down.new.base.host) _ _ c.go_down.result c.turn_at.ensures.read.read.failures
    (none_above (image_of c.args.base.now) (image_of c.turn_at.new.base) same c.args.draft.now c.args.key.now
    c.args.block c.in-Down.block c.in-Down.level c.args.due c.in_ok-turn.turn c.in-Down.offset c.in-Down.is
    c.in_ok-turn.ensures.turn) c.go_down.ensures.ends
