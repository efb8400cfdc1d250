use Rattle.std.proofs.Common.{subst}
use Rattle.host_model.proofs.MomentLemmas.{by_saying}
use Rattle.gds_units.specs.Durable.{KeepsSaying}
use Rattle.std.specs.Option.{ForSome}
use Rattle.gds_units.specs.State.{UnitsState}
use Rattle.gds_units.proofs.DurableLemmas.{keeps_saying}
use Rattle.gds_units.proofs.SayingLemmas.{after_saying}
use Rattle.gds_units.proofs.units.Units.say.Goals as goal

pub invariant_of-self : goal.invariant_of-self
invariant_of-self g c =
    let u = c.self.inside in
    after_saying g.met.H.Host.said_stays u.host c.say.new.self u.header u.waiting.units u.before u.epoch_length u.extent
    u.is_stopped c.self.invariant c.args.bytes.now c.say.result c.say.ensures.untold c.say.ensures.said
    c.say.ensures.crash

pub returns-in_err-say-clause-any_moment : goal.returns-in_err-say-clause-any_moment
returns-in_err-say-clause-any_moment g c =
    let h = g.H.Host in
    let u = c.self.inside in
    subst (λ (s : UnitsState g.row.H.Denot). ForSome (h.told s.host)
    (λ _. KeepsSaying h.moment h.left_since c.args.bytes.now s.host c.say.new.self)) c.self.view_is
    (λ x tells. keeps_saying h.moment h.left_since c.args.bytes.now u.host c.say.new.self
    (c.self.invariant.found x tells)
    (by_saying h.moment h.left_since h.failures c.args.bytes.now u.host c.say.new.self c.say.ensures.called))

pub invariant_of-self-2 : goal.invariant_of-self-2
invariant_of-self-2 g c =
    let u = c.self.inside in
    after_saying g.met.H.Host.said_stays u.host c.say.new.self u.header u.waiting.units u.before u.epoch_length u.extent
    u.is_stopped c.self.invariant c.args.bytes.now c.say.result c.say.ensures.untold c.say.ensures.said
    c.say.ensures.crash

pub returns-clause-any_moment : goal.returns-clause-any_moment
returns-clause-any_moment g c =
    let h = g.H.Host in
    let u = c.self.inside in
    subst (λ (s : UnitsState g.row.H.Denot). ForSome (h.told s.host)
    (λ _. KeepsSaying h.moment h.left_since c.args.bytes.now s.host c.say.new.self)) c.self.view_is
    (λ x tells. keeps_saying h.moment h.left_since c.args.bytes.now u.host c.say.new.self
    (c.self.invariant.found x tells)
    (by_saying h.moment h.left_since h.failures c.args.bytes.now u.host c.say.new.self c.say.ensures.called))
