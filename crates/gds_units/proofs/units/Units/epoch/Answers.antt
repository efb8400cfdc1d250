use Rattle.std.proofs.Common.{◌∙◌, length, sym, subst}
use Rattle.std.proofs.lemmas.Bool.{eqb-true}
use Rattle.gds_units.specs.Durable.{IsStored, KeepsOrStores}
use Rattle.gds_units.specs.State.{UnitsState, WhereTold}
use Rattle.gds_units.proofs.DurableLemmas.{keeps_none, keeps_or}
use Rattle.gds_units.proofs.HeldLemmas.{after_epoch, after_failure, epoch_moments, epoch_stores, none_waits, ready}
use Rattle.gds_units.proofs.HeldLemmas.{stored_idle}
use Rattle.gds_units.proofs.units.Units.epoch.Goals as goal

pub returns-then-self-clause-any_moment : goal.returns-then-self-clause-any_moment
returns-then-self-clause-any_moment g c =
    let h = g.H.Host in
    subst (λ (s : UnitsState g.row.H.Denot). WhereTold h.told s
    (λ c image. KeepsOrStores h.moment h.left_since image c.said s.host s.host)) c.self.view_is
    (λ x tells image is. keeps_or h.moment h.left_since image x.said c.self.inside.host c.self.inside.host
    (keeps_none h.moment h.left_since c.self.inside.host (c.self.invariant.found x tells)))

pub returns-then-is_empty-clause-stored : goal.returns-then-is_empty-clause-stored
returns-then-is_empty-clause-stored g c =
    let h = g.H.Host in
    let u = c.self.inside in
    subst (λ (s : UnitsState g.row.H.Denot). WhereTold h.told s
    (λ c image. IsStored h.moment h.left_since image c.said s.host)) c.self.view_is
    (stored_idle u.host u.header u.waiting.units u.before u.epoch_length u.extent u.is_stopped c.self.invariant
    c.if-self.false (none_waits u.waiting.units (eqb-true (length u.waiting.units) 0
    (sym c.is_empty.ensures ∙ c.if-is_empty.true))))

pub returns-then-is_empty-clause-any_moment : goal.returns-then-is_empty-clause-any_moment
returns-then-is_empty-clause-any_moment g c =
    let h = g.H.Host in
    subst (λ (s : UnitsState g.row.H.Denot). WhereTold h.told s
    (λ c image. KeepsOrStores h.moment h.left_since image c.said s.host s.host)) c.self.view_is
    (λ x tells image is. keeps_or h.moment h.left_since image x.said c.self.inside.host c.self.inside.host
    (keeps_none h.moment h.left_since c.self.inside.host (c.self.invariant.found x tells)))

pub write_epoch-requires-clause-ready : goal.write_epoch-requires-clause-ready
write_epoch-requires-clause-ready g c =
    let u = c.self.inside in
    ready g.met.H.Host.now_left u.host u.header u.waiting.units u.before u.epoch_length u.extent u.is_stopped
    c.self.invariant c.if-self.false

pub invariant_of-self : goal.invariant_of-self
invariant_of-self g c =
    let u = c.self.inside in
    after_epoch u.host c.write_epoch.new.host u.header u.waiting.units u.before u.epoch_length u.extent u.is_stopped
    c.self.invariant c.if-self.false c.write_epoch.ensures.untold c.in-Ok.ensures.done c.in-Ok.ensures.rest
    c.clear.new.self.units c.clear-in-Ok.new.self c.file_length-self-inside.result c.clear.ensures.empty
    c.clear-in-Ok.ensures c.file_length-self-inside.ensures

pub invariant_of-self-in-Err : goal.invariant_of-self-in-Err
invariant_of-self-in-Err g c =
    let u = c.self.inside in
    after_failure u.host c.write_epoch.new.host u.header u.waiting.units u.before c.write_epoch.new.images
    u.epoch_length u.extent u.is_stopped c.self.invariant c.write_epoch.ensures.images c.write_epoch.ensures.untold
    c.write_epoch.ensures.told c.write_epoch.ensures.any_moment

pub returns-in-Ok-clause-stored : goal.returns-in-Ok-clause-stored
returns-in-Ok-clause-stored g c =
    let h = g.H.Host in
    let u = c.self.inside in
    subst (λ (s : UnitsState g.row.H.Denot). WhereTold h.told s
    (λ x image. IsStored h.moment h.left_since image x.said c.write_epoch.new.host)) c.self.view_is
    (epoch_stores h.told h.moment h.left_since u.host c.write_epoch.new.host u.header.block_size u.waiting.units
    c.in-Ok.ensures.rest)

pub returns-in-Ok-clause-any_moment : goal.returns-in-Ok-clause-any_moment
returns-in-Ok-clause-any_moment g c =
    let h = g.H.Host in
    let u = c.self.inside in
    subst (λ (s : UnitsState g.row.H.Denot). WhereTold h.told s
    (λ x image. KeepsOrStores h.moment h.left_since image x.said s.host c.write_epoch.new.host)) c.self.view_is
    (epoch_moments g.met.H.Host.now_left u.host c.write_epoch.new.host u.header u.waiting.units u.before
    u.epoch_length u.extent u.is_stopped c.self.invariant c.if-self.false c.write_epoch.ensures.any_moment)

pub returns-in-Err-clause-any_moment : goal.returns-in-Err-clause-any_moment
returns-in-Err-clause-any_moment g c =
    let h = g.H.Host in
    let u = c.self.inside in
    subst (λ (s : UnitsState g.row.H.Denot). WhereTold h.told s
    (λ x image. KeepsOrStores h.moment h.left_since image x.said s.host c.write_epoch.new.host)) c.self.view_is
    (epoch_moments g.met.H.Host.now_left u.host c.write_epoch.new.host u.header u.waiting.units u.before
    u.epoch_length u.extent u.is_stopped c.self.invariant c.if-self.false c.write_epoch.ensures.any_moment)
