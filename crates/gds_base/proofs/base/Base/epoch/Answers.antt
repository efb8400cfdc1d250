use Rattle.std.proofs.Common.{subst}
use Rattle.gds_units.specs.Durable.{IsStored, KeepsOrStores}
use Rattle.gds_units.specs.State.{UnitsState, WhereTold}
use Rattle.gds_base.proofs.base.Base.epoch.Goals as goal

pub returns-in_err-epoch-clause-any_moment : goal.returns-in_err-epoch-clause-any_moment
returns-in_err-epoch-clause-any_moment g c =
    let h = g.H.Host in
    subst (λ (s : UnitsState g.row.H.Denot). WhereTold h.told s (λ x image.
    KeepsOrStores h.moment h.left_since image x.said s.host c.epoch.new.self.host)) c.self.view_is
    c.epoch.ensures.any_moment

pub returns-clause-stored : goal.returns-clause-stored
returns-clause-stored g c =
    let h = g.H.Host in
    subst (λ (s : UnitsState g.row.H.Denot). WhereTold h.told s (λ x image.
    IsStored h.moment h.left_since image x.said c.epoch.new.self.host)) c.self.view_is c.in_ok-epoch.ensures.stored

pub returns-clause-any_moment : goal.returns-clause-any_moment
returns-clause-any_moment g c =
    let h = g.H.Host in
    subst (λ (s : UnitsState g.row.H.Denot). WhereTold h.told s (λ x image.
    KeepsOrStores h.moment h.left_since image x.said s.host c.epoch.new.self.host)) c.self.view_is
    c.epoch.ensures.any_moment
