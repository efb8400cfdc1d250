use Rattle.std.proofs.Common.{subst}
use Rattle.gds_units.specs.Durable.{Keeps}
use Rattle.gds_units.specs.State.{UnitsState, WhereTold}
use Rattle.gds_base.proofs.base.Base.shorten.Goals as goal

pub returns-in_err-shorten-clause-any_moment : goal.returns-in_err-shorten-clause-any_moment
returns-in_err-shorten-clause-any_moment g c =
    let h = g.H.Host in
    subst (λ (s : UnitsState g.row.H.Denot). WhereTold h.told s (λ x image.
    Keeps h.moment h.left_since s.host c.shorten.new.self.host)) c.self.view_is c.shorten.ensures.any_moment

pub returns-clause-any_moment : goal.returns-clause-any_moment
returns-clause-any_moment g c =
    let h = g.H.Host in
    subst (λ (s : UnitsState g.row.H.Denot). WhereTold h.told s (λ x image.
    Keeps h.moment h.left_since s.host c.shorten.new.self.host)) c.self.view_is c.shorten.ensures.any_moment
