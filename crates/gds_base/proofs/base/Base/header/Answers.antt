use Rattle.std.proofs.Common.{subst}
use Rattle.std.specs.Option.{ForSome}
use Rattle.host_model.specs.Moments.{EachLeft}
use Rattle.gds_units.specs.Held.{IsRecoverable}
use Rattle.gds_units.specs.State.{UnitsState}
use Rattle.gds_base.proofs.base.Base.header.Goals as goal

pub returns-clause-found : goal.returns-clause-found
returns-clause-found g c =
    let h = g.H.Host in
    subst (λ (s : UnitsState g.row.H.Denot). ForSome (h.told s.host)
    (λ _. EachLeft h.moment h.left_since s.host IsRecoverable)) c.self.view_is c.header.ensures.found
