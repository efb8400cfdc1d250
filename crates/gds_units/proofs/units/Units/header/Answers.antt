use Rattle.std.proofs.Common.{◌≡◌, subst}
use Rattle.std.specs.Option.{ForSome}
use Rattle.host_model.specs.Moments.{EachLeft}
use Rattle.gds_header.specs.Fields.{fields_of}
use Rattle.gds_units.specs.Held.{IsRecoverable}
use Rattle.gds_units.specs.State.{UnitsState, image_of}
use Rattle.gds_units.proofs.HeldLemmas.{image_fields}
use Rattle.gds_units.proofs.units.Units.header.Goals as goal

pub returns-clause-fields : goal.returns-clause-fields
returns-clause-fields g c =
    subst (λ (s : UnitsState g.row.H.Denot). ForSome (image_of s) (λ image. fields_of image ≡ s.header)) c.self.view_is
    (image_fields c.self.inside.header c.self.inside.waiting.units c.self.inside.extent
    (g.H.Host.told c.self.inside.host) c.self.invariant.held)

pub returns-clause-found : goal.returns-clause-found
returns-clause-found g c =
    subst (λ (s : UnitsState g.row.H.Denot). ForSome (g.H.Host.told s.host)
    (λ _. EachLeft g.H.Host.moment g.H.Host.left_since s.host IsRecoverable)) c.self.view_is c.self.invariant.found
