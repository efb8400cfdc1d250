use Rattle.std.proofs.Common.{length, subst, sym}
use Rattle.std.specs.Option.{ForSome}
use Rattle.host_model.specs.Units.{IsUnit}
use Rattle.gds_units.specs.State.{UnitsState, image_of}
use Rattle.gds_base.proofs.calls.BaseUnitSource.unit.Goals as goal

pub unit-requires : goal.unit-requires
unit-requires g c =
    subst (λ (s : UnitsState g.row.H.Denot). ForSome (image_of s)
    (λ file. IsUnit file c.args.unit (length c.args.out.now))) (sym c.self.view_is) c.requires
