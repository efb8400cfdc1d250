use Rattle.std.proofs.Common.{◌≡◌, sym, ◌∙◌}
use Rattle.std.proofs.lemmas.Result.{err_from_is_err_and}
use Rattle.host_model.specs.Units.{unit_bytes}
use Rattle.host_model.specs.declared.units.UnitTrouble.TheVariants as trouble
use Rattle.gds_units.specs.State.{image_of}
use Rattle.gds_units.proofs.SourcingLemmas.{changed_untold, if_told, same_err}
use Rattle.gds_units.proofs.units.sourcing.UnitsUnitSource.unit.Goals as goal

pub returns-in_err-unit-clause-changed : goal.returns-in_err-unit-clause-changed
returns-in_err-unit-clause-changed g c unit is =
    let exit = err_from_is_err_and c.from_residual.result c.from_residual.ensures.1 in
    let h = g.H.Host in
    let s = c.args.self.now in
    c.hold_told.ensures.untold
    (changed_untold (h.told s.host) (h.failures s.host) (h.failures c.unit.new.self.host) c.in_err-unit.field-0.0 unit
    c.in_err-unit.ensures.cause (sym exit.2 ∙ same_err c.from_residual.result exit.0 (trouble.Changed unit) exit.1 is))

pub returns-clause-bytes : goal.returns-clause-bytes
returns-clause-bytes g c =
    if_told (image_of c.args.self.now) (λ file. c.unit.new.out ≡ unit_bytes file c.args.unit) c.in_ok-unit.ensures.bytes
