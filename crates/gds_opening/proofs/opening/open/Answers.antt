use Rattle.std.specs.Prelude.{IsSome}
use Rattle.std.specs.Option.{ForSome}
use Rattle.std.proofs.lemmas.Result.{IfErr-weaker, err_from_is_err_and}
use Rattle.gds_sound.specs.Sound.{HasOneMap}
use Rattle.gds_opening.proofs.CauseLemmas.{any_ok, image_is_some, of_base, on_err, opening_cause, reading_cause}
use Rattle.gds_opening.proofs.MomentLemmas.{opening_keeps}
use Rattle.gds_units.specs.State.{image_of}
use Rattle.gds_opening.proofs.opening.open.Goals as goal

pub returns-in_err-units-clause-cause : goal.returns-in_err-units-clause-cause
returns-in_err-units-clause-cause g c =
    let exit = err_from_is_err_and c.from_residual.result c.from_residual.ensures.1 in
    let h = g.H.Host in
    let back = c.in_err-units.field-0.0 in
    on_err c.from_residual.result _ exit.0 back exit.1 exit.2
    (opening_cause (h.told c.args.host) (h.failures c.args.host) (h.failures back.host) back.error
    c.in_err-units.ensures.cause)

pub returns-clause-there : goal.returns-clause-there
returns-clause-there g c =
    let told = g.H.Host.told in
    let units = c.in_ok-units.units in
    let some = image_is_some (told c.args.host) (told units.host) (image_of units) c.in_ok-units.ensures.image
    c.in_ok-units.ensures.same c.hold_told.ensures.tells in
    of_base c.without_faults.result units (λ image. ForSome (told c.args.host) (λ _. IsSome image))
    c.without_faults.ensures.base (any_ok c.without_faults.result _ some)

pub returns-clause-one_map : goal.returns-clause-one_map
returns-clause-one_map g c =
    of_base c.without_faults.result c.in_ok-units.units (λ image. ForSome image HasOneMap)
    c.without_faults.ensures.base c.without_faults.ensures.one_map

pub returns-clause-any_moment : goal.returns-clause-any_moment
returns-clause-any_moment g c x tells =
    let h = g.H.Host in
    opening_keeps h.told h.moment h.left_since g.met.H.Host.longer c.args.host c.in_ok-units.units
    c.without_faults.result x tells (c.in_ok-units.ensures.any_moment x tells) c.in_ok-units.ensures.same
    c.in_ok-units.ensures.stable c.without_faults.ensures.crash

pub returns-clause-cause : goal.returns-clause-cause
returns-clause-cause g c =
    let h = g.H.Host in
    let units = c.in_ok-units.units in
    IfErr-weaker c.without_faults.result _ _
    (λ returned cause. reading_cause (h.told c.args.host) (h.told units.host) (image_of units)
    c.in_ok-units.ensures.image c.in_ok-units.ensures.same c.hold_told.ensures.tells (h.failures c.args.host)
    (h.failures units.host) (h.failures returned.host) returned.error c.in_ok-units.ensures.failures cause)
    c.without_faults.ensures.cause
