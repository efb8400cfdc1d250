use Rattle.std.proofs.Common.{◌≡◌, length, subst, refl, List, ℕ}
use Rattle.std.specs.Option.{ForSome}
use Rattle.host_model.specs.Units.{unit_bytes}
use Rattle.gds_units.specs.State.{UnitsState, image_of}
use Rattle.gds_units.proofs.ReadingLemmas.{given_waiting, lent, waiting_asked}
use Rattle.gds_units.proofs.units.Units.lend.Goals as goal

pub returns : goal.returns
returns g c =
    let u = c.self.inside in
    let told = g.H.Host.told u.host in
    lent (λ (bytes : List ℕ). ForSome (image_of c.args.self.now) (λ image. bytes ≡ unit_bytes image c.args.unit))
    c.find.result u.waiting.units c.args.unit c.find.ensures.bytes
    (λ bytes found. subst (λ (s : UnitsState g.row.H.Denot). ForSome (image_of s)
    (λ image. bytes ≡ unit_bytes image c.args.unit)) c.self.view_is
    (given_waiting u.header u.waiting.units u.epoch_length u.extent u.before c.self.invariant.places told
    c.self.invariant.held c.args.unit (length bytes)
    (waiting_asked u.header u.waiting.units u.epoch_length u.extent u.before c.self.invariant.places told
    c.self.invariant.held c.args.unit bytes found)
    bytes bytes c.find.ensures.rising found refl))
