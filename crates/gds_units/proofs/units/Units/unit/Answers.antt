use Rattle.std.proofs.Common.{◌≡◌, ◌∙◌, length, sym, ap, subst}
use Rattle.std.specs.Option.{ForSome, option_copied}
use Rattle.std.proofs.lemmas.Result.{on_ok_weaker}
use Rattle.host_model.specs.Units.{IsUnit, unit_bytes}
use Rattle.gds_units.specs.Ending.{EndsReading}
use Rattle.gds_units.specs.State.{UnitsState, image_of}
use Rattle.gds_units.proofs.ReadingLemmas.{after_reading, asked_within, copy_ends, given_read, given_waiting}
use Rattle.gds_units.proofs.units.Units.unit.Goals as goal

pub read_unit-requires : goal.read_unit-requires
read_unit-requires g c =
    let u = c.self.inside in
    let n = length c.args.out.now in
    let asked = subst (λ (s : UnitsState g.row.H.Denot). ForSome (image_of s) (λ image. IsUnit image c.args.unit n))
    (sym c.self.view_is) c.requires in
    λ x tells. asked_within u.header u.waiting.units u.epoch_length u.extent u.before c.self.invariant.places
    (g.H.Host.told u.host) c.self.invariant.held c.args.unit n asked x tells

pub invariant_of-self : goal.invariant_of-self
invariant_of-self g c =
    let u = c.self.inside in
    after_reading u.host c.read_unit.new.host u.header u.waiting.units u.before u.epoch_length u.extent u.is_stopped
    c.self.invariant c.read_unit.ensures.read.told c.read_unit.ensures.crash.stays

pub returns-in-Some-clause-bytes : goal.returns-in-Some-clause-bytes
returns-in-Some-clause-bytes g c =
    let u = c.self.inside in
    let n = length c.args.out.now in
    let asked = subst (λ (s : UnitsState g.row.H.Denot). ForSome (image_of s) (λ image. IsUnit image c.args.unit n))
    (sym c.self.view_is) c.requires in
    on_ok_weaker c.copy_unit.result
    (λ is. subst (λ (s : UnitsState g.row.H.Denot). ForSome (image_of s)
    (λ image. c.copy_unit.new.out ≡ unit_bytes image c.args.unit)) c.self.view_is
    (given_waiting u.header u.waiting.units u.epoch_length u.extent u.before c.self.invariant.places
    (g.H.Host.told u.host) c.self.invariant.held c.args.unit n asked c.in-Some.bytes.now c.copy_unit.new.out
    c.find.ensures.rising (sym c.find.ensures.bytes ∙ ap option_copied c.in-Some.is) is))
    c.copy_unit.ensures.same

pub returns-in-Some-clause-cause : goal.returns-in-Some-clause-cause
returns-in-Some-clause-cause g c =
    let u = c.self.inside in
    let n = length c.args.out.now in
    let asked = subst (λ (s : UnitsState g.row.H.Denot). ForSome (image_of s) (λ image. IsUnit image c.args.unit n))
    (sym c.self.view_is) c.requires in
    subst (λ (s : UnitsState g.row.H.Denot). EndsReading (g.H.Host.told s.host) (g.H.Host.failures s.host)
    (g.H.Host.failures s.host) c.copy_unit.result) c.self.view_is
    (copy_ends u.header u.waiting.units u.epoch_length u.extent u.before c.self.invariant.places
    (g.H.Host.told u.host) c.self.invariant.held c.args.unit n asked (g.H.Host.failures u.host)
    (g.H.Host.failures u.host) c.in-Some.bytes.now c.copy_unit.result
    (sym c.find.ensures.bytes ∙ ap option_copied c.in-Some.is) c.copy_unit.ensures.err)

pub returns-in-None-clause-bytes : goal.returns-in-None-clause-bytes
returns-in-None-clause-bytes g c =
    let u = c.self.inside in
    let n = length c.args.out.now in
    let asked = subst (λ (s : UnitsState g.row.H.Denot). ForSome (image_of s) (λ image. IsUnit image c.args.unit n))
    (sym c.self.view_is) c.requires in
    on_ok_weaker c.read_unit.result
    (λ is. subst (λ (s : UnitsState g.row.H.Denot). ForSome (image_of s)
    (λ image. c.read_unit.new.out ≡ unit_bytes image c.args.unit)) c.self.view_is
    (given_read u.header u.waiting.units u.epoch_length u.extent u.before c.self.invariant.places
    (g.H.Host.told u.host) c.self.invariant.held c.args.unit n asked c.read_unit.new.out
    c.read_unit.ensures.len (sym c.find.ensures.bytes ∙ ap option_copied c.in-None.is) is))
    c.read_unit.ensures.bytes
