use Rattle.std.proofs.Common.{◌≡◌, ◌∙◌, true, ap, subst, arith}
use Rattle.gds_units.specs.Durable.{Keeps}
use Rattle.gds_units.specs.State.{UnitsState, WhereTold, file_with, image_of}
use Rattle.std.specs.Prelude.{option_map}
use Rattle.gds_epoch.specs.Epoch.{database_of}
use Rattle.gds_units.proofs.DurableLemmas.{keeps_none}
use Rattle.gds_units.proofs.HeldLemmas.{after_front, front_image, front_reach, keeps_front, idle_within}
use Rattle.gds_units.proofs.units.Units.shorten.Goals as goal

pub returns-then-self-clause-any_moment : goal.returns-then-self-clause-any_moment
returns-then-self-clause-any_moment g c =
    let h = g.H.Host in
    subst (λ (s : UnitsState g.row.H.Denot). WhereTold h.told s
    (λ x image. Keeps h.moment h.left_since s.host s.host)) c.self.view_is
    (λ x tells image is. keeps_none h.moment h.left_since c.self.inside.host (c.self.invariant.found x tells))

pub invariant_of-self : goal.invariant_of-self
invariant_of-self g c =
    let u = c.self.inside in
    let n = c.file_length-self-inside.result in
    let is_n = c.file_length-self-inside.ensures in
    let e = c.shorten_file.ensures in
    let within = idle_within u.header u.epoch_length u.extent u.before u.waiting.units c.self.invariant.places
    (ap (λ (s : UnitsState g.row.H.Denot). s.changed) c.self.view_is ∙ c.requires) c.file_length-self-inside.result
    c.file_length-self-inside.ensures in
    after_front u.host c.shorten_file.new.host u.header u.waiting.units u.before u.epoch_length u.extent u.is_stopped
    c.self.invariant c.if-self.false n is_n within e.untold e.told e.any_moment n u.is_stopped (omega arith)
    (omega (arith, c.self.invariant.places.now, c.self.invariant.places.short, is_n))
    (λ x y old new kept. front_reach u.host c.shorten_file.new.host u.header u.waiting.units u.before u.epoch_length
    u.extent u.is_stopped c.self.invariant c.if-self.false n is_n within e.untold e.told x y old kept)

pub invariant_of-self-in-Err : goal.invariant_of-self-in-Err
invariant_of-self-in-Err g c =
    let u = c.self.inside in
    let n = c.file_length-self-inside.result in
    let is_n = c.file_length-self-inside.ensures in
    let e = c.shorten_file.ensures in
    let within = idle_within u.header u.epoch_length u.extent u.before u.waiting.units c.self.invariant.places
    (ap (λ (s : UnitsState g.row.H.Denot). s.changed) c.self.view_is ∙ c.requires) c.file_length-self-inside.result
    c.file_length-self-inside.ensures in
    after_front u.host c.shorten_file.new.host u.header u.waiting.units u.before u.epoch_length u.extent u.is_stopped
    c.self.invariant c.if-self.false n is_n within e.untold e.told e.any_moment n true (omega arith)
    (omega (arith, c.self.invariant.places.now, c.self.invariant.places.short, is_n))
    (λ x y old new kept. front_reach u.host c.shorten_file.new.host u.header u.waiting.units u.before u.epoch_length
    u.extent u.is_stopped c.self.invariant c.if-self.false n is_n within e.untold e.told x y old kept)

pub returns-in-Ok-clause-any_moment : goal.returns-in-Ok-clause-any_moment
returns-in-Ok-clause-any_moment g c =
    let h = g.H.Host in
    let u = c.self.inside in
    let e = c.shorten_file.ensures in
    let within = idle_within u.header u.epoch_length u.extent u.before u.waiting.units c.self.invariant.places
    (ap (λ (s : UnitsState g.row.H.Denot). s.changed) c.self.view_is ∙ c.requires) c.file_length-self-inside.result
    c.file_length-self-inside.ensures in
    subst (λ (s : UnitsState g.row.H.Denot). WhereTold h.told s
    (λ x image. Keeps h.moment h.left_since s.host c.shorten_file.new.host)) c.self.view_is
    (λ x tells image is. keeps_front u.host c.shorten_file.new.host u.header u.waiting.units u.before u.epoch_length
    u.extent u.is_stopped c.self.invariant c.if-self.false c.file_length-self-inside.result
    c.file_length-self-inside.ensures within e.untold e.told e.any_moment g.met.H.Host.now_left x tells)

pub returns-in-Err-clause-image : goal.returns-in-Err-clause-image
returns-in-Err-clause-image g c =
    let h = g.H.Host in
    let u = c.self.inside in
    let e = c.shorten_file.ensures in
    let within = idle_within u.header u.epoch_length u.extent u.before u.waiting.units c.self.invariant.places
    (ap (λ (s : UnitsState g.row.H.Denot). s.changed) c.self.view_is ∙ c.requires) c.file_length-self-inside.result
    c.file_length-self-inside.ensures in
    subst (λ (s : UnitsState g.row.H.Denot). option_map database_of (file_with u.header.block_size u.waiting.units
    (h.told c.shorten_file.new.host)) ≡ image_of s) c.self.view_is
    (front_image u.host c.shorten_file.new.host u.header u.waiting.units u.before u.epoch_length
    u.extent u.is_stopped c.self.invariant c.if-self.false c.file_length-self-inside.result
    c.file_length-self-inside.ensures within e.untold e.told)

pub returns-in-Err-clause-any_moment : goal.returns-in-Err-clause-any_moment
returns-in-Err-clause-any_moment g c =
    let h = g.H.Host in
    let u = c.self.inside in
    let e = c.shorten_file.ensures in
    let within = idle_within u.header u.epoch_length u.extent u.before u.waiting.units c.self.invariant.places
    (ap (λ (s : UnitsState g.row.H.Denot). s.changed) c.self.view_is ∙ c.requires) c.file_length-self-inside.result
    c.file_length-self-inside.ensures in
    subst (λ (s : UnitsState g.row.H.Denot). WhereTold h.told s
    (λ x image. Keeps h.moment h.left_since s.host c.shorten_file.new.host)) c.self.view_is
    (λ x tells image is. keeps_front u.host c.shorten_file.new.host u.header u.waiting.units u.before u.epoch_length
    u.extent u.is_stopped c.self.invariant c.if-self.false c.file_length-self-inside.result
    c.file_length-self-inside.ensures within e.untold e.told e.any_moment g.met.H.Host.now_left x tells)
