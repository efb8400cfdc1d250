use Rattle.std.proofs.Common.{◌≡◌, ◌≤◌, true, sym, subst, arith, replicate, ◌-◌}
use Rattle.std.specs.Prelude.{option_map}
use Rattle.std.proofs.Math.Nat.{mul-le-mul_right}
use Rattle.host_model.specs.Disk.{written}
use Rattle.host_model.specs.Told.{TellsOn}
use Rattle.gds_header.specs.Fields.{file_length_of, place_of}
use Rattle.gds_epoch.specs.Epoch.{database_of}
use Rattle.gds_epoch.specs.Length.{with_zeros}
use Rattle.gds_units.specs.Durable.{Keeps}
use Rattle.gds_units.specs.State.{UnitsState, WhereTold, file_with, image_of}
use Rattle.gds_units.proofs.DurableLemmas.{keeps_none}
use Rattle.gds_units.proofs.HeldLemmas.{after_front, front_image, front_reach, grown_file, grown_reach, keeps_front}
use Rattle.gds_units.proofs.HeldLemmas.{tells_both}
use Rattle.gds_units.proofs.units.Units.grow_behind.Goals as goal

pub returns-then-self-clause-any_moment : goal.returns-then-self-clause-any_moment
returns-then-self-clause-any_moment g c =
    let h = g.H.Host in
    subst (λ (s : UnitsState g.row.H.Denot). WhereTold h.told s
    (λ x image. Keeps h.moment h.left_since s.host s.host)) c.self.view_is
    (λ x tells image is. keeps_none h.moment h.left_since c.self.inside.host (c.self.invariant.found x tells))

pub invariant_of-self : goal.invariant_of-self
invariant_of-self g c =
    let h = g.H.Host in
    let u = c.self.inside in
    let n = c.file_length-from.result in
    let is_n = c.file_length-from.ensures in
    let e = c.grow_file.ensures in
    let within : u.epoch_length ≤ n =
    omega (
      arith,
      subst (λ (s : UnitsState g.row.H.Denot). s.epoch ≤ file_length_of s.header) (sym c.self.view_is)
          c.requires.epoch,
      is_n,
    ) in
    let to = c.length_with-to.result in
    let more : n ≤ to =
    omega (
      arith,
      is_n,
      c.length_with-to.ensures.length,
      mul-le-mul_right u.header.block_size
          (subst (λ (s : UnitsState g.row.H.Denot). s.header.total ≤ c.args.total) (sym c.self.view_is)
          (omega (arith, c.requires.more))),
    ) in
    after_front u.host c.grow_file.new.host u.header u.waiting.units u.before u.epoch_length
    u.extent u.is_stopped c.self.invariant c.if-self.false n is_n within e.untold e.told e.any_moment to u.is_stopped
    more
    c.length_with-to.ensures.short
    (λ x y old new kept. grown_reach n to x y
    (omega (arith, is_n, c.self.invariant.places.now, (c.self.invariant.held x old).long))
    (tells_both (h.told u.host) (h.told c.grow_file.new.host) (λ a b. b ≡ with_zeros n to a) x y old new
    c.in-Ok.ensures.grown))

pub invariant_of-self-in-Err : goal.invariant_of-self-in-Err
invariant_of-self-in-Err g c =
    let h = g.H.Host in
    let u = c.self.inside in
    let n = c.file_length-from.result in
    let is_n = c.file_length-from.ensures in
    let e = c.grow_file.ensures in
    let within : u.epoch_length ≤ n =
    omega (
      arith,
      subst (λ (s : UnitsState g.row.H.Denot). s.epoch ≤ file_length_of s.header) (sym c.self.view_is)
          c.requires.epoch,
      is_n,
    ) in
    after_front u.host c.grow_file.new.host u.header u.waiting.units u.before u.epoch_length
    u.extent u.is_stopped c.self.invariant c.if-self.false n is_n within e.untold e.told e.any_moment n true
    (omega arith)
    (omega (arith, c.self.invariant.places.now, c.self.invariant.places.short, is_n))
    (λ x y old new kept. front_reach u.host c.grow_file.new.host u.header u.waiting.units u.before u.epoch_length
    u.extent u.is_stopped c.self.invariant c.if-self.false n is_n within e.untold e.told x y old kept)

pub returns-in-Ok-clause-image : goal.returns-in-Ok-clause-image
returns-in-Ok-clause-image g c =
    let h = g.H.Host in
    let u = c.self.inside in
    let n = c.file_length-from.result in
    let is_n = c.file_length-from.ensures in
    let e = c.grow_file.ensures in
    let within : u.epoch_length ≤ n =
    omega (
      arith,
      subst (λ (s : UnitsState g.row.H.Denot). s.epoch ≤ file_length_of s.header) (sym c.self.view_is)
          c.requires.epoch,
      is_n,
    ) in
    subst (λ (s : UnitsState g.row.H.Denot). option_map database_of (file_with u.header.block_size u.waiting.units
    (h.told c.grow_file.new.host)) ≡ image_of s) c.self.view_is
    (front_image u.host c.grow_file.new.host u.header u.waiting.units u.before u.epoch_length
    u.extent u.is_stopped c.self.invariant c.if-self.false n is_n within e.untold e.told)

pub returns-in-Ok-clause-file : goal.returns-in-Ok-clause-file
returns-in-Ok-clause-file g c =
    let h = g.H.Host in
    let u = c.self.inside in
    let n = c.file_length-from.result in
    let is_n = c.file_length-from.ensures in
    subst (λ (s : UnitsState g.row.H.Denot). TellsOn s.file (file_with u.header.block_size u.waiting.units
    (h.told c.grow_file.new.host)) (λ a b. b ≡ written (file_length_of s.header)
    (replicate (place_of s.header c.args.total - file_length_of s.header) 0) a)) c.self.view_is
    (grown_file u.header u.waiting.units n c.length_with-to.result c.args.total (h.told u.host)
    (h.told c.grow_file.new.host) is_n c.length_with-to.ensures.length c.self.invariant.places.inside
    (λ x tells. omega (arith, is_n, c.self.invariant.places.now, (c.self.invariant.held x tells).long))
    c.in-Ok.ensures.grown)

pub returns-in-Ok-clause-any_moment : goal.returns-in-Ok-clause-any_moment
returns-in-Ok-clause-any_moment g c =
    let h = g.H.Host in
    let u = c.self.inside in
    let n = c.file_length-from.result in
    let is_n = c.file_length-from.ensures in
    let e = c.grow_file.ensures in
    let within : u.epoch_length ≤ n =
    omega (
      arith,
      subst (λ (s : UnitsState g.row.H.Denot). s.epoch ≤ file_length_of s.header) (sym c.self.view_is)
          c.requires.epoch,
      is_n,
    ) in
    subst (λ (s : UnitsState g.row.H.Denot). WhereTold h.told s
    (λ x image. Keeps h.moment h.left_since s.host c.grow_file.new.host)) c.self.view_is
    (λ x tells image is. keeps_front u.host c.grow_file.new.host u.header u.waiting.units u.before u.epoch_length
    u.extent u.is_stopped c.self.invariant c.if-self.false n is_n within e.untold e.told e.any_moment
    g.met.H.Host.now_left x tells)

pub returns-in-Err-clause-image : goal.returns-in-Err-clause-image
returns-in-Err-clause-image g c =
    let h = g.H.Host in
    let u = c.self.inside in
    let n = c.file_length-from.result in
    let is_n = c.file_length-from.ensures in
    let e = c.grow_file.ensures in
    let within : u.epoch_length ≤ n =
    omega (
      arith,
      subst (λ (s : UnitsState g.row.H.Denot). s.epoch ≤ file_length_of s.header) (sym c.self.view_is)
          c.requires.epoch,
      is_n,
    ) in
    subst (λ (s : UnitsState g.row.H.Denot). option_map database_of (file_with u.header.block_size u.waiting.units
    (h.told c.grow_file.new.host)) ≡ image_of s) c.self.view_is
    (front_image u.host c.grow_file.new.host u.header u.waiting.units u.before u.epoch_length
    u.extent u.is_stopped c.self.invariant c.if-self.false n is_n within e.untold e.told)

pub returns-in-Err-clause-any_moment : goal.returns-in-Err-clause-any_moment
returns-in-Err-clause-any_moment g c =
    let h = g.H.Host in
    let u = c.self.inside in
    let n = c.file_length-from.result in
    let is_n = c.file_length-from.ensures in
    let e = c.grow_file.ensures in
    let within : u.epoch_length ≤ n =
    omega (
      arith,
      subst (λ (s : UnitsState g.row.H.Denot). s.epoch ≤ file_length_of s.header) (sym c.self.view_is)
          c.requires.epoch,
      is_n,
    ) in
    subst (λ (s : UnitsState g.row.H.Denot). WhereTold h.told s
    (λ x image. Keeps h.moment h.left_since s.host c.grow_file.new.host)) c.self.view_is
    (λ x tells image is. keeps_front u.host c.grow_file.new.host u.header u.waiting.units u.before u.epoch_length
    u.extent u.is_stopped c.self.invariant c.if-self.false n is_n within e.untold e.told e.any_moment
    g.met.H.Host.now_left x tells)
