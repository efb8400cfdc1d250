use Rattle.std.proofs.Common.{◌≡◌, [], ◌∷◌, Some, sym, subst, take}
use Rattle.std.specs.Prelude.{All}
use Rattle.host_model.specs.declared.host.FileNo.TheVariants.{Db, Images}
use Rattle.host_model.specs.Disk.{Changes, Settles, Writes}
use Rattle.host_model.specs.Files.{Contents}
use Rattle.host_model.specs.Moments.{HasCome, LeavesBy}
use Rattle.host_model.specs.Told.{TellsOn}
use Rattle.host_model.proofs.OutcomeLemmas.{when_ok}
use Rattle.gds_images.specs.Group.{group_bytes}
use Rattle.host_model.proofs.ChainLemmas.{come_now}
use Rattle.std.proofs.lemmas.Result.{on_ok_weaker}
use Rattle.gds_epoch.specs.Epoch.{FindsEither}
use Rattle.gds_epoch.specs.Waiting.{LiesWithin, patched}
use Rattle.gds_epoch.proofs.EpochLemmas.{IsFilled, each_rests, end_come, filled_finds, gate_moments}
use Rattle.gds_epoch.proofs.EpochLemmas.{grouping_moments, units_moments, with_gate, with_group}
use Rattle.gds_epoch.proofs.EpochToldLemmas.{gate_place, group_place, images_settled, last_place, stays_first}
use Rattle.gds_epoch.proofs.EpochToldLemmas.{stays_images, stays_units, tells_gate, tells_group, tells_units}
use Rattle.gds_epoch.proofs.EpochToldLemmas.{told_done, units_inside, units_settled, with_units}
use Rattle.gds_epoch.proofs.UnitLemmas.{UnitsTorn}
use Rattle.gds_epoch.proofs.epoch.write_epoch.Given.{Over}
use Rattle.gds_epoch.proofs.epoch.write_epoch.Goals as goal

-- ---- What the calls ask for.

pub append_group-requires-clause-gate : goal.append_group-requires-clause-gate
append_group-requires-clause-gate g c x tells =
    group_place c.args.block_size c.args.epoch_length c.args.images.now c.args.waiting.now.units x
    (c.requires.ready x tells)

pub open_gate-requires : goal.open_gate-requires
open_gate-requires g c =
    let zero = g.H.Host.told c.args.host.now in
    let one = g.H.Host.told c.append_group.new.host in
    gate_place c.args.block_size c.args.epoch_length c.args.images.now c.args.waiting.now.units zero c.requires.ready
    c.requires.short c.append_group.ensures.ends one c.append_group.ensures.untold
    (tells_group c.args.epoch_length c.args.images.now zero one c.in_ok-append_group.ensures.told)

pub write_units-requires : goal.write_units-requires
write_units-requires g c =
    let n = c.args.epoch_length in
    let images = c.args.images.now in
    let zero = g.H.Host.told c.args.host.now in
    let one = g.H.Host.told c.append_group.new.host in
    let two = g.H.Host.told c.open_gate.new.host in
    λ y tells.
    subst (All (LiesWithin c.args.block_size _)) (sym c.as_slice.ensures.units)
    (units_inside c.args.block_size n images c.args.waiting.now.units zero c.requires.ready
    c.requires.short c.append_group.ensures.ends two
    (λ none. c.open_gate.ensures.untold (c.append_group.ensures.untold none))
    (tells_gate (with_group n images) 1 zero one two
    (tells_group n images zero one c.in_ok-append_group.ensures.told) c.in_ok-open_gate.ensures.told) y tells)

pub close_gate-requires : goal.close_gate-requires
close_gate-requires g c =
    let size = c.args.block_size in
    let n = c.args.epoch_length in
    let images = c.args.images.now in
    let units = c.args.waiting.now.units in
    let zero = g.H.Host.told c.args.host.now in
    let one = g.H.Host.told c.append_group.new.host in
    let two = g.H.Host.told c.open_gate.new.host in
    let three = g.H.Host.told c.write_units.new.host in
    last_place size n images units zero c.requires.ready c.requires.short c.append_group.ensures.ends three
    (λ none. c.write_units.ensures.untold (c.open_gate.ensures.untold (c.append_group.ensures.untold none)))
    (tells_units (λ x. with_gate 1 (with_group n images x)) size units zero two three
    (tells_gate (with_group n images) 1 zero one two
    (tells_group n images zero one c.in_ok-append_group.ensures.told) c.in_ok-open_gate.ensures.told)
    (subst (λ us. TellsOn two three (λ x y. y ≡ with_units size us x)) c.as_slice.ensures.units
    c.in_ok-write_units.ensures.written))

-- ---- What is told at each exit.

pub returns-in_err-append_group-clause-told : goal.returns-in_err-append_group-clause-told
returns-in_err-append_group-clause-told g c =
    stays_first c.args.block_size c.args.waiting.now.units (g.H.Host.told c.args.host.now)
    (g.H.Host.told c.append_group.new.host)
    (Writes 9 (group_bytes 8 c.args.epoch_length c.args.images.now) c.append_group.result) c.append_group.ensures.told

pub returns-in_err-open_gate-clause-told : goal.returns-in_err-open_gate-clause-told
returns-in_err-open_gate-clause-told g c =
    let size = c.args.block_size in
    let units = c.args.waiting.now.units in
    let zero = g.H.Host.told c.args.host.now in
    let one = g.H.Host.told c.append_group.new.host in
    stays_images size units zero one (g.H.Host.told c.open_gate.new.host) (Writes 8 (1 ∷ []) c.open_gate.result)
    (stays_first size units zero one
    (Writes 9 (group_bytes 8 c.args.epoch_length c.args.images.now) c.append_group.result) c.append_group.ensures.told)
    c.open_gate.ensures.told

pub returns-in_err-write_units-clause-told : goal.returns-in_err-write_units-clause-told
returns-in_err-write_units-clause-told g c =
    let size = c.args.block_size in
    let units = c.args.waiting.now.units in
    let zero = g.H.Host.told c.args.host.now in
    let one = g.H.Host.told c.append_group.new.host in
    let two = g.H.Host.told c.open_gate.new.host in
    let three = g.H.Host.told c.write_units.new.host in
    stays_units size units zero two three (λ x tells. (c.requires.ready x tells).inside)
    (stays_images size units zero one two (Writes 8 (1 ∷ []) c.open_gate.result)
    (stays_first size units zero one
    (Writes 9 (group_bytes 8 c.args.epoch_length c.args.images.now) c.append_group.result) c.append_group.ensures.told)
    c.open_gate.ensures.told)
    (subst (λ us. TellsOn two three (UnitsTorn size us)) c.as_slice.ensures.units c.write_units.ensures.told)

pub returns-clause-told : goal.returns-clause-told
returns-clause-told g c =
    let size = c.args.block_size in
    let units = c.args.waiting.now.units in
    let zero = g.H.Host.told c.args.host.now in
    let one = g.H.Host.told c.append_group.new.host in
    let two = g.H.Host.told c.open_gate.new.host in
    let three = g.H.Host.told c.write_units.new.host in
    stays_images size units zero three (g.H.Host.told c.close_gate.new.host) (Writes 8 (0 ∷ []) c.close_gate.result)
    (stays_units size units zero two three (λ x tells. (c.requires.ready x tells).inside)
    (stays_images size units zero one two (Writes 8 (1 ∷ []) c.open_gate.result)
    (stays_first size units zero one
    (Writes 9 (group_bytes 8 c.args.epoch_length c.args.images.now) c.append_group.result) c.append_group.ensures.told)
    c.open_gate.ensures.told)
    (subst (λ us. TellsOn two three (UnitsTorn size us)) c.as_slice.ensures.units c.write_units.ensures.told))
    c.close_gate.ensures.told

pub returns-clause-done : goal.returns-clause-done
returns-clause-done g c =
    let size = c.args.block_size in
    let n = c.args.epoch_length in
    let images = c.args.images.now in
    let units = c.args.waiting.now.units in
    let zero = g.H.Host.told c.args.host.now in
    let one = g.H.Host.told c.append_group.new.host in
    let two = g.H.Host.told c.open_gate.new.host in
    let three = g.H.Host.told c.write_units.new.host in
    let four = g.H.Host.told c.close_gate.new.host in
    when_ok (λ r. TellsOn three four (Changes Images (Writes 8 (0 ∷ []) r))) c.close_gate.result
    c.close_gate.ensures.told
    (λ ok told.
    told_done size n images units zero c.requires.ready c.requires.short c.append_group.ensures.ends three
    (λ none. c.write_units.ensures.untold (c.open_gate.ensures.untold (c.append_group.ensures.untold none)))
    (tells_units (λ x. with_gate 1 (with_group n images x)) size units zero two three
    (tells_gate (with_group n images) 1 zero one two
    (tells_group n images zero one c.in_ok-append_group.ensures.told) c.in_ok-open_gate.ensures.told)
    (subst (λ us. TellsOn two three (λ x y. y ≡ with_units size us x)) c.as_slice.ensures.units
    c.in_ok-write_units.ensures.written))
    four told)

-- ---- What each crash leaves, at each exit.

pub returns-in_err-append_group-clause-any_moment : goal.returns-in_err-append_group-clause-any_moment
returns-in_err-append_group-clause-any_moment g c =
    λ now tells.
    grouping_moments c.args.block_size c.args.epoch_length c.args.images.now c.args.waiting.now.units now
    (c.requires.ready now tells) c.requires.short c.append_group.ensures.ends g.met.H.Host.longer c.args.host.now
    c.append_group.new.host
    (λ left is. record {
      rest = c.requires.rest now tells left is;
      said = g.met.H.Host.said_stays c.args.host.now now left tells is;
    })
    c.append_group.ensures.any_moment

pub returns-in_err-open_gate-clause-any_moment : goal.returns-in_err-open_gate-clause-any_moment
returns-in_err-open_gate-clause-any_moment g c =
    λ now tells.
    gate_moments c.args.block_size c.args.epoch_length c.args.images.now c.args.waiting.now.units now
    (c.requires.ready now tells) c.requires.short c.append_group.ensures.ends g.met.H.Host.longer c.args.host.now
    c.append_group.new.host c.open_gate.new.host
    (λ left is. record {
      rest = c.requires.rest now tells left is;
      said = g.met.H.Host.said_stays c.args.host.now now left tells is;
    })
    c.append_group.ensures.any_moment (c.in_ok-append_group.ensures.settled now tells)
    c.open_gate.ensures.any_moment

pub returns-in_err-write_units-clause-any_moment : goal.returns-in_err-write_units-clause-any_moment
returns-in_err-write_units-clause-any_moment g c =
    let size = c.args.block_size in
    let n = c.args.epoch_length in
    let images = c.args.images.now in
    let zero = g.H.Host.told c.args.host.now in
    let one = g.H.Host.told c.append_group.new.host in
    let two = c.open_gate.new.host in
    λ now tells.
    units_moments size n images c.args.waiting.now.units now
    (c.requires.ready now tells) c.requires.short c.append_group.ensures.ends g.met.H.Host.longer c.args.host.now
    c.append_group.new.host two
    (λ left is. record {
      rest = c.requires.rest now tells left is;
      said = g.met.H.Host.said_stays c.args.host.now now left tells is;
    })
    c.append_group.ensures.any_moment (c.in_ok-append_group.ensures.settled now tells)
    c.open_gate.ensures.any_moment c.write_units.new.host
    (images_settled (with_group n images) 1 zero one (g.H.Host.left_since two (g.H.Host.moment two))
    (tells_group n images zero one c.in_ok-append_group.ensures.told) c.in_ok-open_gate.ensures.settled now tells)
    (subst (λ us. LeavesBy g.H.Host.moment g.H.Host.left_since (UnitsTorn size us) two c.write_units.new.host)
    c.as_slice.ensures.units c.write_units.ensures.any_moment)

-- the units are in their places, and the gate is being closed
ended : (g : Over) (c : goal.After-close_gate g) (now : Contents) → g.H.Host.told c.args.host.now ≡ Some now
    → HasCome g.H.Host.moment g.H.Host.left_since c.args.host.now c.close_gate.new.host
    (FindsEither c.args.block_size c.args.epoch_length c.args.waiting.now.units now)
    (IsFilled (take c.args.epoch_length now.db) c.args.images.now
    (patched c.args.block_size c.args.waiting.now.units now.db) now)
ended g c now tells =
    let size = c.args.block_size in
    let n = c.args.epoch_length in
    let images = c.args.images.now in
    let units = c.args.waiting.now.units in
    let zero = g.H.Host.told c.args.host.now in
    let one = g.H.Host.told c.append_group.new.host in
    let two = c.open_gate.new.host in
    let three = c.write_units.new.host in
    end_come size n images units now
    (c.requires.ready now tells) c.requires.short c.append_group.ensures.ends g.met.H.Host.longer c.args.host.now
    c.append_group.new.host two
    (λ left is. record {
      rest = c.requires.rest now tells left is;
      said = g.met.H.Host.said_stays c.args.host.now now left tells is;
    })
    c.append_group.ensures.any_moment (c.in_ok-append_group.ensures.settled now tells)
    c.open_gate.ensures.any_moment three
    (images_settled (with_group n images) 1 zero one (g.H.Host.left_since two (g.H.Host.moment two))
    (tells_group n images zero one c.in_ok-append_group.ensures.told) c.in_ok-open_gate.ensures.settled now tells)
    (subst (λ us. LeavesBy g.H.Host.moment g.H.Host.left_since (UnitsTorn size us) two three)
    c.as_slice.ensures.units c.write_units.ensures.any_moment)
    c.close_gate.new.host
    (units_settled size n images units zero c.requires.ready c.requires.short c.append_group.ensures.ends
    (g.H.Host.told two)
    (λ none. c.open_gate.ensures.untold (c.append_group.ensures.untold none))
    (tells_gate (with_group n images) 1 zero one (g.H.Host.told two)
    (tells_group n images zero one c.in_ok-append_group.ensures.told) c.in_ok-open_gate.ensures.told)
    (g.H.Host.left_since three (g.H.Host.moment three))
    (subst (λ us. (y : Contents) → g.H.Host.told two ≡ Some y
    → Settles Db (patched size us y.db) (g.H.Host.left_since three (g.H.Host.moment three)))
    c.as_slice.ensures.units c.in_ok-write_units.ensures.settled) now tells)
    c.close_gate.ensures.any_moment

pub returns-clause-any_moment : goal.returns-clause-any_moment
returns-clause-any_moment g c =
    λ now tells.
    come_now (FindsEither c.args.block_size c.args.epoch_length c.args.waiting.now.units now) (ended g c now tells)
    (filled_finds c.args.block_size c.args.epoch_length c.args.images.now c.args.waiting.now.units now
    (c.requires.ready now tells) c.requires.short c.append_group.ensures.ends)

pub returns-clause-rest : goal.returns-clause-rest
returns-clause-rest g c =
    let size = c.args.block_size in
    let n = c.args.epoch_length in
    let images = c.args.images.now in
    let units = c.args.waiting.now.units in
    let zero = g.H.Host.told c.args.host.now in
    let one = g.H.Host.told c.append_group.new.host in
    let two = g.H.Host.told c.open_gate.new.host in
    let three = g.H.Host.told c.write_units.new.host in
    let four = c.close_gate.new.host in
    on_ok_weaker c.close_gate.result
    (λ settled now tells.
    each_rests size n images units now (c.requires.ready now tells) c.requires.short c.append_group.ensures.ends
    g.met.H.Host.longer c.args.host.now four (ended g c now tells)
    (images_settled (λ x. with_units size units (with_gate 1 (with_group n images x))) 0 zero three
    (g.H.Host.left_since four (g.H.Host.moment four))
    (tells_units (λ x. with_gate 1 (with_group n images x)) size units zero two three
    (tells_gate (with_group n images) 1 zero one two
    (tells_group n images zero one c.in_ok-append_group.ensures.told) c.in_ok-open_gate.ensures.told)
    (subst (λ us. TellsOn two three (λ x y. y ≡ with_units size us x)) c.as_slice.ensures.units
    c.in_ok-write_units.ensures.written))
    settled now tells))
    c.close_gate.ensures.settled
