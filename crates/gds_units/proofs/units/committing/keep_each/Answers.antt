use Rattle.std.proofs.Common.{◌∙◌, arith, subst, take}
use Rattle.std.specs.Prelude.{All}
use Rattle.std.proofs.lemmas.List.{take_all}
use Rattle.host_model.proofs.FrameLemmas.{WasRead-then}
use Rattle.host_model.proofs.MomentLemmas.{LeavesTheSame-trans}
use Rattle.gds_epoch.specs.Epoch.{IsKept}
use Rattle.gds_epoch.specs.WaitingView.{units_of}
use Rattle.gds_units.specs.Keeping.{HasSize}
use Rattle.gds_units.proofs.KeepingLemmas.{AddsTo-trans, all_kept_more, are_kept_more}
use Rattle.gds_units.proofs.PlanLemmas.{all_more, unit_has}
use Rattle.gds_units.proofs.units.committing.keep_each.Goals as goal

pub keep_one-requires-clause-size : goal.keep_one-requires-clause-size
keep_one-requires-clause-size g c =
    unit_has c.args.plan.now c.loop-unit.unit-index c.unit-item.result c.loop-unit-test.true c.unit-item.is
    (HasSize c.args.block_size) c.requires.sizes

pub keep_one-requires-clause-kept : goal.keep_one-requires-clause-kept
keep_one-requires-clause-kept g c =
    are_kept_more c.args.block_size c.args.epoch_length c.args.images.now c.loop-unit.images
    c.loop-unit.invariant.added c.args.waiting.now.units c.requires.kept

pub returns-in_err-keep_one-clause-old : goal.returns-in_err-keep_one-clause-old
returns-in_err-keep_one-clause-old g c x tells = c.keep_one.ensures.old x (c.loop-unit.invariant.read.told ∙ tells)

pub loop-unit-preserved : goal.loop-unit-preserved
loop-unit-preserved g c =
    let h = g.H.Host in
    let size = c.args.block_size in
    let epoch = c.args.epoch_length in
    let so_far = c.loop-unit.invariant in
    let e = c.keep_one.ensures in
    record {
      old = λ x tells. e.old x (so_far.read.told ∙ tells);
      added = AddsTo-trans c.args.images.now c.loop-unit.images c.keep_one.new.images so_far.added e.added;
      kept = all_more c.args.plan.now c.loop-unit.unit-index c.unit-item.result c.loop-unit-test.true c.unit-item.is
          (IsKept size epoch c.keep_one.new.images)
          (all_kept_more size epoch c.loop-unit.images c.keep_one.new.images e.added
          (units_of (take c.loop-unit.unit-index c.args.plan.now)) so_far.kept)
          c.in_ok-keep_one.ensures.kept;
      read = WasRead-then h.told h.failures c.args.host.now c.loop-unit.host c.keep_one.new.host so_far.read e.read;
      crash = LeavesTheSame-trans h.moment h.left_since c.args.host.now c.loop-unit.host c.keep_one.new.host
          so_far.crash e.crash;
    }

pub returns-clause-kept : goal.returns-clause-kept
returns-clause-kept g c =
    subst (λ items. All (IsKept c.args.block_size c.args.epoch_length c.loop-unit.images) (units_of items))
    (take_all c.loop-unit.unit-index c.args.plan.now (omega (arith, c.loop-unit-test.false)))
    c.loop-unit.invariant.kept
