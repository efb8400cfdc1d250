use Rattle.std.proofs.Common.{◌<◌, ◌≤◌, length, get_or, ap, arith}
use Rattle.gds_epoch.specs.Waiting.{WaitingUnit}
use Rattle.gds_epoch.specs.WaitingView.{units_of}
use Rattle.gds_epoch.specs.declared.waiting.UnitBytes.{UnitBytes}
use Rattle.gds_base.proofs.PlanLemmas.{next_has, stamped_more}
use Rattle.gds_base.proofs.plan.stamp.Goals as goal

pub stamp_unit-requires : goal.stamp_unit-requires
stamp_unit-requires c =
    let items = c.loop-unit.unit-items in
    let i = c.loop-unit.unit-index in
    let within : i < length items = omega (arith, c.loop-unit-test.true, c.loop-unit.auto.unit-items) in
    next_has c.args.tn (units_of c.args.units.now.items) items i (get_or items i c.unit-item.result) within
    c.loop-unit.invariant (ap (λ (d : UnitBytes). get_or items i d) c.unit-item.is)
    (λ (w : WaitingUnit). 16 ≤ length w.bytes) c.requires

pub loop-unit-preserved : goal.loop-unit-preserved
loop-unit-preserved c =
    let items = c.loop-unit.unit-items in
    let i = c.loop-unit.unit-index in
    let within : i < length items = omega (arith, c.loop-unit-test.true, c.loop-unit.auto.unit-items) in
    stamped_more c.args.tn (units_of c.args.units.now.items) items i (get_or items i c.unit-item.result) within
    c.loop-unit.invariant (ap (λ (d : UnitBytes). get_or items i d) c.unit-item.is) c.stamp_unit.new.unit
    c.stamp_unit.ensures
