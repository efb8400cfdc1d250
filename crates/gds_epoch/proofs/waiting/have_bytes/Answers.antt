use Rattle.gds_epoch.proofs.UnitLemmas.{more_bytes}
use Rattle.gds_epoch.proofs.waiting.have_bytes.Goals as goal

pub loop-unit-preserved : goal.loop-unit-preserved
loop-unit-preserved c =
    more_bytes c.args.units.now c.loop-unit.unit-index c.unit-item.result c.loop-unit-test.true c.unit-item.is
    c.deref.result.now c.deref.ensures.value c.are_bytes.ensures c.loop-unit.invariant
