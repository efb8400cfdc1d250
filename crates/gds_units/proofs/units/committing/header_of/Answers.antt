use Rattle.std.proofs.Common.{◌≡◌, ◌∙◌, ap, None, length}
use Rattle.gds_epoch.specs.Waiting.{WaitingUnit}
use Rattle.gds_header.specs.Kinds.{unreadable}
use Rattle.gds_units.proofs.PlanLemmas.{unit_has}
use Rattle.gds_units.proofs.units.committing.header_of.Goals as goal

pub read-requires : goal.read-requires
read-requires c =
    ap length c.deref.ensures.value
    ∙ unit_has c.args.plan.now c.loop-unit.unit-index c.unit-item.result c.loop-unit-test.true c.unit-item.is
    (λ (w : WaitingUnit). w.unit ≡ 0 → length w.bytes ≡ 8192) c.requires.sizes c.if-unit-eq0.true

pub unreachable-requires : goal.unreachable-requires
unreachable-requires c =
    let readable = unit_has c.args.plan.now c.loop-unit.unit-index c.unit-item.result c.loop-unit-test.true
    c.unit-item.is (λ (w : WaitingUnit). w.unit ≡ 0 → unreadable w.bytes ≡ None) c.requires.readable
    c.if-unit-eq0.true in
    let none = ap unreadable c.deref.ensures.value ∙ readable in
    let bad = c.in-Err.ensures.err in
    cc
