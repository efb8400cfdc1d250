use Rattle.std.proofs.Common.{◌≤◌, arith}
use Rattle.std.proofs.lemmas.List.Elements.{All-weaker}
use Rattle.gds_header.specs.Fields.{file_length_of}
use Rattle.gds_epoch.specs.Waiting.{LiesWithin, WaitingUnit}
use Rattle.gds_units.proofs.UnitLemmas.{number_within, rising_count}
use Rattle.gds_units.proofs.units.Units.changed.Goals as goal

pub overflow_cast-result : goal.overflow_cast-result
overflow_cast-result g c =
    let u = c.self.inside in
    let limits = c.self.invariant.places.limits in
    let few = rising_count 0 u.header.total u.waiting.units (omega arith) c.len.ensures.rising
    (λ i d within. omega arith)
    (All-weaker (LiesWithin u.header.block_size (file_length_of u.header))
    (λ (w : WaitingUnit). w.unit ≤ u.header.total)
    (λ w is. number_within u.header w (omega (arith, limits.block_from)) is) u.waiting.units
    c.self.invariant.places.inside) in
    omega (arith, few, limits.total_to, limits.limit_to, c.len.ensures.len)
