use Rattle.std.proofs.Common.{ap, rules, nat_le}
use Rattle.std.proofs.lemmas.List.Sorted.{IsPartitionPoint-from_clause}
use Rattle.gds_epoch.specs.Waiting.{WaitingUnits}
use Rattle.gds_epoch.specs.declared.waiting.UnitBytes.{UnitBytes}
use Rattle.gds_epoch.proofs.SearchLemmas.{numbers_part, rising_dropped, units_dropped}
use Rattle.gds_epoch.proofs.waiting.Waiting.drop_above.Goals as goal

pub invariant_of-self : goal.invariant_of-self
invariant_of-self c =
    rising_dropped c.self.inside.units.items c.args.self.now.units (ap (λ (w : WaitingUnits). w.units) c.self.view_is)
    c.self.invariant c.args.last c.partition_point-kept.result c.truncate.new.self.items c.truncate.ensures.items

pub returns-clause-dropped : goal.returns-clause-dropped
returns-clause-dropped c =
    let items = c.self.inside.units.items in
    let slice = c.deref.result.now in
    let point = IsPartitionPoint-from_clause (λ (x : UnitBytes). nat_le x.unit c.args.last) slice
    c.partition_point-kept.result c.partition_point-kept.ensures.partitioned
    (rw c.deref.ensures.value (numbers_part items c.self.invariant c.args.last)) (λ a r q k. search rules) in
    units_dropped items c.args.self.now.units (ap (λ (w : WaitingUnits). w.units) c.self.view_is)
    c.self.invariant c.args.last c.partition_point-kept.result c.truncate.new.self.items c.truncate.ensures.items
    (rw c.deref.ensures.value at point)

pub returns-clause-rising : goal.returns-clause-rising
returns-clause-rising c =
    rising_dropped c.self.inside.units.items c.args.self.now.units (ap (λ (w : WaitingUnits). w.units) c.self.view_is)
    c.self.invariant c.args.last c.partition_point-kept.result c.truncate.new.self.items c.truncate.ensures.items
