use Rattle.std.proofs.Common.{ap}
use Rattle.gds_epoch.specs.Waiting.{WaitingUnits}
use Rattle.gds_epoch.proofs.SearchLemmas.{rising_put_at, rising_put_in_gap, units_put_at, units_put_in_gap}
use Rattle.gds_epoch.proofs.waiting.Waiting.put_reserved.Goals as goal

-- over the unit that waited
pub invariant_of-self : goal.invariant_of-self
invariant_of-self c =
    rising_put_at c.self.inside.units.items c.args.self.now.units (ap (λ (w : WaitingUnits). w.units) c.self.view_is)
    c.self.invariant c.args.new c.in-Ok.at c.in-Ok.ensures.found

pub returns-in-Ok-clause-put : goal.returns-in-Ok-clause-put
returns-in-Ok-clause-put c =
    units_put_at c.self.inside.units.items c.args.self.now.units (ap (λ (w : WaitingUnits). w.units) c.self.view_is)
    c.self.invariant c.args.new c.in-Ok.at c.in-Ok.ensures.found

-- in the gap for it
pub invariant_of-self-in-Err : goal.invariant_of-self-in-Err
invariant_of-self-in-Err c =
    rising_put_in_gap c.self.inside.units.items c.args.self.now.units
    (ap (λ (w : WaitingUnits). w.units) c.self.view_is) c.self.invariant c.args.new c.in-Err.at
    c.insert_reserved.new.units.items c.insert_reserved.ensures.items c.in-Err.ensures.absent

pub returns-in-Err-clause-put : goal.returns-in-Err-clause-put
returns-in-Err-clause-put c =
    units_put_in_gap c.self.inside.units.items c.args.self.now.units
    (ap (λ (w : WaitingUnits). w.units) c.self.view_is) c.self.invariant c.args.new c.in-Err.at
    c.insert_reserved.new.units.items c.insert_reserved.ensures.items c.in-Err.ensures.absent
