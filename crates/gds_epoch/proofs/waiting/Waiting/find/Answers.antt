use Rattle.std.proofs.Common.{sym, ap}
use Rattle.gds_epoch.specs.Waiting.{WaitingUnits}
use Rattle.gds_epoch.proofs.SearchLemmas.{bytes_in_gap, found_bytes}
use Rattle.gds_epoch.proofs.waiting.Waiting.find.Goals as goal

pub returns-in-Ok-clause-bytes : goal.returns-in-Ok-clause-bytes
returns-in-Ok-clause-bytes c =
    found_bytes c.self.inside.units.items c.args.self.now.units (ap (λ (w : WaitingUnits). w.units) c.self.view_is)
    c.self.invariant c.args.unit c.in-Ok.at c.index.result.now c.deref.result.now c.in-Ok.ensures.found
    c.index.ensures c.deref.ensures.value

pub returns-in-Err-clause-bytes : goal.returns-in-Err-clause-bytes
returns-in-Err-clause-bytes c = sym (bytes_in_gap _ _ _ c.in-Err.ensures.absent)
