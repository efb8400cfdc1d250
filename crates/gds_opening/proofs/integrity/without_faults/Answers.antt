use Rattle.std.proofs.Common.{ap}
use Rattle.std.specs.Prelude.{Ok}
use Rattle.gds_opening.proofs.CauseLemmas.{any_ok}
use Rattle.gds_opening.proofs.integrity.without_faults.Goals as goal

pub returns-in-Ok-eq0-clause-one_map : goal.returns-in-Ok-eq0-clause-one_map
returns-in-Ok-eq0-clause-one_map g c =
    any_ok c.adopt.result _ (c.in-Ok-eq0.ensures.one_map (ap Ok c.in-Ok-eq0.field-0-test))
