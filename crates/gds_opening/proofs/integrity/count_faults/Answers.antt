use Rattle.std.proofs.Common.{◌≡◌, ◌∙◌, ap}
use Rattle.std.specs.Prelude.{Ok}
use Rattle.gds_units.specs.State.{image_of}
use Rattle.gds_opening.proofs.CountingLemmas.{told_faults}
use Rattle.gds_opening.proofs.integrity.count_faults.Goals as goal

pub returns-in-Ok-clause-count : goal.returns-in-Ok-clause-count
returns-in-Ok-clause-count g c x tells =
    let same = ap image_of c.hold_bytes.ensures.read.rest in
    told_faults x _ _ c.in-Ok.faults (c.in-Ok.ensures.told x (same ∙ tells))

pub returns-in-Ok-clause-one_map : goal.returns-in-Ok-clause-one_map
returns-in-Ok-clause-one_map g c is x tells =
    let same = ap image_of c.hold_bytes.ensures.read.rest in
    let none : c.in-Ok.faults ≡ 0 = cc in
    c.in-Ok.ensures.one_map (ap Ok none) x (same ∙ tells)
