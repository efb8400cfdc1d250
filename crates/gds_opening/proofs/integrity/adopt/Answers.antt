use Rattle.gds_opening.proofs.CountingLemmas.{faultless}
use Rattle.gds_opening.proofs.integrity.adopt.Goals as goal

pub adopt-requires-clause-faultless : goal.adopt-requires-clause-faultless
adopt-requires-clause-faultless g c x tells = faultless x (c.requires.no_fault x tells)
