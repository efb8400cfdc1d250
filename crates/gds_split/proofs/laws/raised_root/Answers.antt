use Rattle.gds_split.proofs.RootLemmas.{raised_lawful, raised_sound}
use Rattle.gds_split.proofs.laws.raised_root.Goals as goal

pub returns-clause-lawful : goal.returns-clause-lawful
returns-clause-lawful c = raised_lawful

pub returns-clause-sound : goal.returns-clause-sound
returns-clause-sound c = raised_sound
