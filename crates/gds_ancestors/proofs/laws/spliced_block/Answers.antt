use Rattle.gds_ancestors.proofs.SpliceLemmas.{three_parts, spliced, spliced_sound}
use Rattle.gds_ancestors.proofs.laws.spliced_block.Goals as goal

pub returns-clause-parts : goal.returns-clause-parts
returns-clause-parts c = three_parts

pub returns-clause-trees : goal.returns-clause-trees
returns-clause-trees c = spliced

pub returns-clause-sound : goal.returns-clause-sound
returns-clause-sound c = spliced_sound
