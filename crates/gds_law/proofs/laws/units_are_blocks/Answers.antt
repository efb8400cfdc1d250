use Rattle.gds_law.proofs.UnitLemmas.{block_length-is, unit_is}
use Rattle.gds_law.proofs.laws.units_are_blocks.Goals as goal

pub returns-clause-length : goal.returns-clause-length
returns-clause-length c = block_length-is

pub returns-clause-bytes : goal.returns-clause-bytes
returns-clause-bytes c = unit_is
