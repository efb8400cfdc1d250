use Rattle.gds_tree.proofs.FaultlessLemmas.{packed_right, packed_long, written_entries}
use Rattle.gds_tree.proofs.block_laws.packed_block.Goals as goal

pub returns-clause-right : goal.returns-clause-right
returns-clause-right c = packed_right

pub returns-clause-size : goal.returns-clause-size
returns-clause-size c = packed_long

pub returns-clause-written : goal.returns-clause-written
returns-clause-written c = written_entries
