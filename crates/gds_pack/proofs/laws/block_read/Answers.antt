use Rattle.gds_pack.proofs.ReadLemmas.{IsBlock-block_bytes, used_of-block_bytes, records_of-block_bytes}
use Rattle.gds_pack.proofs.ReadLemmas.{entries_of-block_bytes}
use Rattle.gds_pack.proofs.laws.block_read.Goals as goal

pub returns-clause-is_block : goal.returns-clause-is_block
returns-clause-is_block c = IsBlock-block_bytes

pub returns-clause-used : goal.returns-clause-used
returns-clause-used c = used_of-block_bytes

pub returns-clause-records : goal.returns-clause-records
returns-clause-records c = records_of-block_bytes

pub returns-clause-entries : goal.returns-clause-entries
returns-clause-entries c = entries_of-block_bytes
