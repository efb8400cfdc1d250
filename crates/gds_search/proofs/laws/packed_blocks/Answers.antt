use Rattle.gds_search.proofs.PackedLemmas.{IsPackedBlock-written, IsPackedBlock-used_bytes, entries_of-packed}
use Rattle.gds_search.proofs.PackedLemmas.{records_of-packed}
use Rattle.gds_search.proofs.laws.packed_blocks.Goals as goal

pub returns-clause-written : goal.returns-clause-written
returns-clause-written c = IsPackedBlock-written

pub returns-clause-used_bytes : goal.returns-clause-used_bytes
returns-clause-used_bytes c = IsPackedBlock-used_bytes

pub returns-clause-entries : goal.returns-clause-entries
returns-clause-entries c = entries_of-packed

pub returns-clause-records : goal.returns-clause-records
returns-clause-records c = records_of-packed
