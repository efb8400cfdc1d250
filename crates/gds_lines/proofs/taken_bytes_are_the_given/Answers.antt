use Rattle.gds_lines.proofs.CountLemmas.{reads_above, reads_on, reads_start}
use Rattle.gds_lines.proofs.taken_bytes_are_the_given.Goals as goal

pub returns : goal.returns
returns c = record { start = reads_start; onward = reads_on; refused = reads_above }
