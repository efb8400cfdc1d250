use Rattle.gds_draft.proofs.DraftLemmas.{drafted_read}
use Rattle.gds_draft.proofs.laws.drafted_reads.Goals as goal

pub returns : goal.returns
returns c = drafted_read
