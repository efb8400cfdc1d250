use Rattle.gds_draft.proofs.BytesLemmas.{committed_is_bytes}
use Rattle.gds_draft.proofs.laws.committed_bytes.Goals as goal

pub returns : goal.returns
returns c = committed_is_bytes
