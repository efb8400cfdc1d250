use Rattle.gds_draft.proofs.PutLemmas.{header_changed}
use Rattle.gds_draft.proofs.laws.header_put.Goals as goal

pub returns : goal.returns
returns c = header_changed
