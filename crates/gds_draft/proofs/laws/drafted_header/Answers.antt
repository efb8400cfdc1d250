use Rattle.gds_draft.proofs.FaultLemmas.{header_drafted}
use Rattle.gds_draft.proofs.laws.drafted_header.Goals as goal

pub returns : goal.returns
returns c = header_drafted
