use Rattle.gds_header.proofs.EndingLemmas.{ending_kind-front}
use Rattle.gds_header.proofs.kind.ending_is_decided_by_front.Goals as goal

pub returns : goal.returns
returns c = ending_kind-front
