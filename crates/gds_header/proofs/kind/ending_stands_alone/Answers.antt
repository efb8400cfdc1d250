use Rattle.gds_header.proofs.EndingLemmas.{ending_kind-alone}
use Rattle.gds_header.proofs.kind.ending_stands_alone.Goals as goal

pub returns : goal.returns
returns c = ending_kind-alone
