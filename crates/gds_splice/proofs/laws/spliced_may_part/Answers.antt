use Rattle.gds_splice.proofs.SplicingLemmas.{spliced_may_part}
use Rattle.gds_splice.proofs.laws.spliced_may_part.Goals as goal

pub returns : goal.returns
returns c = spliced_may_part
