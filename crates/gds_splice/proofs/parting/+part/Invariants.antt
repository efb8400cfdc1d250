use Rattle.std.proofs.Common.{length}
use Rattle.gds_splice.proofs.parting.+part.Given as goal

abbrev pub decreases-part : goal.decreases-part
decreases-part g l = length l.steps.now
