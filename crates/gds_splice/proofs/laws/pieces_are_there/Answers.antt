use Rattle.gds_splice.proofs.WritingLemmas.{pieces_are_there}
use Rattle.gds_splice.proofs.laws.pieces_are_there.Goals as goal

pub returns : goal.returns
returns c = pieces_are_there
