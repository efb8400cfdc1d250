use Rattle.gds_splice.proofs.PieceLemmas.{goes_into_pieces}
use Rattle.gds_splice.proofs.laws.block_goes_into_pieces.Goals as goal

pub returns : goal.returns
returns c = goes_into_pieces
