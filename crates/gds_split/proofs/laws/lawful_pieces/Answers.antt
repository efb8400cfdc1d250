use Rattle.gds_split.proofs.LawfulLemmas.{lawful_pieces}
use Rattle.gds_split.proofs.laws.lawful_pieces.Goals as goal

pub returns : goal.returns
returns c = lawful_pieces
