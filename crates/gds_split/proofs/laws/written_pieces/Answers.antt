use Rattle.gds_split.proofs.WrittenLemmas.{pieces_there}
use Rattle.gds_split.proofs.laws.written_pieces.Goals as goal

pub returns : goal.returns
returns c = λ image v w level low es pieces key i at l g written.
    pieces_there image i v level w low es pieces key at l g written
