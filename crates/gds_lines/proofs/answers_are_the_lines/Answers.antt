use Rattle.gds_lines.proofs.LineLemmas.{answers_in_turn}
use Rattle.gds_lines.proofs.answers_are_the_lines.Goals as goal

pub returns : goal.returns
returns c = answers_in_turn
