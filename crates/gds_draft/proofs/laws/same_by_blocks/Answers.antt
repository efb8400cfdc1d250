use Rattle.gds_draft.proofs.SameLemmas.{same_file}
use Rattle.gds_draft.proofs.laws.same_by_blocks.Goals as goal

pub returns : goal.returns
returns c = same_file
