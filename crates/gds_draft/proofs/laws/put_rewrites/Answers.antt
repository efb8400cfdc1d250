use Rattle.gds_draft.proofs.PutLemmas.{put_rewritten, put_there}
use Rattle.gds_draft.proofs.laws.put_rewrites.Goals as goal

pub returns : goal.returns
returns c = record { image = put_rewritten; draft = put_there }
