use Rattle.gds_draft.proofs.CommitLemmas.{committed_is_one, committed_is_stamped}
use Rattle.gds_draft.proofs.laws.stamped_draft.Goals as goal

pub returns : goal.returns
returns c = record { stamped = committed_is_stamped; one = committed_is_one }
