use Rattle.gds_draft.proofs.HeaderLemmas.{nothing_changed}
use Rattle.gds_draft.proofs.laws.nothing_drafted.Goals as goal

pub returns : goal.returns
returns c = nothing_changed
