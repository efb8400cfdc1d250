use Rattle.gds_find.proofs.FoundLemmas.{items_at}
use Rattle.gds_find.proofs.laws.items_at_trail.Goals as goal

pub returns : goal.returns
returns c = items_at
