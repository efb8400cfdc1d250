use Rattle.gds_pack.proofs.BoundLemmas.{packed_size-added, packed_size-added_rising}
use Rattle.gds_pack.proofs.laws.size_with_one_more.Goals as goal

pub returns-clause-any : goal.returns-clause-any
returns-clause-any c = packed_size-added

pub returns-clause-rising : goal.returns-clause-rising
returns-clause-rising c = packed_size-added_rising
