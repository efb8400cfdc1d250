use Rattle.m_key.proofs.PlaceLemmas.{place_total, place_same}
use Rattle.m_key.proofs.laws.places.Goals as goal

pub returns-clause-total : goal.returns-clause-total
returns-clause-total c = place_total

pub returns-clause-same : goal.returns-clause-same
returns-clause-same c = place_same
