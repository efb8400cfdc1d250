use Rattle.m_key.proofs.PlaceLemmas as places
use Rattle.m_key.proofs.laws.changes.Goals as goal

pub returns-clause-set_here : goal.returns-clause-set_here
returns-clause-set_here c = places.set_here

pub returns-clause-set_elsewhere : goal.returns-clause-set_elsewhere
returns-clause-set_elsewhere c = places.set_elsewhere

pub returns-clause-killed : goal.returns-clause-killed
returns-clause-killed c = places.killed

pub returns-clause-spared : goal.returns-clause-spared
returns-clause-spared c = places.spared
