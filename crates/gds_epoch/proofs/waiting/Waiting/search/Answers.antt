use Rattle.std.proofs.Common.{rules}
use Rattle.std.proofs.lemmas.List.Sorted.{answers_always}
use Rattle.gds_epoch.proofs.SearchLemmas.{searched}
use Rattle.gds_epoch.proofs.waiting.Waiting.search.Goals as goal

-- the closure gives a unit's number, and the slice is the units that are kept
pub returns : goal.returns
returns c =
    let facts = c.binary_search_by_key.ensures in
    let by_key = facts.position (λ unit. unit.unit) (answers_always _ _ _ (λ f a r g called. search rules)) in
    rw (← c.self.view_is, ← c.deref.ensures.value)
    (searched _ (rw c.deref.ensures.value c.self.invariant) c.args.unit _ facts.bound by_key)
