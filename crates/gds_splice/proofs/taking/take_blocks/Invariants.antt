use Rattle.gds_splice.proofs.TakingLemmas.{HasTaken}
use Rattle.gds_splice.proofs.taking.take_blocks.Given as goal

abbrev pub invariant-loop : goal.invariant-loop
invariant-loop g l =
    let h = g.H.Host in
    HasTaken h.told h.moment h.failures h.left_since l.fn.base l.base l.fn.draft l.draft l.counter l.numbers.items
