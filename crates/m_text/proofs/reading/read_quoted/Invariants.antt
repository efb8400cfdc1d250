use Rattle.std.proofs.Common.{◌≡◌, length, false}
use Rattle.m_text.specs.Front.{with_front, quoted_at}
use Rattle.m_text.proofs.reading.read_quoted.Given as goal

abbrev pub invariant-loop-at : goal.invariant-loop-at
invariant-loop-at l =
    with_front l.out.items (quoted_at false l.rest) ≡ with_front l.fn.out.items (quoted_at false l.text)

abbrev pub decreases-loop-at : goal.decreases-loop-at
decreases-loop-at l = length l.rest
