use Rattle.std.proofs.Common.{◌≡◌, length}
use Rattle.m_text.specs.Front.{with_front, string_at}
use Rattle.m_text.proofs.reading.read_string.Given as goal

abbrev pub invariant-loop-after : goal.invariant-loop-after
invariant-loop-after l = with_front l.out.items (string_at l.rest) ≡ with_front l.fn.out.items (string_at l.text)

abbrev pub decreases-loop-after : goal.decreases-loop-after
decreases-loop-after l = length l.rest
