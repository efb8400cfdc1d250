use Rattle.std.proofs.Common.{◌≡◌, length}
use Rattle.m_text.specs.Front.{with_front, list_at, code_at}
use Rattle.m_text.proofs.reading.read_codes.Given as goal

abbrev pub invariant-loop-code : goal.invariant-loop-code
invariant-loop-code l =
    with_front l.out.items (list_at code_at 44 l.rest) ≡ with_front l.fn.out.items (list_at code_at 44 l.text)

abbrev pub decreases-loop-code : goal.decreases-loop-code
decreases-loop-code l = length l.rest
