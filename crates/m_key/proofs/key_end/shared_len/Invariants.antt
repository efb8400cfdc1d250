use Rattle.std.proofs.Common.{◌≡◌, ◌+◌, ◌≤◌, length, drop}
use Rattle.m_key.specs.KeyEnd.{shared}
use Rattle.m_key.proofs.key_end.shared_len.Given as goal

abbrev pub invariant-loop-i : goal.invariant-loop-i
invariant-loop-i l = (l.i ≤ length l.b) × (l.i + shared (drop l.i l.a) (drop l.i l.b) ≡ shared l.a l.b)
