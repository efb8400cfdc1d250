use Rattle.std.proofs.Common.{◌≡◌, ◌++◌, take}
use Rattle.m_key.proofs.key_end.append.Given as goal

abbrev pub invariant-loop-b : goal.invariant-loop-b
invariant-loop-b l = l.key.items ≡ l.initial.key.items ++ take l.b-index l.bytes
