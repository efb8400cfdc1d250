use Rattle.std.proofs.Common.{take}
use Rattle.m_key.specs.Written.{Appends}
use Rattle.m_key.proofs.key.Written.put_all.Given as goal

-- the bytes so far are written
abbrev pub invariant-loop-byte : goal.invariant-loop-byte
invariant-loop-byte l = Appends l.initial.self l.self (take l.byte-index l.bytes)
