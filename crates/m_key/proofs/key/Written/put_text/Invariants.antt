use Rattle.std.proofs.Common.{take, flat_map}
use Rattle.m_key.specs.Key.{escaped}
use Rattle.m_key.specs.Written.{Appends}
use Rattle.m_key.proofs.key.Written.put_text.Given as goal

-- the bytes so far are written
abbrev pub invariant-loop-byte : goal.invariant-loop-byte
invariant-loop-byte l = Appends l.initial.self l.self (flat_map escaped (take l.byte-index l.text))
