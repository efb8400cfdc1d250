use Rattle.std.proofs.Common.{◌≡◌, ◌++◌, length, flat_map}
use Rattle.m_key.specs.Key.{escaped}
use Rattle.m_key.proofs.escapes.unescape.Given as goal

-- the bytes so far and what is left are all
abbrev pub invariant-loop-rest : goal.invariant-loop-rest
invariant-loop-rest l = flat_map escaped l.text.items ++ l.rest ≡ l.bytes

abbrev pub decreases-loop-rest : goal.decreases-loop-rest
decreases-loop-rest l = length l.rest
