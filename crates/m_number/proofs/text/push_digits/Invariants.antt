use Rattle.std.proofs.Common.{◌≡◌, ◌++◌, take}
use Rattle.m_number.specs.Text.{codes_of}
use Rattle.m_number.proofs.text.push_digits.Given as goal

abbrev pub invariant-loop-digit : goal.invariant-loop-digit
invariant-loop-digit l = l.text.items ≡ l.fn.text.items ++ codes_of (take l.digit-index l.digits)
