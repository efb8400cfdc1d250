use Rattle.std.proofs.Common.{◌≡◌, take}
use Rattle.m_number.proofs.digits.Digits.copied.Given as goal

abbrev pub invariant-loop-digit : goal.invariant-loop-digit
invariant-loop-digit l = l.items.items ≡ take l.digit-index l.digit-items
