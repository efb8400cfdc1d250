use Rattle.std.proofs.Common.{◌≡◌, ◌-◌, ◌++◌, map, take}
use Rattle.m_number.proofs.digits.Digits.push_codes.Given as goal

abbrev pub invariant-loop-code : goal.invariant-loop-code
invariant-loop-code l =
    l.self-inside.items.items ≡ l.fn.self ++ map (λ c. c - 48) (take l.code-index l.codes)
