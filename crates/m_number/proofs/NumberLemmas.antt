-- What a call that makes a number of parts says of the number with these parts.
use Rattle.std.proofs.Common.{◌≡◌, ◌∙◌, sym, subst, Option, Some, None}
use Rattle.std.specs.Prelude.{IfSome, IfNone, IsSomeAnd}
use Rattle.m_number.specs.Numeral.{Numeral, IsNumeral}
use Rattle.m_number.specs.Number.{numeral_of}
use Rattle.m_number.specs.declared.number.Number.{Number}

pub made : (r : Option Number) (m n : Numeral) → m ≡ n → IsNumeral n → IfSome r (λ x. numeral_of x ≡ m)
    → IfNone r (IsNumeral m → ⊥) → IsSomeAnd r (λ x. numeral_of x ≡ n)
made None m n e h some none = absurd (none (subst IsNumeral (sym e) h))
made (Some x) m n e h some none = some ∙ e
