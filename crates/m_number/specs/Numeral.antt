-- A canonical number as a sign, decimal digits and an exponent. The value is d.ddd times ten to the exponent.
use Rattle.std.specs.Prelude.{◌≡◌, ℕ, ◌-◌, ◌<◌, ◌≤◌, ℤ, pos, negsuc, ◌≤ℤ◌, Bool, false, List, length, All, slice_index}

pub record Numeral : Type 0 where
  pub negative : Bool
  pub digits : List ℕ
  pub exponent : ℤ

-- which of them are canonical: each value that M has is written in one way
pub record IsNumeral (n : Numeral) : Type 0 where
  pub decimal : All (λ d. d < 10) n.digits
  pub count : length n.digits ≤ 18
  -- neither the first digit nor the last is 0
  pub first : 0 < length n.digits → 0 < slice_index n.digits 0
  pub last : 0 < length n.digits → 0 < slice_index n.digits (length n.digits - 1)
  pub least : negsuc 42 ≤ℤ n.exponent
  pub greatest : n.exponent ≤ℤ pos 46
  -- zero has no digits
  pub zero_sign : length n.digits ≡ 0 → n.negative ≡ false
  pub zero_exponent : length n.digits ≡ 0 → n.exponent ≡ pos 0
