-- The value of a number, as a whole number: scaled by ten to the 60, which leaves no fraction of any canonical number.
use Rattle.std.specs.Prelude.{ℕ, ◌+◌, ◌-◌, ◌*◌, ◌^◌, ℤ, pos, negsuc, neg_ℤ, List, [], ◌∷◌, if◌then◌else◌}
use Rattle.m_number.specs.Numeral.{Numeral}

-- digits of which the first one stands for this power of ten
abbrev pub scaled : List ℕ → ℕ → ℕ
scaled [] power = 0
scaled (d ∷ ds) power = d * 10 ^ power + scaled ds (power - 1)

-- the exponent, scaled
abbrev pub power_of : ℤ → ℕ
power_of (pos e) = 60 + e
power_of (negsuc k) = 59 - k

abbrev pub size_value : Numeral → ℕ
size_value n = scaled n.digits (power_of n.exponent)

abbrev pub value_of : Numeral → ℤ
value_of n = if n.negative then neg_ℤ (pos (size_value n)) else pos (size_value n)
