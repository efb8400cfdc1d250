-- The bytes of a number in a key.
use Rattle.std.specs.Prelude.{ℕ, ◌+◌, ◌-◌, ◌*◌, ◌==◌, ℤ, pos, negsuc, List, [], ◌∷◌, ◌++◌, length, map, if◌then◌else◌}
use Rattle.m_number.specs.Numeral.{Numeral}

-- 0xBF plus the exponent
abbrev pub first_byte : ℤ → ℕ
first_byte (pos e) = 0xBF + e
first_byte (negsuc k) = 0xBE - k

-- The digits in pairs, each as one packed byte plus 1. An odd count is filled with a 0.
abbrev pub pairs_of : List ℕ → List ℕ
pairs_of [] = []
pairs_of (a ∷ []) = (16 * a + 1) ∷ []
pairs_of (a ∷ b ∷ ds) = (16 * a + b + 1) ∷ pairs_of ds

-- a number that isn't zero, without its sign
abbrev pub size_bytes : Numeral → List ℕ
size_bytes n = first_byte n.exponent ∷ pairs_of n.digits

abbrev pub complement : List ℕ → List ℕ
complement bytes = map (λ b. 0xFF - b) bytes

unfoldable pub bytes_of : Numeral → List ℕ
bytes_of n =
    if length n.digits == 0 then 0x80 ∷ []
    else (if n.negative then complement (size_bytes n) ++ 0xFF ∷ [] else size_bytes n)
