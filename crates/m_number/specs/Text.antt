-- The canonical text of a number, as ASCII codes: 45 is '-', 46 is '.', 48 is '0'.
use Rattle.std.specs.Prelude.{ℕ, ◌+◌, ◌-◌, ◌==◌, ℤ, pos, negsuc, List, [], ◌∷◌, ◌++◌, length, take, drop, map}
use Rattle.std.specs.Prelude.{replicate, nat_le, if◌then◌else◌}
use Rattle.m_number.specs.Numeral.{Numeral}

abbrev pub codes_of : List ℕ → List ℕ
codes_of digits = map (λ d. 48 + d) digits

-- a number of 1 or more, so many digits of which are whole: zeros make up for digits that it lacks, and a
-- point stands before those past them
abbrev pub large_text : List ℕ → ℕ → List ℕ
large_text digits whole =
    if nat_le (length digits) whole
    then codes_of digits ++ replicate (whole - length digits) 48
    else codes_of (take whole digits) ++ 46 ∷ codes_of (drop whole digits)

-- a number below 1 has its point first, and then the zeros before its digits
abbrev pub nonzero_text : List ℕ → ℤ → List ℕ
nonzero_text digits (pos e) = large_text digits (e + 1)
nonzero_text digits (negsuc zeros) = 46 ∷ replicate zeros 48 ++ codes_of digits

-- a number without its sign
abbrev pub size_text : List ℕ → ℤ → List ℕ
size_text digits exponent = if length digits == 0 then 48 ∷ [] else nonzero_text digits exponent

unfoldable pub text_of : Numeral → List ℕ
text_of n =
    if n.negative then 45 ∷ size_text n.digits n.exponent else size_text n.digits n.exponent
