-- The order of numbers by value, said on signs, exponents and digits.
use Rattle.std.specs.Prelude.{ℕ, ◌==◌, length, if◌then◌else◌}
use Rattle.std.specs.Ordering.{nat_cmp, int_cmp, ordering_then}
use Rattle.std.specs.Cmp.Lexicographic.{slice_cmp}
use Rattle.std.specs.declared.cmp.Ordering.{Ordering}
use Rattle.m_number.specs.Numeral.{Numeral}

-- negatives before zero before positives
abbrev pub side_of : Numeral → ℕ
side_of n = if length n.digits == 0 then 1 else (if n.negative then 0 else 2)

-- without signs: by exponent, then by the digits one after another, where a list that ends first is less
abbrev pub size_cmp : Numeral → Numeral → Ordering
size_cmp a b = ordering_then (int_cmp a.exponent b.exponent) (slice_cmp nat_cmp a.digits b.digits)

unfoldable pub number_cmp : Numeral → Numeral → Ordering
number_cmp a b =
    ordering_then (nat_cmp (side_of a) (side_of b))
    (if a.negative then size_cmp b a else size_cmp a b)
