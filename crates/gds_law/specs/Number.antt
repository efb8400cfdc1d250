-- Which texts and which bytes are those of a canonical number, as tests. A number's digits can be read off both, so
-- that
-- only sign and exponent are to be tried.
use Rattle.std.specs.Prelude.{ℕ, ◌-◌, Bool, true, false, ◌&&◌, ◌||◌, ◌==◌, nat_lt, nat_le, ℤ, pos, negsuc, List, []}
use Rattle.std.specs.Prelude.{◌∷◌, ◌++◌, length, take, drop, map, filter, flat_map, slice_index, bytes_eq, reverse}
use Rattle.std.specs.Prelude.{if◌then◌else◌}
use Rattle.std.specs.List.{list_all, list_any, range_with_len}
use Rattle.std.specs.Char.{is_ascii_digit}
use Rattle.m_number.specs.Numeral.{Numeral}
use Rattle.m_number.specs.Text.{text_of}
use Rattle.m_number.specs.Bytes.{bytes_of}
use Rattle.m_number.specs.Packed.{pair_of, unfilled}

-- up to 18 decimal digits, of which neither the first nor the last is 0
abbrev pub are_digits : List ℕ → Bool
are_digits ds =
    nat_le (length ds) 18 && list_all (λ d. nat_lt d 10) ds
    && (length ds == 0 || (nat_lt 0 (slice_index ds 0) && nat_lt 0 (slice_index ds (length ds - 1))))

-- the exponents that a number may have, from -43 to 46
abbrev pub exponents : List ℤ
exponents = map negsuc (range_with_len 0 43) ++ map pos (range_with_len 0 47)

-- the numbers with these digits: 0 alone where there are none
unfoldable pub numbers_with : List ℕ → List Numeral
numbers_with ds =
    if are_digits ds
    then (if length ds == 0
    then record { negative = false; digits = []; exponent = pos 0 } ∷ []
    else map (λ e. record { negative = false; digits = ds; exponent = e }) exponents
    ++ map (λ e. record { negative = true; digits = ds; exponent = e }) exponents)
    else []

-- the digits in a text from the first to the last that isn't 0
abbrev pub without_zeros : List ℕ → List ℕ
without_zeros [] = []
without_zeros (d ∷ ds) = if d == 0 then without_zeros ds else d ∷ ds

abbrev pub significant : List ℕ → List ℕ
significant text = reverse (without_zeros (reverse (without_zeros (map (λ b. b - 48) (filter is_ascii_digit text)))))

-- The text is a canonical number's.
unfoldable pub is_number_text : List ℕ → Bool
is_number_text text = list_any (λ n. bytes_eq (text_of n) text) (numbers_with (significant text))

-- the digits in the packed bytes of a number of this sign: those behind the first byte, and for a negative number
-- before
-- the last
abbrev pub packed_digits : List ℕ → List ℕ
packed_digits bytes =
    if nat_lt 0x80 (slice_index bytes 0)
    then unfilled (flat_map (pair_of false) (drop 1 bytes))
    else unfilled (flat_map (pair_of true) (drop 1 (take (length bytes - 1) bytes)))

-- The bytes are a canonical number's.
unfoldable pub is_number_bytes : List ℕ → Bool
is_number_bytes bytes = list_any (λ n. bytes_eq (bytes_of n) bytes) (numbers_with (packed_digits bytes))
