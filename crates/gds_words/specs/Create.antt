-- The words of CREATE behind its name. Each gives a qualifier a number.
use Rattle.std.specs.Prelude.{ℕ, ◌+◌, ◌*◌, ◌%◌, Bool, not, ◌&&◌, ◌==◌, nat_le, List, [], length, take, drop, Option}
use Rattle.std.specs.Prelude.{None, Some, codes, find, slice_index_or}
use Rattle.std.specs.List.{list_all, list_any, range_with_len}
use Rattle.std.specs.Char.{is_ascii_digit}
use Rattle.std.specs.Str.{str_eq_ignore_ascii_case}
use Rattle.m_text.specs.Grammar.{code_value}
use Rattle.gds_words.specs.declared.qualifier.Qualifier.{Qualifier}
use Rattle.gds_words.specs.declared.qualifier.Qualifier.TheVariants.{Block, Key, Value, Alloc, Ext, Limit}
use Rattle.gds_words.specs.declared.qualifier.TheConstants.{QUALIFIERS}

-- how the word of a qualifier begins
abbrev pub name_of : Qualifier → List ℕ
name_of Block = codes "-BLOCK="
name_of Key = codes "-KEY="
name_of Value = codes "-VALUE="
name_of Alloc = codes "-ALLOC="
name_of Ext = codes "-EXT="
name_of Limit = codes "-LIMIT="

-- its number where no word gives one
abbrev pub default_of : Qualifier → ℕ
default_of Block = 1024
default_of Key = 64
default_of Value = 400
default_of Alloc = 100
default_of Ext = 100
default_of Limit = 1048576

-- low to high, both included
abbrev pub is_within : ℕ → ℕ → ℕ → Bool
is_within low high n = nat_le low n && nat_le n high

-- the numbers that it may have, whatever those of the others are
abbrev pub allows : Qualifier → ℕ → Bool
allows Block n = is_within 512 65024 n && n % 512 == 0
allows Key n = is_within 3 255 n
allows Value n = nat_le n 65024
allows Alloc n = is_within 3 1048576 n
allows Ext n = is_within 64 65535 n
allows Limit n = is_within 64 1048576 n

-- a number is 1 to 10 digits
abbrev pub is_number : List ℕ → Bool
is_number text = is_within 1 10 (length text) && list_all is_ascii_digit text

-- what stands behind the qualifier's name, as a text and as a number
abbrev pub text_of : Qualifier → List ℕ → List ℕ
text_of q word = drop (length (name_of q)) word

abbrev pub number_of : Qualifier → List ℕ → ℕ
number_of q word = code_value (text_of q word)

-- the word begins with the qualifier's name, its letters in any case
abbrev pub is_named : Qualifier → List ℕ → Bool
is_named q word = str_eq_ignore_ascii_case (take (length (name_of q)) word) (name_of q)

-- The word gives the qualifier a number that it may have.
unfoldable pub gives : Qualifier → List ℕ → Bool
gives q word = is_named q word && is_number (text_of q word) && allows q (number_of q word)

-- The word goes on behind others where it gives a qualifier that none of them gives.
unfoldable pub goes_on : List (List ℕ) → List ℕ → Bool
goes_on before word = list_any (λ q. gives q word && not (list_any (gives q) before)) QUALIFIERS

-- the place of the first word that doesn't go on behind those before it
unfoldable pub odd_place : List (List ℕ) → Option ℕ
odd_place words =
    find (λ n. not (goes_on (take n words) (slice_index_or words n []))) (range_with_len 0 (length words))

-- the qualifier's number among these words
abbrev pub number_or : ℕ → Qualifier → Option (List ℕ) → ℕ
number_or other q None = other
number_or other q (Some word) = number_of q word

unfoldable pub number_in : Qualifier → List (List ℕ) → ℕ
number_in q words = number_or (default_of q) q (find (gives q) words)

-- Three keys fit into a block, and so do a key and a value, each with what stands around them; and the blocks of the
-- new file are within the limit.
abbrev pub fit : ℕ → ℕ → ℕ → ℕ → ℕ → Bool
fit block key value alloc limit =
    nat_le (16 + 3 * (8 + key)) block && nat_le (20 + key + value) block && nat_le alloc limit
