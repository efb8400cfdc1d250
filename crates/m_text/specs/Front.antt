-- How texts are read from their front: what was found there and the text behind it. None says that nothing was.
use Rattle.std.specs.Prelude.{◌≡◌, ℕ, zero, suc, Bool, true, false, ◌&&◌, ◌||◌, ◌==◌, nat_le, List, [], ◌∷◌, ◌++◌}
use Rattle.std.specs.Prelude.{length, take, drop, Option, None, Some, option_and_then, if◌then◌else◌}
use Rattle.std.specs.Char.{is_ascii_digit}
use Rattle.std.specs.List.{prefix_len}
use Rattle.m_text.specs.Grammar.{c, char, zch, zchar, word_text, code_value}

-- a front and the text behind it
abbrev pub Found : Type 0
Found = List ℕ × List ℕ

abbrev pub with_front : List ℕ → Option Found → Option Found
with_front front None = None
with_front front (Some found) = Some (front ++ found.0, found.1)

-- whether the text begins with a byte
abbrev pub leads : ℕ → List ℕ → Bool
leads by [] = false
leads by (b ∷ bs) = b == by

-- the bytes in quotes, behind the first quote. The test tells whether another stands right before the text.
abbrev pub quoted_at : Bool → List ℕ → Option Found
quoted_at false [] = None
quoted_at true [] = Some ([], [])
quoted_at false (b ∷ bs) = if b == 34 then quoted_at true bs else with_front (b ∷ []) (quoted_at false bs)
quoted_at true (b ∷ bs) = if b == 34 then with_front (34 ∷ []) (quoted_at false bs) else Some ([], b ∷ bs)

-- the byte that the digits are the code of
abbrev pub code_at : List ℕ → Option Found
code_at text =
    let count = prefix_len is_ascii_digit text in
    let value = code_value (take count text) in
    if nat_le 1 count && (nat_le count 3 && nat_le value 255) then Some (value ∷ [], drop count text) else None

-- what is read behind a byte, put behind what was found before it
abbrev pub continued : ℕ → (List ℕ → Option Found) → List ℕ → List ℕ → Option Found
continued by next front [] = Some (front, [])
continued by next front (b ∷ bs) = if b == by then with_front front (next bs) else Some (front, b ∷ bs)

-- an item, and as long as a byte follows, another one behind that byte. There are fewer than the count.
abbrev pub separated_at : (List ℕ → Option Found) → ℕ → ℕ → List ℕ → Option Found
separated_at item by zero text = None
separated_at item by (suc count) text =
    option_and_then (λ found. continued by (separated_at item by count) found.0 found.1) (item text)

-- as many as there are
abbrev pub list_at : (List ℕ → Option Found) → ℕ → List ℕ → Option Found
list_at item by text = separated_at item by (suc (length text)) text

-- the same with ')' behind it
abbrev pub closed_by : List ℕ → List ℕ → Option Found
closed_by front [] = None
closed_by front (b ∷ bs) = if b == 41 then Some (front, bs) else None

abbrev pub codes_at : List ℕ → Option Found
codes_at text = option_and_then (λ found. closed_by found.0 found.1) (list_at code_at 44 text)

-- the text behind a front
abbrev pub behind : List ℕ → List ℕ → Option (List ℕ)
behind [] text = Some text
behind (f ∷ front) [] = None
behind (f ∷ front) (b ∷ text) = if b == f then behind front text else None

abbrev pub first_some : Option (List ℕ) → Option (List ℕ) → Option (List ℕ)
first_some (Some text) other = Some text
first_some None other = other

-- the text behind one of the words and '('
abbrev pub behind_word : List ℕ → Option (List ℕ)
behind_word text =
    first_some (behind (word_text c ++ 40 ∷ []) text)
    (first_some (behind (word_text char ++ 40 ∷ []) text)
    (first_some (behind (word_text zch ++ 40 ∷ []) text)
    (behind (word_text zchar ++ 40 ∷ []) text)))

abbrev pub piece_at : List ℕ → Option Found
piece_at [] = None
piece_at (b ∷ bs) = if b == 34 then quoted_at false bs else option_and_then codes_at (behind_word (b ∷ bs))

abbrev pub string_at : List ℕ → Option Found
string_at text = list_at piece_at 95 text

-- What was found was appended, and this is the text behind it.
abbrev pub Appends : List ℕ → List ℕ → Option (List ℕ) → Option Found → Type 0
Appends old new (Some rest) found = with_front old found ≡ Some (new, rest)
Appends old new None found = found ≡ None

-- a byte that a number's text may have
abbrev pub is_number_byte : ℕ → Bool
is_number_byte b = b == 45 || b == 46 || is_ascii_digit b
