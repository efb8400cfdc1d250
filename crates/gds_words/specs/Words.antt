-- The grammar of the command line: its words, each a list of bytes.
use Rattle.std.specs.Prelude.{◌≡◌, ℕ, ◌+◌, Bool, ◌&&◌, nat_le, List, [], ◌∷◌, length, take, drop, Option, Some, None}
use Rattle.std.specs.Prelude.{Result, Ok, Err, codes, map, string_bytes, if◌then◌else◌}
use Rattle.std.specs.List.{list_all}
use Rattle.std.specs.Str.{str_eq_ignore_ascii_case}
use Rattle.std.specs.declared.string.String.{String}
use Rattle.arrayvec.specs.ArrayVec.{ArrayVec}
use Rattle.m_text.specs.Written.{is_printable}
use Rattle.gds_header.specs.declared.header.Header.{Header}
use Rattle.gds_header.specs.Kinds.{IsWithinLimits}
use Rattle.gds_words.specs.declared.words.Command.{Command}
use Rattle.gds_words.specs.declared.words.Command.TheVariants.{Version, Integ, Extract, Create, Run}
use Rattle.gds_words.specs.declared.words.BadWords.{BadWords}
use Rattle.gds_words.specs.declared.qualifier.Qualifier.TheVariants.{Block, Key, Value, Alloc, Ext, Limit}
use Rattle.gds_words.specs.Create.{fit, number_in, odd_place}

abbrev pub bad_at : ℕ → Result Command BadWords
bad_at place = Err (record { place = place })

-- a command with no words behind its name
abbrev pub alone : Command → List (List ℕ) → Result Command BadWords
alone command [] = Ok command
alone command (word ∷ words) = bad_at 1

-- `-STAMP=`, its letters in any case, and then printable bytes
abbrev pub leads_stamp : List ℕ → Bool
leads_stamp word = str_eq_ignore_ascii_case (take 7 word) (codes "-STAMP=") && list_all is_printable (drop 7 word)

-- the stamp, as it is written there, of 64 bytes at most
abbrev pub stamp_of : List ℕ → Option (ArrayVec ℕ)
stamp_of word =
    if leads_stamp word && nat_le (length (drop 7 word)) 64 then Some (record { items = drop 7 word }) else None

-- An extract. Without that word its stamp is empty.
abbrev pub stamped : Option (ArrayVec ℕ) → List (List ℕ) → Result Command BadWords
stamped None words = bad_at 1
stamped (Some stamp) [] = Ok (Extract stamp)
stamped (Some stamp) (word ∷ words) = bad_at 2

abbrev pub extract_of : List (List ℕ) → Result Command BadWords
extract_of [] = Ok (Extract (record { items = [] }))
extract_of (word ∷ words) = stamped (stamp_of word) words

-- what CREATE makes where all words behind its name go on
abbrev pub created : List (List ℕ) → Result Command BadWords
created words =
    let block = number_in Block words in
    let key = number_in Key words in
    let value = number_in Value words in
    let alloc = number_in Alloc words in
    let limit = number_in Limit words in
    if fit block key value alloc limit then Ok (Create block key value alloc (number_in Ext words) limit)
    else bad_at (length words + 1)

abbrev pub where_all_go_on : Option ℕ → Result Command BadWords → Result Command BadWords
where_all_go_on None read = read
where_all_go_on (Some n) read = bad_at (n + 1)

abbrev pub create_of : List (List ℕ) → Result Command BadWords
create_of words = where_all_go_on (odd_place words) (created words)

-- a header with the numbers of CREATE is within the limits
abbrev pub MakesHeader : Command → Type 0
MakesHeader (Create block key value alloc ext limit) =
    (h : Header) → h.block_size ≡ block → h.key_max ≡ key → h.value_max ≡ value → h.total ≡ alloc → h.extension ≡ ext
    → h.limit ≡ limit → IsWithinLimits h
MakesHeader other = Unit {0}

-- The place of bad words is that of the first word that no command goes on with, or where all words do the number of
-- words.
abbrev pub command_of : List (List ℕ) → Result Command BadWords
command_of [] = bad_at 0
command_of (name ∷ words) =
    if str_eq_ignore_ascii_case name (codes "VERSION") then alone Version words
    else (if str_eq_ignore_ascii_case name (codes "INTEG") then alone Integ words
    else (if str_eq_ignore_ascii_case name (codes "RUN") then alone Run words
    else (if str_eq_ignore_ascii_case name (codes "CREATE") then create_of words
    else (if str_eq_ignore_ascii_case name (codes "EXTRACT") then extract_of words
    else bad_at 0))))

-- the command that these words of a command line name
abbrev pub command_in : {Z : Type 0} → List (String Z) → Result Command BadWords
command_in words = command_of (map string_bytes words)
