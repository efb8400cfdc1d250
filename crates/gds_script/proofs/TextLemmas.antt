-- The texts of answers: none has byte 10, and one that begins as an EPOCH's is that of this number.
use Rattle.std.proofs.Common.{◌≡◌, ℕ, zero, suc, ◌+◌, ◌*◌, ◌/◌, ◌%◌, ◌^◌, ◌<◌, ◌≤◌, Bool, true, false, cond, eqb, ltb}
use Rattle.std.proofs.Common.{List, [], ◌∷◌, ◌++◌, length, map, flat_map, drop, codes, refl, sym, ap, ◌∙◌, arith}
use Rattle.std.proofs.Common.{⊎_elim, pow-suc}
use Rattle.std.proofs.lemmas.Bool.{and_parts, false≢true, ne_eqb, cases_lt}
use Rattle.std.proofs.lemmas.Fmt.{decimal_is_IsNumeral, decimal_is_IsNumeral_wide, length-decimal-le}
use Rattle.std.specs.Fmt.{decimal, digit_glyph, digits, digits_onto}
use Rattle.std.specs.Str.Parse.{digits_value}
use Rattle.std.specs.Char.{is_ascii_alphabetic, is_ascii_alphanumeric}
use Rattle.std.specs.List.{All, list_all}
use Rattle.std.specs.Prelude.{◌||◌}
use Rattle.std.proofs.lemmas.List.Elements.{All-head, All-tail}
use Rattle.m_number.specs.Text.{text_of}
use Rattle.m_key.specs.Node.{IsNode, IsSubscript, Node, NodeSubscript, is_word, number, string}
use Rattle.m_key.specs.Reference.{is_node, is_subscript, name_bytes, node_of, node_subscript_of}
use Rattle.m_text.specs.Front.{is_number_byte, leads}
use Rattle.m_text.specs.Grammar.{Piece, Word, c, char, coded, doubled, joined, piece_text, quoted, reference_form}
use Rattle.m_text.specs.Grammar.{word_text, zch, zchar}
use Rattle.m_text.specs.Written.{is_printable, led_by, pieces_of, reference_text, run_of, runs_of, subscript_text}
use Rattle.m_text.specs.Written.{value_text}
use Rattle.m_text.specs.Written.{decimal as code_digits}
use Rattle.m_text.proofs.NumberLemmas.{number_bytes}
use Rattle.gds_globals.specs.Questions.{next_of}
use Rattle.gds_globals.specs.declared.questions.Next.{Next}
use Rattle.gds_globals.specs.declared.questions.Next.TheVariants as next
use Rattle.gds_script.specs.declared.answer.Answer.{Answer}
use Rattle.gds_script.specs.declared.answer.Answer.TheVariants.{BadLine, Data, Done, End, Epoch, Full, KeyTooLong}
use Rattle.gds_script.specs.declared.answer.Answer.TheVariants.{TnSpent, TooDeep, Undefined, Value, ValueTooLong}
use Rattle.gds_script.specs.declared.answer.Answer.TheVariants as answer
use Rattle.gds_script.specs.Answer.{answer_text, next_text}

-- no byte 10 is in it
abbrev pub IsOneLine : List ℕ → Type 0
IsOneLine [] = Unit {0}
IsOneLine (b ∷ bytes) = (eqb b 10 ≡ false) × IsOneLine bytes

abbrev AreOneLine : List (List ℕ) → Type 0
AreOneLine [] = Unit {0}
AreOneLine (text ∷ texts) = IsOneLine text × AreOneLine texts

pub one_line-append : (xs ys : List ℕ) → IsOneLine xs → IsOneLine ys → IsOneLine (xs ++ ys)
one_line-append [] ys h k = k
one_line-append (x ∷ xs) ys h k = (h.0, one_line-append xs ys h.1 k)

-- the same of constants, by a test
abbrev has_no_end : List ℕ → Bool
has_no_end [] = true
has_no_end (b ∷ bytes) = cond (eqb b 10) false (has_no_end bytes)

tested : (b : ℕ) (bytes : List ℕ) → (has_no_end bytes ≡ true → IsOneLine bytes) → (t : Bool) → eqb b 10 ≡ t
    → cond t false (has_no_end bytes) ≡ true → IsOneLine (b ∷ bytes)
tested b bytes rest true e h = absurd (false≢true h)
tested b bytes rest false e h = (e, rest h)

one_line_by_test : (bytes : List ℕ) → has_no_end bytes ≡ true → IsOneLine bytes
one_line_by_test [] h = tt
one_line_by_test (b ∷ bytes) h = tested b bytes (one_line_by_test bytes) (eqb b 10) refl h

-- ---- numbers

above_end : (n : ℕ) → 10 < n → eqb n 10 ≡ false
above_end n above = ne_eqb n 10 (λ e. absurd (omega (arith, e, above)))

glyph_by : (digit : ℕ) (t : Bool) → eqb (cond t (48 + digit) (87 + digit)) 10 ≡ false
glyph_by digit true = above_end (48 + digit) (omega arith)
glyph_by digit false = above_end (87 + digit) (omega arith)

one_of_two : (t : Bool) (xs ys : List ℕ) → IsOneLine xs → IsOneLine ys → IsOneLine (cond t xs ys)
one_of_two true xs ys h k = h
one_of_two false xs ys h k = k

digits_one_line : (k n : ℕ) (behind : List ℕ) → IsOneLine behind → IsOneLine (digits_onto k 10 false n behind)
digits_one_line zero n behind h = h
digits_one_line (suc k) n behind h =
    let more : IsOneLine (digit_glyph false (n % 10) ∷ behind) = (glyph_by (n % 10) (ltb (n % 10) 10), h) in
    one_of_two (eqb (n / 10) 0) _ _ more (digits_one_line k (n / 10) (digit_glyph false (n % 10) ∷ behind) more)

decimal_one_line : (n : ℕ) → IsOneLine (decimal n)
unfolding digits
decimal_one_line n = digits_one_line 64 n [] tt

-- ---- values

code_one_line : (b : ℕ) → IsOneLine (code_digits b)
code_one_line b =
    one_of_two (ltb b 10) _ _ (above_end (48 + b) (omega arith), tt)
    (one_of_two (ltb b 100) _ _ (above_end (48 + b / 10) (omega arith), (above_end (48 + b % 10) (omega arith), tt)) (
      above_end (48 + b / 100) (omega arith),
      (above_end (48 + b / 10 % 10) (omega arith), (above_end (48 + b % 10) (omega arith), tt)),
    ))

printable_no_end : (b : ℕ) → is_printable b ≡ true → eqb b 10 ≡ false
printable_no_end b h = ne_eqb b 10 (λ e. false≢true (ap is_printable (sym e) ∙ h))

-- what a piece is made of
abbrev IsPlain : Piece → Type 0
IsPlain (quoted bytes) = IsOneLine bytes
IsPlain (coded word numbers) = AreOneLine numbers

abbrev ArePlain : List Piece → Type 0
ArePlain [] = Unit {0}
ArePlain (piece ∷ pieces) = IsPlain piece × ArePlain pieces

run_by : (b : ℕ) (t : Bool) → is_printable b ≡ t
    → IsPlain (cond t (quoted (b ∷ [])) (coded c (code_digits b ∷ [])))
run_by b true e = (printable_no_end b e, tt)
run_by b false e = (code_one_line b, tt)

run_plain : (b : ℕ) → IsPlain (run_of b)
run_plain b = run_by b (is_printable b) refl

led_quoted : (b : ℕ) (bytes : List ℕ) (runs : List Piece) (t : Bool) → is_printable b ≡ t → IsOneLine bytes
    → ArePlain runs → ArePlain (cond t (quoted (b ∷ bytes) ∷ runs) (run_of b ∷ quoted bytes ∷ runs))
led_quoted b bytes runs true e h k = ((printable_no_end b e, h), k)
led_quoted b bytes runs false e h k = (run_plain b, (h, k))

led_coded : (b : ℕ) (word : Word) (numbers : List (List ℕ)) (runs : List Piece) (t : Bool) → AreOneLine numbers
    → ArePlain runs
    → ArePlain (cond t (run_of b ∷ coded word numbers ∷ runs) (coded word (code_digits b ∷ numbers) ∷ runs))
led_coded b word numbers runs true h k = (run_plain b, (h, k))
led_coded b word numbers runs false h k = ((code_one_line b, h), k)

led_plain : (b : ℕ) (runs : List Piece) → ArePlain runs → ArePlain (led_by b runs)
led_plain b [] h = (run_plain b, tt)
led_plain b (quoted bytes ∷ runs) h = led_quoted b bytes runs (is_printable b) refl h.0 h.1
led_plain b (coded word numbers ∷ runs) h = led_coded b word numbers runs (is_printable b) h.0 h.1

runs_plain : (value : List ℕ) → ArePlain (runs_of value)
runs_plain [] = tt
runs_plain (b ∷ value) = led_plain b (runs_of value) (runs_plain value)

pieces_plain : (value : List ℕ) → ArePlain (pieces_of value)
pieces_plain [] = (tt, tt)
pieces_plain (b ∷ value) = runs_plain (b ∷ value)

behind_one_line : (by : ℕ) → eqb by 10 ≡ false → (texts : List (List ℕ)) → AreOneLine texts
    → IsOneLine (flat_map (λ next. by ∷ next) texts)
behind_one_line by e [] h = tt
behind_one_line by e (text ∷ texts) h =
    one_line-append (by ∷ text) (flat_map (λ next. by ∷ next) texts) (e, h.0) (behind_one_line by e texts h.1)

joined_one_line : (by : ℕ) → eqb by 10 ≡ false → (texts : List (List ℕ)) → AreOneLine texts
    → IsOneLine (joined by texts)
joined_one_line by e [] h = tt
joined_one_line by e (text ∷ texts) h =
    one_line-append text (flat_map (λ next. by ∷ next) texts) h.0 (behind_one_line by e texts h.1)

doubled_one_line : (bytes : List ℕ) → IsOneLine bytes → IsOneLine (flat_map doubled bytes)
doubled_one_line [] h = tt
doubled_one_line (b ∷ bytes) h =
    one_line-append (doubled b) (flat_map doubled bytes)
    (one_of_two (eqb b 34) (34 ∷ 34 ∷ []) (b ∷ []) (refl, (refl, tt)) (h.0, tt)) (doubled_one_line bytes h.1)

word_one_line : (word : Word) → IsOneLine (word_text word)
word_one_line c = one_line_by_test (word_text c) refl
word_one_line char = one_line_by_test (word_text char) refl
word_one_line zch = one_line_by_test (word_text zch) refl
word_one_line zchar = one_line_by_test (word_text zchar) refl

piece_one_line : (piece : Piece) → IsPlain piece → IsOneLine (piece_text piece)
piece_one_line (quoted bytes) h =
    (refl, one_line-append (flat_map doubled bytes) (34 ∷ []) (doubled_one_line bytes h) (refl, tt))
piece_one_line (coded word numbers) h =
    one_line-append (word_text word) (40 ∷ (joined 44 numbers ++ 41 ∷ [])) (word_one_line word)
    (refl, one_line-append (joined 44 numbers) (41 ∷ []) (joined_one_line 44 refl numbers h) (refl, tt))

pieces_one_line : (pieces : List Piece) → ArePlain pieces → AreOneLine (map piece_text pieces)
pieces_one_line [] h = tt
pieces_one_line (piece ∷ pieces) h = (piece_one_line piece h.0, pieces_one_line pieces h.1)

pub value_one_line : (value : List ℕ) → IsOneLine (value_text value)
unfolding value_text
value_one_line value =
    joined_one_line 95 refl (map piece_text (pieces_of value)) (pieces_one_line (pieces_of value) (pieces_plain value))

-- ---- references

passed_one_line : (test : ℕ → Bool) → test 10 ≡ false → (bytes : List ℕ) → list_all test bytes ≡ true
    → IsOneLine bytes
passed_one_line test fails [] h = tt
passed_one_line test fails (b ∷ bytes) h =
    let both = and_parts (test b) (list_all test bytes) h in (
      ne_eqb b 10 (λ e. false≢true (sym fails ∙ ap test (sym e) ∙ both.0)),
      passed_one_line test fails bytes both.1,
    )

abbrev begins_word : ℕ → Bool
begins_word b = eqb b 37 || is_ascii_alphabetic b

word_is_one_line : (name : List ℕ) → is_word name ≡ true → IsOneLine name
word_is_one_line [] h = tt
word_is_one_line (b ∷ name) h =
    let both = and_parts (begins_word b) (list_all is_ascii_alphanumeric name) h in (
      ne_eqb b 10 (λ e. false≢true (ap begins_word (sym e) ∙ both.0)),
      passed_one_line is_ascii_alphanumeric refl name both.1,
    )

subscript_one_line : (s : NodeSubscript) → IsSubscript s → IsOneLine (subscript_text s)
subscript_one_line (number n) right = passed_one_line is_number_byte refl (text_of n) (number_bytes n right)
subscript_one_line (string text) right = value_one_line text

subscripts_one_line : (ss : List NodeSubscript) → All IsSubscript ss → AreOneLine (map subscript_text ss)
subscripts_one_line [] right = tt
subscripts_one_line (s ∷ ss) right = (
  subscript_one_line s (All-head IsSubscript s ss right),
  subscripts_one_line ss (All-tail IsSubscript s ss right),
)

form_one_line : (name : List ℕ) (texts : List (List ℕ)) → IsOneLine name → AreOneLine texts
    → IsOneLine (reference_form name texts)
form_one_line name [] h k = (refl, h)
form_one_line name (text ∷ texts) h k =
    let list = one_line-append (joined 44 (text ∷ texts)) (41 ∷ []) (joined_one_line 44 refl (text ∷ texts) k)
    (refl, tt) in (
      refl,
      one_line-append name (40 ∷ (joined 44 (text ∷ texts) ++ 41 ∷ [])) h (refl, list),
    )

reference_one_line : (node : Node) → IsNode node → IsOneLine (reference_text node)
unfolding reference_text
reference_one_line node right =
    form_one_line node.name (map subscript_text node.subscripts) (word_is_one_line node.name right.name.word)
    (subscripts_one_line node.subscripts right.subscripts)

next_one_line : (next : Next) → IsOneLine (next_text (next_of next))
next_one_line (next.Name name) = (refl, word_is_one_line (name_bytes name) name.is_name.word)
next_one_line (next.Subscript s) = subscript_one_line (node_subscript_of s) (is_subscript s)

-- ---- answers

with_number : (word : List ℕ) (n : ℕ) → has_no_end word ≡ true → IsOneLine (word ++ decimal n)
with_number word n h = one_line-append word (decimal n) (one_line_by_test word h) (decimal_one_line n)

pub answer_one_line : (answer : Answer) → IsOneLine (answer_text answer)
answer_one_line Done = one_line_by_test (codes "OK") refl
answer_one_line (KeyTooLong len) = with_number (codes "KEYTOOLONG ") len refl
answer_one_line (ValueTooLong len) = with_number (codes "VALUETOOLONG ") len refl
answer_one_line TnSpent = one_line_by_test (codes "TNSPENT") refl
answer_one_line (Full free) = with_number (codes "FULL ") free refl
answer_one_line TooDeep = one_line_by_test (codes "TOODEEP 7") refl
answer_one_line (Value value) =
    one_line-append (codes "VALUE ") (value_text value.items) (one_line_by_test (codes "VALUE ") refl)
    (value_one_line value.items)
answer_one_line Undefined = one_line_by_test (codes "UNDEF") refl
answer_one_line (answer.Next next) =
    one_line-append (codes "NEXT ") (next_text (next_of next)) (one_line_by_test (codes "NEXT ") refl)
    (next_one_line next)
answer_one_line End = one_line_by_test (codes "END") refl
answer_one_line (Data found) = with_number (codes "DATA ") found refl
answer_one_line (answer.Node reference) =
    one_line-append (codes "NODE ") (reference_text (node_of reference)) (one_line_by_test (codes "NODE ") refl)
    (reference_one_line (node_of reference) (is_node reference))
answer_one_line (Epoch changes) = with_number (codes "EPOCH ") changes refl
answer_one_line BadLine = one_line_by_test (codes "BADLINE") refl

-- An answer whose text begins as that of an EPOCH is one.
pub record IsEpoch (n : ℕ) (answer : Answer) : Type 0 where
  pub changes : ℕ
  pub is : answer ≡ Epoch changes
  pub digits : decimal n ≡ decimal changes

-- no other text begins with an E and a P
other_first : (n : ℕ) (answer : Answer) → codes "EPOCH " ++ decimal n ≡ answer_text answer
    → leads 69 (answer_text answer) ≡ false → IsEpoch n answer
other_first n answer e other = absurd (false≢true (sym other ∙ sym (ap (leads 69) e)))

pub epoch_of_text : (n : ℕ) (answer : Answer) → codes "EPOCH " ++ decimal n ≡ answer_text answer → IsEpoch n answer
epoch_of_text n (Epoch changes) e = record { changes = changes; is = refl; digits = ap (drop 6) e }
epoch_of_text n Done e = other_first n Done e refl
epoch_of_text n (KeyTooLong len) e = other_first n (KeyTooLong len) e refl
epoch_of_text n (ValueTooLong len) e = other_first n (ValueTooLong len) e refl
epoch_of_text n TnSpent e = other_first n TnSpent e refl
epoch_of_text n (Full free) e = other_first n (Full free) e refl
epoch_of_text n TooDeep e = other_first n TooDeep e refl
epoch_of_text n (Value value) e = other_first n (Value value) e refl
epoch_of_text n Undefined e = other_first n Undefined e refl
epoch_of_text n (answer.Next next) e = other_first n (answer.Next next) e refl
epoch_of_text n End e = absurd (false≢true (sym (ap (λ text. leads 80 (drop 1 text)) e)))
epoch_of_text n (Data found) e = other_first n (Data found) e refl
epoch_of_text n (answer.Node reference) e = other_first n (answer.Node reference) e refl
epoch_of_text n BadLine e = other_first n BadLine e refl

-- ---- one number for one text

some_power : (k : ℕ) → 0 < 10 ^ k
some_power zero = omega arith
some_power (suc k) =
    let less = some_power k in
    let power : 10 ^ suc k ≡ 10 ^ k * 10 = pow-suc 10 k in omega (arith, less, power)

digits_many : (k n : ℕ) (behind : List ℕ) → 10 ^ k ≤ n
    → length (digits_onto k 10 false n behind) ≡ k + length behind
digits_many zero n behind h = omega arith
digits_many (suc k) n behind h =
    let some = some_power k in
    let power : 10 ^ suc k ≡ 10 ^ k * 10 = pow-suc 10 k in
    let more : 10 ^ k ≤ n / 10 = omega (arith, h, power) in
    let goes : eqb (n / 10) 0 ≡ false = ne_eqb (n / 10) 0 (λ e. absurd (omega (arith, some, more, e))) in
    let last : ℕ = digit_glyph false (n % 10) in
    ap (λ t. length (cond t (last ∷ behind) (digits_onto k 10 false (n / 10) (last ∷ behind)))) goes
    ∙ digits_many k (n / 10) (last ∷ behind) more
    ∙ omega arith

decimal_many : (n : ℕ) → 10 ^ 64 ≤ n → length (decimal n) ≡ 64
unfolding digits
decimal_many n h = digits_many 64 n [] h

pub decimal_same : (n m : ℕ) → m < 2 ^ 64 → decimal n ≡ decimal m → n ≡ m
decimal_same n m small e =
    ⊎_elim
    (λ (below : n < 10 ^ 64).
    sym (decimal_is_IsNumeral_wide n below).1 ∙ ap (digits_value 10) e ∙ (decimal_is_IsNumeral m small).1)
    (λ (above : 10 ^ 64 ≤ n).
    let short = length-decimal-le 20 m (omega arith) (omega (arith, small)) small in
    absurd (omega (arith, decimal_many n above, ap length e, short)))
    (cases_lt n (10 ^ 64))
