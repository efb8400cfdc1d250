-- The first line of a text: where it ends in a front of the text, and what the list of lines begins with.
use Rattle.std.proofs.Common.{◌≡◌, ℕ, suc, zero, ◌+◌, ◌-◌, ◌<◌, ◌≤◌, Bool, true, false, not, cond, eqb, List, [], ◌∷◌}
use Rattle.std.proofs.Common.{◌++◌, length, get_or, take, drop, map, Option, None, Some, refl, sym, ap, ◌∙◌, arith}
use Rattle.std.proofs.Common.{⊎_elim, length-append, length-take-le, take-append-drop, MatchOption}
use Rattle.std.proofs.lemmas.Bool.{lt-ltb, le-ltb, ne_eqb, cases_lt}
use Rattle.std.proofs.lemmas.List.{take_rest, length-drop, take-append-le, drop-append-le, take-take, drop-drop}
use Rattle.std.proofs.lemmas.List.{drop_at, drop_all, take_all}
use Rattle.std.proofs.lemmas.List.Splits.{slice_split_none, slice_split_first, length-slice_split}
use Rattle.std.proofs.lemmas.List.Sums.{fails_before_first, prefix_len-le-length, position_or_len_is}
use Rattle.memchr.specs.Find.{IsFirstByte, is_byte}
use Rattle.std.specs.Io.KnownBytes.{prepend_known}
use Rattle.std.specs.Prelude.{IfSome, is_some, nat_lt}
use Rattle.std.specs.List.{prefix_len, before_first, slice_split}
use Rattle.std.specs.Str.Lines.{lines, lines_of_parts, strip_carriage_return}
use Rattle.gds_lines.specs.declared.TheConstants.{LINE_LIMIT}
use Rattle.gds_lines.specs.Lines.{is_line_end, line_len, first_line, after_first_line, given, next_line, AnswersInTurn}

-- the longest front that passes a test, of two lists joined
prefix_len-append_stop : (q : ℕ → Bool) (xs ys : List ℕ) → prefix_len q xs < length xs
    → prefix_len q (xs ++ ys) ≡ prefix_len q xs
prefix_len-append_stop q [] ys h = absurd (omega arith)
prefix_len-append_stop q (x ∷ xs) ys h =
    (elim (q x) as (λ b. cond b (1 + prefix_len q xs) 0 < suc (length xs)
    → cond b (1 + prefix_len q (xs ++ ys)) 0 ≡ cond b (1 + prefix_len q xs) 0)
    [ true ↦ λ k. ap (λ n. 1 + n) (prefix_len-append_stop q xs ys (omega arith)) | false ↦ λ k. refl ])
    h

prefix_len-append_all : (q : ℕ → Bool) (xs ys : List ℕ) → prefix_len q xs ≡ length xs
    → prefix_len q (xs ++ ys) ≡ length xs + prefix_len q ys
prefix_len-append_all q [] ys h = omega arith
prefix_len-append_all q (x ∷ xs) ys h =
    (elim (q x) as (λ b. cond b (1 + prefix_len q xs) 0 ≡ suc (length xs)
    → cond b (1 + prefix_len q (xs ++ ys)) 0 ≡ suc (length xs) + prefix_len q ys)
    [ true ↦ λ k. omega (arith, prefix_len-append_all q xs ys (omega arith)) | false ↦ λ k. absurd (omega arith) ])
    h

prefix_len-take : (q : ℕ → Bool) (n : ℕ) (xs : List ℕ) → n ≤ prefix_len q xs → prefix_len q (take n xs) ≡ n
prefix_len-take q zero xs h = refl
prefix_len-take q (suc n) [] h = absurd (omega arith)
prefix_len-take q (suc n) (x ∷ xs) h =
    (elim (q x) as (λ b. suc n ≤ cond b (1 + prefix_len q xs) 0 → cond b (1 + prefix_len q (take n xs)) 0 ≡ suc n)
    [ true ↦ λ k. omega (arith, prefix_len-take q n xs (omega arith)) | false ↦ λ k. absurd (omega arith) ])
    h

-- the same, of line ends
pub line_len-le : (xs : List ℕ) → line_len xs ≤ length xs
line_len-le xs = prefix_len-le-length (λ b. not (is_line_end b)) xs

pub line_len-append_found : (xs ys : List ℕ) → line_len xs < length xs → line_len (xs ++ ys) ≡ line_len xs
line_len-append_found xs ys h = prefix_len-append_stop (λ b. not (is_line_end b)) xs ys h

pub line_len-append_none : (xs ys : List ℕ) → line_len xs ≡ length xs → line_len (xs ++ ys) ≡ length xs + line_len ys
line_len-append_none xs ys h = prefix_len-append_all (λ b. not (is_line_end b)) xs ys h

pub line_len-take : (n : ℕ) (xs : List ℕ) → n ≤ line_len xs → line_len (take n xs) ≡ n
line_len-take n xs h = prefix_len-take (λ b. not (is_line_end b)) n xs h

drop-append_past : (xs ys : List ℕ) (n k : ℕ) → k ≡ length xs + n → drop k (xs ++ ys) ≡ drop n ys
drop-append_past xs ys n k h =
    rw h (sym (drop-drop n (length xs) (xs ++ ys)) ∙ ap (drop n) (drop_at xs ys (length xs) refl))

-- the two forms of a first line
pub first_line-ended : (text : List ℕ) → line_len text < length text
    → first_line text ≡ strip_carriage_return (take (line_len text) text)
first_line-ended text h = ap (λ b. cond b (strip_carriage_return (take (line_len text) text)) text) (lt-ltb _ _ h)

pub first_line-unended : (text : List ℕ) → line_len text ≡ length text → first_line text ≡ text
first_line-unended text h =
    ap (λ b. cond b (strip_carriage_return (take (line_len text) text)) text) (le-ltb _ _ (omega arith))

pub next_line-some : (text : List ℕ) → 0 < length text → next_line text ≡ Some (given (first_line text))
next_line-some [] h = absurd (omega arith)
next_line-some (b ∷ bs) h = refl

-- a text whose first line end stands in its front
pub next_line-ended : (text : List ℕ) → line_len text < length text
    → next_line text ≡ Some (given (strip_carriage_return (take (line_len text) text)))
next_line-ended text h = next_line-some text (omega arith) ∙ ap (λ l. Some (given l)) (first_line-ended text h)

pub next_line-front : (held more : List ℕ) → line_len held < length held → next_line (held ++ more) ≡ next_line held
next_line-front held more h =
    let long = length-append held more in
    let same = line_len-append_found held more h in
    let cut : take (line_len (held ++ more)) (held ++ more) ≡ take (line_len held) held =
    rw same (take-append-le _ held more (omega arith)) in
    next_line-ended (held ++ more) (omega arith) ∙ ap (λ l. Some (given (strip_carriage_return l))) cut
    ∙ sym (next_line-ended held h)

pub after_first_line-front : (held more : List ℕ) → line_len held < length held
    → after_first_line (held ++ more) ≡ after_first_line held ++ more
after_first_line-front held more h =
    ap (λ n. drop (n + 1) (held ++ more)) (line_len-append_found held more h) ∙ drop-append-le _ held more (omega arith)

-- a text with no line end
pub next_line-unended : (text : List ℕ) → line_len text ≡ length text → 0 < length text
    → next_line text ≡ Some (given text)
next_line-unended text h some = next_line-some text some ∙ ap (λ l. Some (given l)) (first_line-unended text h)

pub after_first_line-unended : (text : List ℕ) → line_len text ≡ length text → after_first_line text ≡ []
after_first_line-unended text h = drop_all _ text (omega arith)

-- What a line loses at its end isn't among its first bytes.
take-strip : (m : ℕ) (line : List ℕ) → m + 1 ≤ length line → take m (strip_carriage_return line) ≡ take m line
take-strip m line h =
    elim (eqb (get_or line (length line - 1) 0) 13) as
    (λ b. take m (cond b (take (length line - 1) line) line) ≡ take m line)
    [ true ↦ take-take m (length line - 1) line (omega arith) | false ↦ refl ]

-- A line of more bytes than are given of it
take-first_line : (m : ℕ) (text : List ℕ) → m + 1 ≤ line_len text → take m (first_line text) ≡ take m text
take-first_line m text h =
    let low = line_len-le text in
    ⊎_elim
    (λ ended. rw (first_line-ended text ended) (take-strip m (take (line_len text) text)
    (rw length-take-le (omega arith)) ∙ take-take m (line_len text) text (omega arith)))
    (λ whole. rw (first_line-unended text (omega arith)) refl)
    (cases_lt (line_len text) (length text))

-- A reader takes the same line and the same rest off both texts.
pub record LooksAs (one other : List ℕ) : Type 0 where
  pub line : next_line one ≡ next_line other
  pub rest : after_first_line one ≡ after_first_line other

pub LooksAs-refl : (text : List ℕ) → LooksAs text text
LooksAs-refl text = record { line = refl; rest = refl }

pub LooksAs-trans : (a b c : List ℕ) → LooksAs a b → LooksAs b c → LooksAs a c
LooksAs-trans a b c p q = record { line = p.line ∙ q.line; rest = p.rest ∙ q.rest }

-- Of a line that is too long all but its first bytes may be passed over.
module _ (held more : List ℕ) (unended : line_len held ≡ length held) where
  module _ (m : ℕ) (long : m + 1 ≤ length held) where
    short_len : line_len (take (m + 1) held) ≡ length (take (m + 1) held)
    short_len = line_len-take (m + 1) held (omega arith) ∙ sym (length-take-le (m + 1) held long)

    take-shortened : take m (first_line (held ++ more)) ≡ take m (first_line (take (m + 1) held ++ more))
    take-shortened =
        let whole_len = line_len-append_none held more unended in
        let cut_len = line_len-append_none (take (m + 1) held) more short_len in
        let short = length-take-le (m + 1) held long in
        take-first_line m (held ++ more) (omega arith)
        ∙ take-append-le m held more (omega arith)
        ∙ sym (take-first_line m (take (m + 1) held ++ more) (omega arith)
        ∙ take-append-le m (take (m + 1) held) more (omega arith)
        ∙ take-take m (m + 1) held (omega arith))

    after-shortened : after_first_line (held ++ more) ≡ after_first_line (take (m + 1) held ++ more)
    after-shortened =
        let whole_len = line_len-append_none held more unended in
        let cut_len = line_len-append_none (take (m + 1) held) more short_len in
        drop-append_past held more (line_len more + 1) _ (omega arith)
        ∙ sym (drop-append_past (take (m + 1) held) more (line_len more + 1) _ (omega arith))

  pub LooksAs-shortened : LINE_LIMIT + 2 ≤ length held → LooksAs (held ++ more) (take (LINE_LIMIT + 2) held ++ more)
  LooksAs-shortened long =
      let short = length-take-le (LINE_LIMIT + 2) held long in
      let whole_some = length-append held more in
      let cut_some = length-append (take (LINE_LIMIT + 2) held) more in
      record {
        line = next_line-some (held ++ more) (omega arith)
            ∙ ap Some (take-shortened (LINE_LIMIT + 1) long)
            ∙ sym (next_line-some (take (LINE_LIMIT + 2) held ++ more) (omega arith));
        rest = after-shortened (LINE_LIMIT + 1) long;
      }

-- the list of lines, from its front
lines_of_parts-more : (part : List ℕ) (parts : List (List ℕ)) → 0 < length parts
    → lines_of_parts (part ∷ parts) ≡ strip_carriage_return part ∷ lines_of_parts parts
lines_of_parts-more part [] h = absurd (omega arith)
lines_of_parts-more part (next ∷ parts) h = refl

lines-ended : (text : List ℕ) → line_len text < length text
    → lines text ≡ first_line text ∷ lines (after_first_line text)
lines-ended text h =
    let count = length-slice_split is_line_end (after_first_line text) in
    ap lines_of_parts (slice_split_first is_line_end text 0 h)
    ∙ lines_of_parts-more (before_first is_line_end text) (slice_split is_line_end (after_first_line text))
    (omega arith)
    ∙ ap (λ l. l ∷ lines (after_first_line text)) (sym (first_line-ended text h))

lines-unended : (text : List ℕ) → line_len text ≡ length text → 0 < length text
    → lines text ≡ first_line text ∷ lines (after_first_line text)
lines-unended text h some =
    ap lines_of_parts (slice_split_none is_line_end text
    (λ k d below. fails_before_first is_line_end text k d (omega arith)))
    ∙ ap (λ b. cond b [] (text ∷ [])) (ne_eqb (length text) 0 (λ e. absurd (omega arith)))
    ∙ ap (λ l. text ∷ lines l) (sym (after_first_line-unended text h))
    ∙ ap (λ l. l ∷ lines (after_first_line text)) (sym (first_line-unended text h))

-- A text that isn't empty begins with its first line, and its other lines are those of the rest.
pub lines-first : (text : List ℕ) → 0 < length text → lines text ≡ first_line text ∷ lines (after_first_line text)
lines-first text some =
    let low = line_len-le text in
    ⊎_elim (λ ended. lines-ended text ended) (λ whole. lines-unended text (omega arith) some)
    (cases_lt (line_len text) (length text))

-- Answers in turn are the lines.
pub answers_in_turn : (text : List ℕ) (answers : List (List ℕ)) → AnswersInTurn text answers
    → answers ≡ map given (lines text)
answers_in_turn [] [] h = refl
answers_in_turn [] (line ∷ more) h = let e = h.0 in absurd (cc)
answers_in_turn (b ∷ bs) [] h = absurd (cc)
answers_in_turn (b ∷ bs) (line ∷ more) h =
    let later = answers_in_turn (after_first_line (b ∷ bs)) more h.1 in
    let step = lines-first (b ∷ bs) (omega arith) in
    let front : line ≡ given (first_line (b ∷ bs)) = let e = h.0 in cc in
    rw (step, front, later) refl

-- the line end of bytes whose front has none
pub line_len-drop : (n : ℕ) (xs : List ℕ) → n ≤ line_len xs → line_len xs ≡ n + line_len (drop n xs)
line_len-drop n xs h =
    let low = line_len-le xs in
    let front = line_len-take n xs h in
    let short = length-take-le n xs (omega arith) in
    ap line_len (sym (take-append-drop n xs)) ∙ line_len-append_none (take n xs) (drop n xs) (omega arith)
    ∙ ap (λ k. k + line_len (drop n xs)) short

not_true : (b : Bool) → (b ≡ true → ⊥) → b ≡ false
not_true true h = absurd (h refl)
not_true false h = refl

-- a search for byte 10
pub line_len-searched : (xs : List ℕ) (r : Option ℕ) → IsFirstByte (is_byte 10) xs r
    → MatchOption r (line_len xs ≡ length xs) (λ k. (k ≡ line_len xs) × (k < length xs))
line_len-searched xs None h =
    position_or_len_is is_line_end xs (length xs) 0 (omega arith) (λ k below. not_true _ (h k (omega arith) below))
    (λ past. absurd (omega arith))
line_len-searched xs (Some k) h = (
  sym (position_or_len_is is_line_end xs k 0 (omega (arith, h.0.high))
      (λ i below. not_true _ (h.0.before i (omega arith) below)) (λ _. h.1)),
  h.0.high,
)

line_len-behind : (n : ℕ) (xs : List ℕ) (r : Option ℕ) → n ≤ line_len xs
    → MatchOption r (line_len (drop n xs) ≡ length (drop n xs))
    (λ k. (k ≡ line_len (drop n xs)) × (k < length (drop n xs)))
    → MatchOption r (line_len xs ≡ length xs) (λ k. (n + k ≡ line_len xs) × (n + k < length xs))
line_len-behind n xs None h s = omega (arith, line_len-drop n xs h, length-drop n xs, line_len-le xs)
line_len-behind n xs (Some k) h s = (omega (arith, line_len-drop n xs h), omega (arith, s.1, length-drop n xs))

-- the same behind a front with no line end
pub line_len-searched_from : (n : ℕ) (xs : List ℕ) (r : Option ℕ) → n ≤ line_len xs
    → IsFirstByte (is_byte 10) (take (length xs - n) (drop n xs)) r
    → MatchOption r (line_len xs ≡ length xs) (λ k. (n + k ≡ line_len xs) × (n + k < length xs))
line_len-searched_from n xs r h s =
    line_len-behind n xs r h (line_len-searched (drop n xs) r (rw (take_rest xs n) at s))

-- bytes with no line end, cut short and grown
pub line_len-take_unended : (n : ℕ) (xs : List ℕ) → line_len xs ≡ length xs → line_len (take n xs) ≡ length (take n xs)
line_len-take_unended n xs h =
    ⊎_elim
    (λ below. line_len-take n xs (omega arith) ∙ sym (length-take-le n xs (omega arith)))
    (λ above. rw (take_all n xs above) h)
    (cases_lt n (length xs))

pub line_len-grown : (xs ys : List ℕ) → line_len xs ≡ length xs → take (length xs) ys ≡ xs → length xs ≤ line_len ys
line_len-grown xs ys h front =
    let whole : xs ++ drop (length xs) ys ≡ ys =
    ap (λ l. l ++ drop (length xs) ys) (sym front) ∙ take-append-drop (length xs) ys in
    omega (arith, line_len-append_none xs (drop (length xs) ys) h, ap line_len whole)

-- Whether a line end is among the bytes that are held, of a text of which so many were taken
pub ends_held : (held : List ℕ) (left : Option (List ℕ)) (taken : ℕ) (found : Option ℕ) (some : Bool)
    → length held ≤ taken
    → MatchOption found (line_len held ≡ length held) (λ end. (end ≡ line_len held) × (end < length held))
    → some ≡ is_some found
    → IfSome (prepend_known held left) (λ text. some ≡ nat_lt (line_len text) (taken - (taken - length held)))
ends_held held None taken found some within ends is = tt
ends_held held (Some rest) taken None some within ends is =
    let none = line_len-append_none held rest ends in
    is ∙ sym (le-ltb (line_len (held ++ rest)) (taken - (taken - length held)) (omega (arith, none, within)))
ends_held held (Some rest) taken (Some end) some within ends is =
    let same = line_len-append_found held rest (omega (arith, ends.0, ends.1)) in
    is
    ∙ sym (lt-ltb (line_len (held ++ rest)) (taken - (taken - length held))
    (omega (arith, same, ends.0, ends.1, within)))
