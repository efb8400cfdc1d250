-- What is read of a string is what stands there.
use Rattle.std.proofs.Common.{◌≡◌, ℕ, suc, ◌<◌, ◌≤◌, Bool, true, false, ◌&&◌, cond, eqb, leb, List, [], ◌∷◌, ◌++◌}
use Rattle.std.proofs.Common.{length, take, drop, map, flat_map, Option, None, Some, option_and_then, refl, sym, ap}
use Rattle.std.proofs.Common.{◌∙◌, arith, ⊎_elim, length-append, length-take}
use Rattle.std.specs.Char.{is_ascii_digit}
use Rattle.std.specs.List.{prefix_len, AllByRecursion}
use Rattle.std.proofs.lemmas.List.{append_assoc, take_at, drop_at, take-append-drop, map-id}
use Rattle.std.proofs.lemmas.List.Concat.{flat_map_single}
use Rattle.std.proofs.lemmas.List.Sums.{prefix_len-le-length}
use Rattle.std.proofs.lemmas.Bool.{eqb-true, leb-true, le-leb, false_from_ne_true, cond-true, cases_Bool, cond-false}
use Rattle.std.proofs.lemmas.Bool.{and_from}
use Rattle.std.proofs.lemmas.Bool.{and_parts}
use Rattle.m_text.specs.Grammar.{joined, Word, c, char, zch, zchar, word_text, code_value, IsCode, Piece, quoted, coded}
use Rattle.m_text.specs.Grammar.{doubled, piece_text, piece_bytes, IsPiece}
use Rattle.m_text.specs.Front.{Found, leads, quoted_at, code_at, list_at, closed_by, codes_at, behind_word, piece_at}
use Rattle.m_text.specs.Front.{string_at}
use Rattle.m_text.proofs.FoundLemmas.{pair_of}
use Rattle.m_text.proofs.FrontLemmas.{heads, prefix-passes, prefix_len-append, behind_word-found}
use Rattle.m_text.proofs.QuotedLemmas.{quoted_at-found, quoted_at-again}
use Rattle.m_text.proofs.SeparatedLemmas.{IsItem, AreItems, separated-found, list-again}

-- codes

abbrev pub same_text : List ℕ → List ℕ
same_text digits = digits

abbrev pub one_byte : List ℕ → List ℕ
one_byte digits = code_value digits ∷ []

abbrev IsCodeAt : List ℕ → List ℕ → List ℕ → Type 0
IsCodeAt = IsItem code_at 44 same_text one_byte IsCode

pub code_at-found : (text bytes rest : List ℕ) → code_at text ≡ Some (bytes, rest) → IsCodeAt text bytes rest
code_at-found text bytes rest e =
    let n : ℕ = prefix_len is_ascii_digit text in
    let digits : List ℕ = take n text in
    let test : Bool = leb 1 n && (leb n 3 && leb (code_value digits) 255) in
    ⊎_elim
    (λ (q : test ≡ true).
    let p = pair_of (one_byte digits) (drop n text) bytes rest (sym (cond-true test _ None q) ∙ e) in
    let least = and_parts (leb 1 n) _ q in
    let others = and_parts (leb n 3) (leb (code_value digits) 255) least.1 in
    let size : length digits ≡ n = omega (arith, length-take n text, prefix_len-le-length is_ascii_digit text) in
    let low = leb-true 1 n least.0 in
    let high = leb-true n 3 others.0 in
    record {
      it = digits;
      right = record {
        decimal = prefix-passes is_ascii_digit text;
        least = omega (arith, size, low);
        greatest = omega (arith, size, high);
        value = leb-true (code_value digits) 255 others.1;
      };
      written = sym (take-append-drop n text) ∙ ap (λ (r : List ℕ). digits ++ r) p.1;
      meant = sym p.0;
    })
    (λ (q : test ≡ false).
    let nothing : None ≡ Some (bytes, rest) = sym (cond-false test (Some (one_byte digits, drop n text)) None q) ∙ e in
    cc)
    (cases_Bool test)

pub code_at-again : (digits rest : List ℕ) → IsCode digits → heads is_ascii_digit rest ≡ false
    → code_at (digits ++ rest) ≡ Some (one_byte digits, rest)
code_at-again digits rest right ended =
    let text : List ℕ = digits ++ rest in
    let n : ℕ = length digits in
    let F : ℕ → Option Found =
    λ k. cond (leb 1 k && (leb k 3 && leb (code_value (take k text)) 255)) (Some (one_byte (take k text), drop k text))
    None in
    let G : List ℕ → List ℕ → Option Found =
    λ t d. cond (leb 1 n && (leb n 3 && leb (code_value t) 255)) (Some (one_byte t, d)) None in
    let test =
    and_from (leb 1 n) _ (le-leb 1 n right.least)
    (and_from (leb n 3) _ (le-leb n 3 right.greatest) (le-leb (code_value digits) 255 right.value)) in
    ap F (prefix_len-append is_ascii_digit digits rest right.decimal ended)
    ∙ ap (λ (t : List ℕ). G t (drop n text)) (take_at digits rest n refl)
    ∙ ap (λ (d : List ℕ). G digits d) (drop_at digits rest n refl)
    ∙ cond-true (leb 1 n && (leb n 3 && leb (code_value digits) 255)) _ None test

-- the code by the count of digits
code_tested : ℕ → List ℕ → Option Found
code_tested k text =
    cond (leb 1 k && (leb k 3 && leb (code_value (take k text)) 255)) (Some (one_byte (take k text), drop k text)) None

and_no : (a b : Bool) → b ≡ false → (a && b) ≡ false
and_no true b e = e
and_no false b e = refl

above : (a b : ℕ) → b < a → leb a b ≡ false
above a b l = false_from_ne_true (leb a b) (λ t. let h = leb-true a b t in omega arith)

counted : (text : List ℕ) (n : ℕ) → n ≡ prefix_len is_ascii_digit text → code_at text ≡ code_tested n text
unfolding code_tested
counted text n e = ap (λ (k : ℕ). code_tested k text) (sym e)

pub code_at-few : (text : List ℕ) (n : ℕ) → n ≡ prefix_len is_ascii_digit text → n < 1 → code_at text ≡ None
unfolding code_tested
code_at-few text n e l = counted text n e
    ∙ cond-false _ _ None (ap (λ (b : Bool). b && (leb n 3 && leb (code_value (take n text)) 255)) (above 1 n l))

pub code_at-many : (text : List ℕ) (n : ℕ) → n ≡ prefix_len is_ascii_digit text → 3 < n → code_at text ≡ None
unfolding code_tested
code_at-many text n e l = counted text n e
    ∙ cond-false _ _ None
    (and_no (leb 1 n) _ (ap (λ (b : Bool). b && leb (code_value (take n text)) 255) (above n 3 l)))

pub code_at-great : (text : List ℕ) (n : ℕ) → n ≡ prefix_len is_ascii_digit text → 255 < code_value (take n text)
    → code_at text ≡ None
unfolding code_tested
code_at-great text n e l = counted text n e
    ∙ cond-false _ _ None (and_no (leb 1 n) _ (and_no (leb n 3) _ (above (code_value (take n text)) 255 l)))

pub code_at-some : (text : List ℕ) (n : ℕ) → n ≡ prefix_len is_ascii_digit text → 1 ≤ n → n ≤ 3
    → code_value (take n text) ≤ 255 → code_at text ≡ Some (one_byte (take n text), drop n text)
unfolding code_tested
code_at-some text n e l m v = counted text n e
    ∙ cond-true _ _ None (and_from (leb 1 n) _ (le-leb 1 n l)
    (and_from (leb n 3) _ (le-leb n 3 m) (le-leb (code_value (take n text)) 255 v)))

closed_by-found : (front behind bytes rest : List ℕ) → closed_by front behind ≡ Some (bytes, rest)
    → (front ≡ bytes) × (behind ≡ 41 ∷ rest)
closed_by-found front [] bytes rest e = absurd (cc)
closed_by-found front (b ∷ bs) bytes rest e =
    ⊎_elim
    (λ (q : eqb b 41 ≡ true).
    let p = pair_of front bs bytes rest (sym (cond-true (eqb b 41) (Some (front, bs)) None q) ∙ e) in
    (p.0, ap (λ (x : ℕ). x ∷ bs) (eqb-true b 41 q) ∙ ap (λ (r : List ℕ). 41 ∷ r) p.1))
    (λ (q : eqb b 41 ≡ false).
    let nothing : None ≡ Some (bytes, rest) = sym (cond-false (eqb b 41) (Some (front, bs)) None q) ∙ e in
    absurd (cc))
    (cases_Bool (eqb b 41))

pub closed-found : (o : Option Found) (bytes rest : List ℕ)
    → option_and_then (λ (f : Found). closed_by f.0 f.1) o ≡ Some (bytes, rest) → o ≡ Some (bytes, 41 ∷ rest)
closed-found None bytes rest e = absurd (cc)
closed-found (Some f) bytes rest e =
    let p = closed_by-found f.0 f.1 bytes rest e in
    ap (λ (b : List ℕ). Some (b, f.1)) p.0 ∙ ap (λ (r : List ℕ). Some (bytes, r)) p.1

pub codes_at-found : (text bytes rest : List ℕ) → codes_at text ≡ Some (bytes, rest)
    → AreItems code_at 44 same_text one_byte IsCode text bytes (41 ∷ rest)
codes_at-found text bytes rest e =
    separated-found code_at 44 same_text one_byte IsCode code_at-found (suc (length text)) text bytes (41 ∷ rest)
    (closed-found (list_at code_at 44 text) bytes rest e)

pub codes_at-again : (first : List ℕ) (others : List (List ℕ)) (rest : List ℕ) → AllByRecursion IsCode (first ∷ others)
    → codes_at (joined 44 (first ∷ others) ++ 41 ∷ rest) ≡ Some (map code_value (first ∷ others), rest)
codes_at-again first others rest right =
    let close : Option Found → Option Found = option_and_then (λ (f : Found). closed_by f.0 f.1) in
    let again =
    list-again code_at 44 same_text one_byte IsCode (λ r. heads is_ascii_digit r
    ≡ false) code_at-again (λ r. refl) first others (41 ∷ rest) right refl refl in
    ap (λ (t : List (List ℕ)). codes_at (joined 44 t ++ 41 ∷ rest)) (sym (map-id (first ∷ others)))
    ∙ ap close again
    ∙ ap (λ (t : List ℕ). Some (t, rest)) (flat_map_single code_value (first ∷ others))

-- pieces

abbrev pub IsPieceAt : List ℕ → List ℕ → List ℕ → Type 0
IsPieceAt = IsItem piece_at 95 piece_text piece_bytes IsPiece

coded_piece : (word : Word) (text behind bytes rest : List ℕ) → text ≡ word_text word ++ 40 ∷ behind
    → AreItems code_at 44 same_text one_byte IsCode behind bytes (41 ∷ rest) → IsPieceAt text bytes rest
coded_piece word text behind bytes rest e codes =
    let digits : List (List ℕ) = codes.first ∷ codes.others in
    let list : List ℕ = joined 44 digits in
    let written : behind ≡ list ++ 41 ∷ rest = codes.written
    ∙ ap (λ (t : List (List ℕ)). joined 44 t ++ 41 ∷ rest) (map-id digits) in
    record {
      it = coded word digits;
      right = (omega arith, codes.right);
      written =
          e ∙ ap (λ (t : List ℕ). word_text word ++ 40 ∷ t) (written ∙ sym (append_assoc list (41 ∷ []) rest))
          ∙ sym (append_assoc (word_text word) (40 ∷ (list ++ 41 ∷ [])) rest);
      meant = codes.meant ∙ flat_map_single code_value digits;
    }

piece_behind : (text bytes rest : List ℕ) (o : Option (List ℕ))
    → ((behind : List ℕ) → o ≡ Some behind → (word : Word) × (text ≡ word_text word ++ 40 ∷ behind))
    → option_and_then codes_at o ≡ Some (bytes, rest) → IsPieceAt text bytes rest
piece_behind text bytes rest None w e = absurd (cc)
piece_behind text bytes rest (Some behind) w e =
    let p = w behind refl in
    coded_piece p.0 text behind bytes rest p.1 (codes_at-found behind bytes rest e)

pub piece_at-found : (text bytes rest : List ℕ) → piece_at text ≡ Some (bytes, rest) → IsPieceAt text bytes rest
piece_at-found [] bytes rest e = absurd (cc)
piece_at-found (b ∷ bs) bytes rest e =
    let coded_part : Option Found = option_and_then codes_at (behind_word (b ∷ bs)) in
    ⊎_elim
    (λ (q : eqb b 34 ≡ true).
    let inside : bs ≡ flat_map doubled bytes ++ 34 ∷ rest =
    quoted_at-found false bs bytes rest (sym (cond-true (eqb b 34) (quoted_at false bs) coded_part q) ∙ e) in
    record {
      it = quoted bytes;
      right = tt;
      written = ap (λ (x : ℕ). x ∷ bs) (eqb-true b 34 q)
          ∙ ap (λ (t : List ℕ). 34 ∷ t) (inside ∙ sym (append_assoc (flat_map doubled bytes) (34 ∷ []) rest));
      meant = refl;
    })
    (λ (q : eqb b 34 ≡ false).
    piece_behind (b ∷ bs) bytes rest (behind_word (b ∷ bs)) (behind_word-found (b ∷ bs))
    (sym (cond-false (eqb b 34) (quoted_at false bs) coded_part q) ∙ e))
    (cases_Bool (eqb b 34))

piece_at-word : (word : Word) (text : List ℕ) → piece_at (word_text word ++ 40 ∷ text) ≡ codes_at text
piece_at-word c text = refl
piece_at-word char text = refl
piece_at-word zch text = refl
piece_at-word zchar text = refl

pub piece_at-again : (piece : Piece) (rest : List ℕ) → IsPiece piece → leads 34 rest ≡ false
    → piece_at (piece_text piece ++ rest) ≡ Some (piece_bytes piece, rest)
piece_at-again (quoted bytes) rest right ended =
    ap (quoted_at false) (append_assoc (flat_map doubled bytes) (34 ∷ []) rest) ∙ quoted_at-again bytes rest ended
piece_at-again (coded word []) rest right ended = absurd (omega (arith, right.0))
piece_at-again (coded word (first ∷ others)) rest right ended =
    let list : List ℕ = joined 44 (first ∷ others) in
    ap piece_at (append_assoc (word_text word) (40 ∷ (list ++ 41 ∷ [])) rest
    ∙ ap (λ (t : List ℕ). word_text word ++ 40 ∷ t) (append_assoc list (41 ∷ []) rest))
    ∙ piece_at-word word (list ++ 41 ∷ rest)
    ∙ codes_at-again first others rest right.1

-- strings

pub string_at-found : (text bytes rest : List ℕ) → string_at text ≡ Some (bytes, rest)
    → AreItems piece_at 95 piece_text piece_bytes IsPiece text bytes rest
string_at-found text bytes rest e =
    separated-found piece_at 95 piece_text piece_bytes IsPiece piece_at-found (suc (length text)) text bytes rest e

pub string_at-again : (first : Piece) (others : List Piece) (rest : List ℕ) → AllByRecursion IsPiece (first ∷ others)
    → leads 34 rest ≡ false → leads 95 rest ≡ false
    → string_at (joined 95 (map piece_text (first ∷ others)) ++ rest)
    ≡ Some (flat_map piece_bytes (first ∷ others), rest)
string_at-again first others rest right no_quote no_more =
    list-again piece_at 95 piece_text piece_bytes IsPiece (λ r. leads 34 r
    ≡ false) piece_at-again (λ r. refl) first others rest right no_quote no_more

-- what stands behind an item is cond-false longer than the text
pub code_at-shortens : (text bytes rest : List ℕ) → code_at text ≡ Some (bytes, rest) → length rest ≤ length text
code_at-shortens text bytes rest e =
    let h = code_at-found text bytes rest e in
    omega (arith, ap length h.written ∙ length-append h.it rest)

pub piece_at-shortens : (text bytes rest : List ℕ) → piece_at text ≡ Some (bytes, rest) → length rest ≤ length text
piece_at-shortens text bytes rest e =
    let h = piece_at-found text bytes rest e in
    omega (arith, ap length h.written ∙ length-append (piece_text h.it) rest)
