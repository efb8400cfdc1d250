-- The subscripts at the front of a text, one after another.
use Rattle.std.proofs.Common.{◌≡◌, ℕ, suc, ◌+◌, ◌-◌, ◌<◌, ◌≤◌, ℤ, pos, negsuc, Bool, true, false, ◌||◌, eqb, leb, List}
use Rattle.std.proofs.Common.{[], ◌∷◌, ◌++◌, length, take, drop, map, flat_map, replicate, Option, None, Some, refl}
use Rattle.std.proofs.Common.{sym, ap, ◌∙◌, subst, arith, inl, inr, ◌⊎◌, ⊎_elim, length-append}
use Rattle.std.specs.List.{prefix_len, AllByRecursion}
use Rattle.std.proofs.lemmas.List.{append_assoc, append-nil, take_at, drop_at, take-append-drop, length-map}
use Rattle.std.proofs.lemmas.Bool.{eqb-true, eqb-false, cond-true, cases_Bool, cond-false}
use Rattle.m_number.specs.Numeral.{Numeral, IsNumeral}
use Rattle.m_number.specs.Text.{text_of, size_text, nonzero_text, large_text, codes_of}
use Rattle.m_key.specs.Node.{NodeSubscript, number, IsSubscript, spelled}
use Rattle.m_key.specs.Node.{string as text_node}
use Rattle.m_text.specs.Grammar.{joined, Piece, piece_text, piece_bytes, IsPiece, Expression, bare, string}
use Rattle.m_text.specs.Grammar.{expression_text, expression_bytes, IsExpression}
use Rattle.m_text.specs.Front.{Found, leads, string_at, is_number_byte}
use Rattle.m_text.specs.FrontSubscripts.{StandsAt, IsEnded, ListStandsAt, ListStandsAfter}
use Rattle.m_text.proofs.FoundLemmas.{pair_of}
use Rattle.m_text.proofs.FrontLemmas.{heads, prefix_len-append, prefix_len-no}
use Rattle.m_text.proofs.PieceLemmas.{string_at-found, string_at-again}
use Rattle.m_text.proofs.NumberLemmas.{number_bytes}
use Rattle.m_text.proofs.ValueLemmas.{piece_head}

-- a number's text isn't empty

large_some : (ds : List ℕ) (whole : ℕ) → 0 < length ds → 0 < length (large_text ds whole)
large_some ds whole l =
    let P : List ℕ → Type 0 = λ t. 0 < length t in
    ⊎_elim
    (λ (q : leb (length ds) whole ≡ true).
    subst P (sym (cond-true (leb (length ds) whole) _ _ q)) (omega (
      arith,
      length-append (codes_of ds) (replicate (whole - length ds) 48),
      length-map ds (λ (d : ℕ). 48 + d),
    )))
    (λ (q : leb (length ds) whole ≡ false).
    subst P (sym (cond-false (leb (length ds) whole) _ _ q)) (omega (
      arith,
      length-append (codes_of (take whole ds)) (46 ∷ codes_of (drop whole ds)),
    )))
    (cases_Bool (leb (length ds) whole))

nonzero_some : (ds : List ℕ) (e : ℤ) → 0 < length ds → 0 < length (nonzero_text ds e)
nonzero_some ds (pos e) l = large_some ds (e + 1) l
nonzero_some ds (negsuc k) l = omega arith

size_some : (ds : List ℕ) (e : ℤ) → 0 < length (size_text ds e)
size_some ds e =
    let P : List ℕ → Type 0 = λ t. 0 < length t in
    ⊎_elim
    (λ (q : eqb (length ds) 0 ≡ true). subst P (sym (cond-true (eqb (length ds) 0) _ _ q)) (omega arith))
    (λ (q : eqb (length ds) 0 ≡ false). let n = eqb-false (length ds) 0 q in
    subst P (sym (cond-false (eqb (length ds) 0) _ _ q)) (nonzero_some ds e (omega (arith, n))))
    (cases_Bool (eqb (length ds) 0))

pub number_some : (n : Numeral) → 0 < length (text_of n)
unfolding text_of
number_some n =
    let P : List ℕ → Type 0 = λ t. 0 < length t in
    ⊎_elim
    (λ (q : n.negative ≡ true). subst P (sym (cond-true n.negative _ _ q)) (omega arith))
    (λ (q : n.negative ≡ false). subst P (sym (cond-false n.negative _ _ q)) (size_some n.digits n.exponent))
    (cases_Bool n.negative)

pub spelled_some : (s : NodeSubscript) → IsSubscript s → 0 < length (spelled s)
spelled_some (number n) h = number_some n
spelled_some (text_node text) h = h.not_null

-- what ',' and ')' aren't

or_cases : (a b : Bool) → (a || b) ≡ true → (a ≡ true) ⊎ (b ≡ true)
or_cases true b e = inl refl
or_cases false b e = inr e

record Ended (rest : List ℕ) : Type 0 where
  more : List ℕ
  is : (rest ≡ 44 ∷ more) ⊎ (rest ≡ 41 ∷ more)

ended : (rest : List ℕ) → IsEnded rest → Ended rest
ended [] e = absurd (cc)
ended (x ∷ xs) e = record {
  more = xs;
  is =
      ⊎_elim
      (λ (q : eqb x 44 ≡ true). inl (ap (λ (y : ℕ). y ∷ xs) (eqb-true x 44 q)))
      (λ (q : eqb x 41 ≡ true). inr (ap (λ (y : ℕ). y ∷ xs) (eqb-true x 41 q)))
      (or_cases (eqb x 44) (eqb x 41) e);
}

apart : (F : List ℕ → Bool) → ((xs : List ℕ) → F (44 ∷ xs) ≡ false) → ((xs : List ℕ) → F (41 ∷ xs) ≡ false)
    → (rest : List ℕ) → IsEnded rest → F rest ≡ false
apart F a b rest e =
    let h = ended rest e in
    ⊎_elim
    (λ (q : rest ≡ 44 ∷ h.more). ap F q ∙ a h.more)
    (λ (q : rest ≡ 41 ∷ h.more). ap F q ∙ b h.more)
    h.is

ended_no_number : (rest : List ℕ) → IsEnded rest → heads is_number_byte rest ≡ false
ended_no_number rest e = apart (heads is_number_byte) (λ xs. refl) (λ xs. refl) rest e

ended_no_quote : (rest : List ℕ) → IsEnded rest → leads 34 rest ≡ false
ended_no_quote rest e = apart (leads 34) (λ xs. refl) (λ xs. refl) rest e

ended_no_more : (rest : List ℕ) → IsEnded rest → leads 95 rest ≡ false
ended_no_more rest e = apart (leads 95) (λ xs. refl) (λ xs. refl) rest e

prefix_none : (text : List ℕ) → heads is_number_byte text ≡ false → prefix_len is_number_byte text ≡ 0
prefix_none [] h = refl
prefix_none (b ∷ bs) h = prefix_len-no is_number_byte b bs h

pub bare_len : (n : Numeral) (rest : List ℕ) → IsNumeral n → IsEnded rest
    → prefix_len is_number_byte (text_of n ++ rest) ≡ length (text_of n)
bare_len n rest h e = prefix_len-append is_number_byte (text_of n) rest (number_bytes n h) (ended_no_number rest e)

pub string_len : (pieces : List Piece) (rest : List ℕ) → 0 < length pieces
    → prefix_len is_number_byte (joined 95 (map piece_text pieces) ++ rest) ≡ 0
string_len [] rest l = absurd (omega (arith, l))
string_len (first ∷ others) rest l =
    let tail : List ℕ = flat_map (λ (next : List ℕ). 95 ∷ next) (map piece_text others) in
    prefix_none ((piece_text first ++ tail) ++ rest)
    (ap (heads is_number_byte) (append_assoc (piece_text first) tail rest) ∙ piece_head first (tail ++ rest))

string_again : (pieces : List Piece) (rest : List ℕ) → 0 < length pieces → AllByRecursion IsPiece pieces → IsEnded rest
    → string_at (joined 95 (map piece_text pieces) ++ rest) ≡ Some (flat_map piece_bytes pieces, rest)
string_again [] rest l right e = absurd (omega (arith, l))
string_again (first ∷ others) rest l right e =
    string_at-again first others rest right (ended_no_quote rest e) (ended_no_more rest e)

-- A number stands at the front.
pub record IsBareAt (text : List ℕ) (n : ℕ) (rest : List ℕ) : Type 0 where
  pub it : Numeral
  pub right : IsNumeral it
  pub written : text_of it ≡ take n text
  pub behind : rest ≡ drop n text

bare_at : (e : Expression) (text : List ℕ) (n : ℕ) (rest : List ℕ) → n ≡ prefix_len is_number_byte text → 0 < n
    → IsExpression e → IsEnded rest → text ≡ expression_text e ++ rest → IsBareAt text n rest
bare_at (bare m) text n rest count l right ended w =
    let size : length (text_of m) ≡ n = sym (count ∙ ap (prefix_len is_number_byte) w ∙ bare_len m rest right ended) in
    record {
      it = m;
      right = right;
      written = sym (ap (take n) w ∙ take_at (text_of m) rest n size);
      behind = sym (ap (drop n) w ∙ drop_at (text_of m) rest n size);
    }
bare_at (string pieces) text n rest count l right ended w =
    let none : n ≡ 0 = count ∙ ap (prefix_len is_number_byte) w ∙ string_len pieces rest right.0 in
    absurd (omega (arith, none))

pub number_at : (text : List ℕ) (n : ℕ) (s : NodeSubscript) (rest : List ℕ) → n ≡ prefix_len is_number_byte text
    → 0 < n → IsEnded rest → StandsAt text s rest → IsBareAt text n rest
number_at text n s rest count l ended h = bare_at h.expression text n rest count l h.right ended h.written

pub number_stands : (text : List ℕ) (n : ℕ) (m : Numeral) → IsNumeral m → text_of m ≡ take n text
    → StandsAt text (number m) (drop n text)
number_stands text n m h e = record {
  expression = bare m;
  right = h;
  written = sym (take-append-drop n text) ∙ ap (λ (t : List ℕ). t ++ drop n text) (sym e);
  meant = refl;
}

-- A string stands at the front.
string_from : (e : Expression) (text : List ℕ) (rest bytes : List ℕ) → prefix_len is_number_byte text ≡ 0
    → IsExpression e → IsEnded rest → text ≡ expression_text e ++ rest → expression_bytes e ≡ bytes
    → string_at text ≡ Some (bytes, rest)
string_from (bare m) text rest bytes none right ended w b =
    let size = bare_len m rest right ended in
    let same : prefix_len is_number_byte text ≡ prefix_len is_number_byte (text_of m ++ rest) =
    ap (prefix_len is_number_byte) w in
    let some = number_some m in
    absurd (omega (arith, none, size, same, some))
string_from (string pieces) text rest bytes none right ended w b =
    ap string_at w ∙ string_again pieces rest right.0 right.1 ended ∙ ap (λ (t : List ℕ). Some (t, rest)) b

pub string_read_at : (text : List ℕ) (s : NodeSubscript) (rest : List ℕ) → prefix_len is_number_byte text ≡ 0
    → IsEnded rest → StandsAt text s rest → string_at text ≡ Some (spelled s, rest)
string_read_at text s rest none ended h =
    string_from h.expression text rest (spelled s) none h.right ended h.written h.meant

pub string_stands : (text bytes rest : List ℕ) (s : NodeSubscript) → string_at text ≡ Some (bytes, rest)
    → spelled s ≡ bytes → StandsAt text s rest
string_stands text bytes rest s e m =
    let h = string_at-found text bytes rest e in
    record {
      expression = string (h.first ∷ h.others);
      right = (omega arith, h.right);
      written = h.written;
      meant =
          sym (m ∙ h.meant);
    }

-- lists

pub list_last : (text : List ℕ) (s : NodeSubscript) (rest : List ℕ) → StandsAt text s (41 ∷ rest)
    → ListStandsAt text (s ∷ []) rest
list_last text s rest h = record {
  expressions = h.expression ∷ [];
  some = omega arith;
  right = (h.right, tt);
  written = h.written ∙ ap (λ (t : List ℕ). t ++ 41 ∷ rest) (sym (append-nil (expression_text h.expression)));
  meant = ap (λ (t : List ℕ). t ∷ []) h.meant;
}

more_form : (e : Expression) (es : List Expression) (rest : List ℕ) → 0 < length es
    → expression_text e ++ 44 ∷ (joined 44 (map expression_text es) ++ rest)
    ≡ joined 44 (map expression_text (e ∷ es)) ++ rest
more_form e [] rest l = absurd (omega (arith, l))
more_form e (x ∷ xs) rest l =
    sym (append_assoc (expression_text e) (44 ∷ joined 44 (map expression_text (x ∷ xs))) rest)

pub list_more : (text : List ℕ) (s : NodeSubscript) (more : List ℕ) (ss : List NodeSubscript) (rest : List ℕ)
    → StandsAt text s (44 ∷ more) → ListStandsAt more ss rest → ListStandsAt text (s ∷ ss) rest
list_more text s more ss rest h l = record {
  expressions = h.expression ∷ l.expressions;
  some = omega arith;
  right = (h.right, l.right);
  written = h.written ∙ ap (λ (t : List ℕ). expression_text h.expression ++ 44 ∷ t) l.written
      ∙ more_form h.expression l.expressions (41 ∷ rest) l.some;
  meant = ap (λ (t : List ℕ). t ∷ map expression_bytes l.expressions) h.meant
      ∙ ap (λ (t : List (List ℕ)). spelled s ∷ t) l.meant;
}

-- the first of a list, and the others
pub record First (text : List ℕ) (ss : List NodeSubscript) (rest : List ℕ) : Type 0 where
  pub s : NodeSubscript
  pub others : List NodeSubscript
  pub are : ss ≡ s ∷ others
  pub is : (StandsAt text s (41 ∷ rest) × (others ≡ []))
      ⊎ ((more : List ℕ) × StandsAt text s (44 ∷ more) × ListStandsAt more others rest)

first_from : (es : List Expression) (text : List ℕ) (ss : List NodeSubscript) (rest : List ℕ) → 0 < length es
    → AllByRecursion IsExpression es → text ≡ joined 44 (map expression_text es) ++ 41 ∷ rest
    → map expression_bytes es ≡ map spelled ss → First text ss rest
first_from [] text ss rest l right w m = absurd (omega (arith, l))
first_from (e ∷ es) text [] rest l right w m = absurd (cc)
first_from (e ∷ []) text (s ∷ []) rest l right w m =
    let head : expression_bytes e ≡ spelled s = cc in
    record {
      s = s;
      others = [];
      are = refl;
      is = inl (
        record {
          expression = e;
          right = right.0;
          written = w
              ∙ ap (λ (t : List ℕ). t ++ 41 ∷ rest) (append-nil (expression_text e));
          meant = head;
        },
        refl,
      );
    }
first_from (e ∷ []) text (s ∷ t ∷ ss) rest l right w m = absurd (cc)
first_from (e ∷ x ∷ xs) text (s ∷ ss) rest l right w m =
    let head : expression_bytes e ≡ spelled s = cc in
    let tail : map expression_bytes (x ∷ xs) ≡ map spelled ss = cc in
    record {
      s = s;
      others = ss;
      are = refl;
      is = inr (
        joined 44 (map expression_text (x ∷ xs)) ++ 41 ∷ rest,
        record {
          expression = e;
          right = right.0;
          written = w
              ∙ append_assoc (expression_text e) (44 ∷ joined 44 (map expression_text (x ∷ xs))) (41 ∷ rest);
          meant =
              head;
        },
        record { expressions = x ∷ xs; some = omega arith; right = right.1; written = refl; meant = tail },
      );
    }

pub first_of_list : (text : List ℕ) (ss : List NodeSubscript) (rest : List ℕ) → ListStandsAt text ss rest
    → First text ss rest
first_of_list text ss rest h = first_from h.expressions text ss rest h.some h.right h.written h.meant

-- one more of the list was read, or the last, or none

after_is : (text after more rest : List ℕ) (s : NodeSubscript) (by : ℕ)
    → ((t : NodeSubscript) (r : List ℕ) → IsEnded r → StandsAt text t r → r ≡ after)
    → ((xs : List ℕ) → IsEnded (by ∷ xs)) → StandsAt text s (by ∷ more) → by ∷ more ≡ after
after_is text after more rest s by only e h = only s (by ∷ more) (e more) h

pub goes_step : (text after more rest : List ℕ) (i : ℕ)
    → ((t : NodeSubscript) (r : List ℕ) → IsEnded r → StandsAt text t r → r ≡ after) → after ≡ 44 ∷ more
    → ListStandsAfter text i rest → ListStandsAfter more (i + 1) rest
goes_step text after more rest i only e g =
    let f = first_of_list text g.ss rest g.stand in
    ⊎_elim
    (λ (last : StandsAt text f.s (41 ∷ rest) × (f.others ≡ [])).
    let wrong : 41 ∷ rest ≡ 44 ∷ more = only f.s (41 ∷ rest) refl last.0 ∙ e in
    absurd (cc))
    (λ (next : (m : List ℕ) × StandsAt text f.s (44 ∷ m) × ListStandsAt m f.others rest).
    let same : 44 ∷ next.0 ≡ 44 ∷ more = only f.s (44 ∷ next.0) refl next.1 ∙ e in
    let P : List ℕ → Type 0 = λ t. ListStandsAt t f.others rest in
    let Q : List NodeSubscript → Type 0 = λ ss. AllByRecursion IsSubscript ss in
    let size : length g.ss ≡ suc (length f.others) = ap length f.are in
    let right : AllByRecursion IsSubscript (f.s ∷ f.others) = subst Q f.are g.right in
    let behind : next.0 ≡ more = cc in
    record { ss = f.others; right = right.1; count = omega (arith, size, g.count); stand = subst P behind next.2 })
    f.is

pub goes_end : (text after more rest : List ℕ) (i : ℕ)
    → ((t : NodeSubscript) (r : List ℕ) → IsEnded r → StandsAt text t r → r ≡ after) → after ≡ 41 ∷ more
    → ListStandsAfter text i rest → rest ≡ more
goes_end text after more rest i only e g =
    let f = first_of_list text g.ss rest g.stand in
    ⊎_elim
    (λ (last : StandsAt text f.s (41 ∷ rest) × (f.others ≡ [])).
    let same : 41 ∷ rest ≡ 41 ∷ more = only f.s (41 ∷ rest) refl last.0 ∙ e in
    cc)
    (λ (next : (m : List ℕ) × StandsAt text f.s (44 ∷ m) × ListStandsAt m f.others rest).
    let wrong : 44 ∷ next.0 ≡ 41 ∷ more = only f.s (44 ∷ next.0) refl next.1 ∙ e in
    absurd (cc))
    f.is

pub goes_stuck : (text after rest : List ℕ) (i : ℕ)
    → ((t : NodeSubscript) (r : List ℕ) → IsEnded r → StandsAt text t r → r ≡ after) → leads 44 after ≡ false
    → leads 41 after ≡ false → ListStandsAfter text i rest → ⊥
goes_stuck text after rest i only no_more no_end g =
    let f = first_of_list text g.ss rest g.stand in
    ⊎_elim
    (λ (last : StandsAt text f.s (41 ∷ rest) × (f.others ≡ [])).
    let wrong : true ≡ false = ap (leads 41) (only f.s (41 ∷ rest) refl last.0) ∙ no_end in
    absurd (cc))
    (λ (next : (m : List ℕ) × StandsAt text f.s (44 ∷ m) × ListStandsAt m f.others rest).
    let wrong : true ≡ false = ap (leads 44) (only f.s (44 ∷ next.0) refl next.1) ∙ no_more in
    absurd (cc))
    f.is

pub goes_none : (text rest : List ℕ) (i : ℕ)
    → ((t : NodeSubscript) (r : List ℕ) → IsSubscript t → IsEnded r → StandsAt text t r → ⊥)
    → ListStandsAfter text i rest → ⊥
goes_none text rest i none g =
    let f = first_of_list text g.ss rest g.stand in
    let Q : List NodeSubscript → Type 0 = λ ss. AllByRecursion IsSubscript ss in
    let right : AllByRecursion IsSubscript (f.s ∷ f.others) = subst Q f.are g.right in
    ⊎_elim
    (λ (last : StandsAt text f.s (41 ∷ rest) × (f.others ≡ [])). none f.s (41 ∷ rest) right.0 refl last.0)
    (λ (next : (m : List ℕ) × StandsAt text f.s (44 ∷ m)
    × ListStandsAt m f.others rest). none f.s (44 ∷ next.0) right.0 refl next.1)
    f.is

pub goes_full : (text rest : List ℕ) (i : ℕ) → 31 ≤ i → ListStandsAfter text i rest → ⊥
goes_full text rest i l g =
    let f = first_of_list text g.ss rest g.stand in
    let size : length g.ss ≡ suc (length f.others) = ap length f.are in
    omega (arith, size, g.count)

pub none_read : (text a b : List ℕ) → string_at text ≡ None → string_at text ≡ Some (a, b) → ⊥
none_read text a b n e = let wrong : ◌≡◌ {A = Option Found} None (Some (a, b)) = sym n ∙ e in cc

pub empty_read : (text bytes behind rest : List ℕ) (s : NodeSubscript) → IsSubscript s
    → string_at text ≡ Some (bytes, behind) → string_at text ≡ Some (spelled s, rest) → length bytes ≡ 0 → ⊥
empty_read text bytes behind rest s right e f l =
    let same : bytes ≡ spelled s = (pair_of bytes behind (spelled s) rest (sym e ∙ f)).0 in
    let some = spelled_some s right in
    omega (arith, l, ap length same, some)

pub same_rest : (text bytes behind a rest : List ℕ) → string_at text ≡ Some (bytes, behind)
    → string_at text ≡ Some (a, rest) → rest ≡ behind
same_rest text bytes behind a rest e f = sym (pair_of bytes behind a rest (sym e ∙ f)).1
