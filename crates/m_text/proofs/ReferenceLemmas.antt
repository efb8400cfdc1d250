-- References at the front of a text.
use Rattle.std.proofs.Common.{◌≡◌, ℕ, zero, suc, ◌+◌, ◌-◌, ◌<◌, ◌≤◌, min, Bool, true, false, ◌&&◌, List, [], ◌∷◌, ◌++◌}
use Rattle.std.proofs.Common.{length, take, drop, map, refl, sym, ap, ◌∙◌, subst, arith, inl, inr, ◌⊎◌, ⊎_elim}
use Rattle.std.proofs.Common.{length-append, length-take, add-one}
use Rattle.std.proofs.lemmas.Bool.{cases_Bool, and_parts, and_from}
use Rattle.std.specs.List.{prefix_len, list_all, AllByRecursion}
use Rattle.std.specs.Char.{is_ascii_alphanumeric}
use Rattle.std.proofs.lemmas.List.{append_assoc, take_at, drop_at, take-append-drop}
use Rattle.std.proofs.lemmas.List.Elements.{recursion_from_All}
use Rattle.m_key.specs.Node.{Node, NodeSubscript, IsName, IsNode, IsSubscript, spelled}
use Rattle.m_text.specs.Grammar.{joined, Expression, expression_text, expression_bytes, IsExpression, reference_form}
use Rattle.m_text.specs.Grammar.{IsReferenceText}
use Rattle.m_text.specs.Front.{leads}
use Rattle.m_text.specs.FrontSubscripts.{ListStandsAt, longest_name}
use Rattle.m_text.proofs.FrontLemmas.{prefix_len-append, prefix_len-yes, prefix_len-no}

-- names

prefix_len-least : (p : ℕ → Bool) (xs rest : List ℕ) → list_all p xs ≡ true → length xs ≤ prefix_len p (xs ++ rest)
prefix_len-least p [] rest all = omega arith
prefix_len-least p (x ∷ xs) rest all =
    let both = and_parts (p x) (list_all p xs) all in
    let count = prefix_len-yes p x (xs ++ rest) both.0 in
    let more = prefix_len-least p xs rest both.1 in
    omega (arith, count, more)

passes_below : (p : ℕ → Bool) (k : ℕ) (xs : List ℕ) → k ≤ prefix_len p xs → list_all p (take k xs) ≡ true
passes_below p zero xs l = refl
passes_below p (suc k) [] l = refl
passes_below p (suc k) (x ∷ xs) l =
    ⊎_elim
    (λ (q : p x ≡ true).
    let count = prefix_len-yes p x xs q in
    ap (λ (b : Bool). b && list_all p (take k xs)) q ∙ passes_below p k xs (omega (arith, count)))
    (λ (q : p x ≡ false). let none = prefix_len-no p x xs q in absurd (omega (arith, none)))
    (cases_Bool (p x))

pub name_short : (name text rest : List ℕ) → IsName name → text ≡ name ++ rest → length name ≤ longest_name text
name_short [] text rest h e = absurd (let w : false ≡ true = h.word in cc)
name_short (x ∷ xs) text rest h e =
    let both = and_parts _ (list_all is_ascii_alphanumeric xs) h.word in
    let least = prefix_len-least is_ascii_alphanumeric xs rest both.1 in
    let len : longest_name text ≡ longest_name (x ∷ (xs ++ rest)) = ap longest_name e in
    let count = h.count in
    omega (arith, len, least, count)

pub name_ended : (name text rest : List ℕ) → IsName name → text ≡ name ++ 40 ∷ rest → longest_name text ≡ length name
name_ended [] text rest h e = absurd (let w : false ≡ true = h.word in cc)
name_ended (x ∷ xs) text rest h e =
    let both = and_parts _ (list_all is_ascii_alphanumeric xs) h.word in
    let exact = prefix_len-append is_ascii_alphanumeric xs (40 ∷ rest) both.1 refl in
    let len : longest_name text ≡ longest_name (x ∷ (xs ++ 40 ∷ rest)) = ap longest_name e in
    let count = h.count in
    omega (arith, len, exact, count)

taken_word : (x : ℕ) (xs text : List ℕ) → IsName (x ∷ xs) → IsName (take (longest_name (x ∷ text)) (x ∷ text))
taken_word x xs text h =
    let both = and_parts _ (list_all is_ascii_alphanumeric xs) h.word in
    let m : ℕ = min 30 (prefix_len is_ascii_alphanumeric text) in
    let cut : take (m + 1) (x ∷ text) ≡ x ∷ take m text = ap (λ (n : ℕ). take n (x ∷ text)) (add-one m) in
    let P : List ℕ → Type 0 = λ t. IsName t in
    subst P (sym cut) (record {
      word = and_from _ (list_all is_ascii_alphanumeric (take m text)) both.0
          (passes_below is_ascii_alphanumeric m text (omega arith));
      count = omega (arith, length-take m text);
    })

pub name_taken : (name text rest : List ℕ) → IsName name → text ≡ name ++ rest → IsName (take (longest_name text) text)
name_taken [] text rest h e = absurd (let w : false ≡ true = h.word in cc)
name_taken (x ∷ xs) text rest h e =
    let P : List ℕ → Type 0 = λ t. IsName (take (longest_name t) t) in
    subst P (sym e) (taken_word x xs (xs ++ rest) h)

-- what a reference's text begins with

-- A text of this length is a bare name, or a name with subscripts and a ')'.
pub record IsBareName (text : List ℕ) (len : ℕ) (node : Node) : Type 0 where
  pub behind : List ℕ
  pub written : text ≡ 94 ∷ (node.name ++ behind)
  pub size : len ≡ suc (length node.name)

pub record HasList (text : List ℕ) (len : ℕ) (node : Node) : Type 0 where
  pub inside : List ℕ
  pub behind : List ℕ
  pub written : text ≡ 94 ∷ (node.name ++ 40 ∷ inside)
  pub stand : ListStandsAt inside node.subscripts behind
  pub size : len + length behind ≡ length text

shape_from : (es : List Expression) (front back text : List ℕ) (node : Node) → AllByRecursion IsExpression es
    → reference_form node.name (map expression_text es) ≡ front → map expression_bytes es ≡ map spelled node.subscripts
    → text ≡ front ++ back → IsBareName text (length front) node ⊎ HasList text (length front) node
shape_from [] front back text node right w m e =
    inl (record { behind = back; written = e ∙ ap (λ (t : List ℕ). t ++ back) (sym w); size = ap length (sym w) })
shape_from (x ∷ xs) front back text node right w m e =
    let list : List ℕ = joined 44 (map expression_text (x ∷ xs)) in
    inr (record {
      inside = list ++ 41 ∷ back;
      behind = back;
      written =
          e ∙ ap (λ (t : List ℕ). t ++ back) (sym w)
          ∙ ap (λ (t : List ℕ). 94 ∷ t) (append_assoc node.name (40 ∷ (list ++ 41 ∷ [])) back)
          ∙ ap (λ (t : List ℕ). 94 ∷ (node.name ++ 40 ∷ t)) (append_assoc list (41 ∷ []) back);
      stand = record { expressions = x ∷ xs; some = omega arith; right = right; written = refl; meant = m };
      size = sym (ap length e ∙ length-append front back);
    })

pub shape_of : (len : ℕ) (text : List ℕ) (node : Node) → len ≤ length text → IsReferenceText (take len text) node
    → IsBareName text len node ⊎ HasList text len node
shape_of len text node l h =
    let size : length (take len text) ≡ len = omega (arith, length-take len text) in
    let P : ℕ → Type 0 = λ n. IsBareName text n node ⊎ HasList text n node in
    subst P size (shape_from h.subscripts (take len text) (drop len text) text node h.right h.written h.meant
    (sym (take-append-drop len text)))

-- whatever its length, a reference begins so
pub begins_so : (len : ℕ) (text : List ℕ) (node : Node) → IsReferenceText (take len text) node
    → (behind : List ℕ) × (text ≡ 94 ∷ (node.name ++ behind))
begins_so len text node h =
    ⊎_elim
    (λ (b : IsBareName text (length (take len text)) node). (b.behind, b.written))
    (λ (b : HasList text (length (take len text)) node). (40 ∷ b.inside, b.written))
    (shape_from h.subscripts (take len text) (drop len text) text node h.right h.written h.meant
    (sym (take-append-drop len text)))

-- references that are read

cut_at : (text front back : List ℕ) → text ≡ front ++ back → take (length text - length back) text ≡ front
cut_at text front back e =
    let n : ℕ = length text - length back in
    let size : length front ≡ n = omega (arith, ap length e ∙ length-append front back) in
    ap (take n) e ∙ take_at front back n size

pub bare_made : (text behind rest : List ℕ) (node : Node) → IsNode node → node.subscripts ≡ [] → text ≡ 94 ∷ behind
    → behind ≡ node.name ++ rest → IsReferenceText (take (length text - length rest) text) node
bare_made text behind rest node right none e n =
    let whole : text ≡ (94 ∷ node.name) ++ rest = e ∙ ap (λ (t : List ℕ). 94 ∷ t) n in
    record {
      is_node = right;
      subscripts = [];
      right = tt;
      written = sym (cut_at text (94 ∷ node.name) rest whole);
      meant = ap (map spelled) (sym none);
    }

list_made_from : (es : List Expression) (text inside rest : List ℕ) (node : Node) → 0 < length es
    → AllByRecursion IsExpression es → inside ≡ joined 44 (map expression_text es) ++ 41 ∷ rest
    → map expression_bytes es ≡ map spelled node.subscripts → IsNode node → text ≡ 94 ∷ (node.name ++ 40 ∷ inside)
    → IsReferenceText (take (length text - length rest) text) node
list_made_from [] text inside rest node l right w m is e = absurd (omega (arith, l))
list_made_from (x ∷ xs) text inside rest node l right w m is e =
    let list : List ℕ = joined 44 (map expression_text (x ∷ xs)) in
    let front : List ℕ = 94 ∷ (node.name ++ 40 ∷ (list ++ 41 ∷ [])) in
    let whole : text ≡ front ++ rest =
    e ∙ ap (λ (t : List ℕ). 94 ∷ (node.name ++ 40 ∷ t)) (w ∙ sym (append_assoc list (41 ∷ []) rest))
    ∙ ap (λ (t : List ℕ). 94 ∷ t) (sym (append_assoc node.name (40 ∷ (list ++ 41 ∷ [])) rest)) in
    record { is_node = is; subscripts = x ∷ xs; right = right; written = sym (cut_at text front rest whole); meant = m }

pub list_made : (text behind rest inside end : List ℕ) (node : Node) → IsNode node → text ≡ 94 ∷ behind
    → behind ≡ node.name ++ rest → rest ≡ 40 ∷ inside → ListStandsAt inside node.subscripts end
    → IsReferenceText (take (length text - length end) text) node
list_made text behind rest inside end node is e n o h =
    list_made_from h.expressions text inside end node h.some h.right h.written h.meant is (e
    ∙ ap (λ (t : List ℕ). 94 ∷ t) (n ∙ ap (λ (t : List ℕ). node.name ++ t) o))

pub same_front : (a b x y : List ℕ) → length a ≡ length b → a ++ x ≡ b ++ y → x ≡ y
same_front a b x y l e = sym (drop_at a x (length b) l) ∙ ap (drop (length b)) e ∙ drop_at b y (length b) refl

pub tail_of : (x y : ℕ) (xs ys : List ℕ) → x ∷ xs ≡ y ∷ ys → xs ≡ ys
tail_of x y xs ys e = cc

-- no reference at the front is longer

bare_shorter : (text behind name rest : List ℕ) (len : ℕ) (node : Node) → IsNode node → text ≡ 94 ∷ behind
    → length name ≡ longest_name behind → IsBareName text len node → len ≤ suc (length name)
bare_shorter text behind name rest len node is e l b =
    let short =
    name_short node.name behind b.behind is.name (tail_of 94 94 behind (node.name ++ b.behind) (sym e
    ∙ b.written)) in
    omega (arith, short, l, b.size)

list_behind : (text behind name rest : List ℕ) (len : ℕ) (node : Node) → IsNode node → text ≡ 94 ∷ behind
    → behind ≡ name ++ rest → length name ≡ longest_name behind → (h : HasList text len node) → rest ≡ 40 ∷ h.inside
list_behind text behind name rest len node is e n l h =
    let other : behind ≡ node.name ++ 40 ∷ h.inside =
    tail_of 94 94 behind (node.name ++ 40 ∷ h.inside) (sym e ∙ h.written) in
    same_front name node.name rest (40 ∷ h.inside) (l ∙ name_ended node.name behind h.inside is.name other) (sym n
    ∙ other)

pub longest_bare : (text behind name rest : List ℕ) (len : ℕ) (node : Node) → len ≤ length text
    → IsReferenceText (take len text) node → text ≡ 94 ∷ behind → behind ≡ name ++ rest
    → length name ≡ longest_name behind
    → ((inside back : List ℕ) (ss : List NodeSubscript) → AllByRecursion IsSubscript ss → length ss ≤ 31
    → rest ≡ 40 ∷ inside → ListStandsAt inside ss back → ⊥) → len ≤ length text - length rest
longest_bare text behind name rest len node fits h e n l none =
    let size = ap length e in
    let parts = ap length n ∙ length-append name rest in
    ⊎_elim
    (λ (b : IsBareName text len node). let short = bare_shorter text behind name rest len node h.is_node e l b in
    omega (arith, size, parts, short))
    (λ (b : HasList text len node).
    absurd (none b.inside b.behind node.subscripts (recursion_from_All IsSubscript node.subscripts h.is_node.subscripts)
    h.is_node.count (list_behind text behind name rest len node h.is_node e n l b) b.stand))
    (shape_of len text node fits h)

pub longest_list : (text behind name rest end : List ℕ) (len : ℕ) (node : Node) → len ≤ length text
    → IsReferenceText (take len text) node → text ≡ 94 ∷ behind → behind ≡ name ++ rest
    → length name ≡ longest_name behind → length end < length rest
    → ((inside back : List ℕ) (ss : List NodeSubscript) → AllByRecursion IsSubscript ss → length ss ≤ 31
    → rest ≡ 40 ∷ inside → ListStandsAt inside ss back → back ≡ end) → len ≤ length text - length end
longest_list text behind name rest end len node fits h e n l shorter only =
    let size = ap length e in
    let parts = ap length n ∙ length-append name rest in
    ⊎_elim
    (λ (b : IsBareName text len node). let short = bare_shorter text behind name rest len node h.is_node e l b in
    omega (arith, size, parts, short, shorter))
    (λ (b : HasList text len node).
    let same : b.behind ≡ end =
    only b.inside b.behind node.subscripts (recursion_from_All IsSubscript node.subscripts h.is_node.subscripts)
    h.is_node.count (list_behind text behind name rest len node h.is_node e n l b) b.stand in
    omega (arith, b.size, ap length same))
    (shape_of len text node fits h)

-- subscripts end before the text does
pub list_shorter : (inside end : List ℕ) (ss : List NodeSubscript) → ListStandsAt inside ss end
    → length end < length inside
list_shorter inside end ss h =
    omega (arith, ap length h.written ∙ length-append (joined 44 (map expression_text h.expressions)) (41 ∷ end))

-- without a name there is no reference
pub no_reference : (text behind : List ℕ) (len : ℕ) (node : Node) → text ≡ 94 ∷ behind
    → ((name rest : List ℕ) → IsName name → behind ≡ name ++ rest → ⊥) → IsReferenceText (take len text) node → ⊥
no_reference text behind len node e none h =
    let b = begins_so len text node h in
    none node.name b.0 h.is_node.name (tail_of 94 94 behind (node.name ++ b.0) (sym e ∙ b.1))

pub no_caret : (text : List ℕ) (len : ℕ) (node : Node) → leads 94 text ≡ false → IsReferenceText (take len text) node
    → ⊥
no_caret text len node e h =
    let b = begins_so len text node h in
    let wrong : false ≡ true = sym e ∙ ap (leads 94) b.1 in
    cc
