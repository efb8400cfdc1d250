-- References whose last subscript is the null one.
use Rattle.std.proofs.Common.{◌≡◌, ℕ, ◌+◌, ◌<◌, ◌≤◌, true, false, List, [], ◌∷◌, ◌++◌, length, take, map, Some, refl}
use Rattle.std.proofs.Common.{sym, ap, ◌∙◌, subst, arith, ⊎_elim, length-append}
use Rattle.std.specs.List.{AllByRecursion, prefix_len}
use Rattle.std.proofs.lemmas.List.{map_push, take_at}
use Rattle.std.proofs.lemmas.List.Elements.{recursion_from_All}
use Rattle.m_key.specs.Node.{Node, NodeSubscript, IsName, IsNode, IsSubscript, spelled}
use Rattle.m_text.specs.Grammar.{joined, Expression, bare, string, expression_text, expression_bytes, IsExpression}
use Rattle.m_text.specs.Grammar.{reference_form, IsReferenceText, IsNullReferenceText}
use Rattle.m_text.specs.Front.{leads, string_at, is_number_byte}
use Rattle.m_text.specs.FrontSubscripts.{null, StandsAt, IsEnded, ListStandsAt, longest_name}
use Rattle.m_text.proofs.SubscriptLemmas.{First, first_of_list, number_some, spelled_some, string_len, string_read_at}
use Rattle.m_text.proofs.ReferenceLemmas.{tail_of, name_ended, same_front}
use Rattle.m_text.proofs.OneReferenceLemmas.{OneText, IsBareText, IsListText, cases_of, bare_no_list, one_list_text}
use Rattle.m_text.proofs.OneReferenceLemmas.{all_known, known_with_null, same_node, one_stands, none_first}

-- ---- the whole text

list_from : (es : List Expression) (text : List ℕ) (node : Node) → AllByRecursion IsExpression es
    → reference_form node.name (map expression_text es) ≡ text
    → map expression_bytes es ≡ map spelled node.subscripts ++ [] ∷ []
    → IsListText text node.name (node.subscripts ++ null ∷ [])
list_from [] text node right w m =
    let sizes = ap length m ∙ length-append (map spelled node.subscripts) ([] ∷ []) in
    absurd (omega (arith, sizes))
list_from (x ∷ xs) text node right w m = record {
  inside = joined 44 (map expression_text (x ∷ xs)) ++ 41 ∷ [];
  written = sym w;
  stand = record {
    expressions = x ∷ xs;
    some = omega arith;
    right = right;
    written = refl;
    meant = m ∙ sym (map_push spelled node.subscripts null);
  };
}

null_list : (text : List ℕ) (node : Node) → IsNullReferenceText text node
    → IsListText text node.name (node.subscripts ++ null ∷ [])
null_list text node h = list_from h.subscripts text node h.right h.written h.meant

last_off : (ss ts : List NodeSubscript) → ss ++ null ∷ [] ≡ ts ++ null ∷ [] → ss ≡ ts
last_off ss ts e =
    let sizes = sym (length-append ss (null ∷ [])) ∙ ap length e ∙ length-append ts (null ∷ []) in
    let size : length ts ≡ length ss = omega (arith, sizes) in
    sym (take_at ss (null ∷ []) (length ss) refl) ∙ ap (take (length ss)) e ∙ take_at ts (null ∷ []) (length ss) size

no_null : (ss : List NodeSubscript) → AllByRecursion IsSubscript (ss ++ null ∷ []) → ⊥
no_null [] h = let some = spelled_some null h.0 in omega (arith, some)
no_null (s ∷ ss) h = no_null ss h.1

pub each_of : (node : Node) → IsNode node → AllByRecursion IsSubscript node.subscripts
each_of node is = recursion_from_All IsSubscript node.subscripts is.subscripts

pub one_null_reference_lem : OneText → (text : List ℕ) (a b : Node) → IsNullReferenceText text a
    → IsNullReferenceText text b → a ≡ b
one_null_reference_lem one text a b h k =
    let both = one_list_text one text a.name b.name (a.subscripts ++ null ∷ []) (b.subscripts ++ null ∷ [])
    h.is_node.name k.is_node.name (known_with_null a.subscripts (each_of a h.is_node))
    (known_with_null b.subscripts (each_of b k.is_node)) (null_list text a h) (null_list text b k) in
    same_node a b both.0 (last_off a.subscripts b.subscripts both.1)

pub null_apart : OneText → (text : List ℕ) (a b : Node) → IsReferenceText text a → IsNullReferenceText text b → ⊥
null_apart one text a b h k =
    let list = null_list text b k in
    let each = each_of a h.is_node in
    ⊎_elim
    (λ (x : IsBareText text a).
    bare_no_list text b.name a (b.subscripts ++ null ∷ []) h.is_node.name k.is_node.name x list)
    (λ (x : IsListText text a.name a.subscripts).
    let both = one_list_text one text a.name b.name a.subscripts (b.subscripts ++ null ∷ []) h.is_node.name
    k.is_node.name (all_known a.subscripts each) (known_with_null b.subscripts (each_of b k.is_node)) x list in
    no_null b.subscripts (subst (λ (ss : List NodeSubscript). AllByRecursion IsSubscript ss) both.1 each))
    (cases_of text a h)

-- ---- what is read of it

made_from : (es : List Expression) (inside text : List ℕ) (node : Node) → 0 < length es
    → AllByRecursion IsExpression es → inside ≡ joined 44 (map expression_text es) ++ 41 ∷ []
    → map expression_bytes es ≡ map spelled (node.subscripts ++ null ∷ []) → IsNode node → length node.subscripts < 31
    → text ≡ 94 ∷ (node.name ++ 40 ∷ inside) → IsNullReferenceText text node
made_from [] inside text node some right w m is fewer e = absurd (omega (arith, some))
made_from (x ∷ xs) inside text node some right w m is fewer e = record {
  is_node = is;
  fewer = fewer;
  subscripts = x ∷ xs;
  right = right;
  written = sym (e ∙ ap (λ (t : List ℕ). 94 ∷ (node.name ++ 40 ∷ t)) w);
  meant = m ∙ map_push spelled node.subscripts null;
}

pub null_made : (text behind rest inside : List ℕ) (node : Node) → IsNode node → length node.subscripts < 31
    → text ≡ 94 ∷ behind → behind ≡ node.name ++ rest → rest ≡ 40 ∷ inside
    → ListStandsAt inside (node.subscripts ++ null ∷ []) [] → IsNullReferenceText text node
null_made text behind rest inside node is fewer e n o h =
    made_from h.expressions inside text node h.some h.right h.written h.meant is fewer (e
    ∙ ap (λ (t : List ℕ). 94 ∷ t) (n ∙ ap (λ (t : List ℕ). node.name ++ t) o))

-- the text begins so
pub null_begins : (text : List ℕ) (node : Node) → IsNullReferenceText text node
    → (rest : List ℕ) × (text ≡ 94 ∷ (node.name ++ rest))
null_begins text node h = let l = null_list text node h in (40 ∷ l.inside, l.written)

-- behind the longest name stand subscripts and the null one
pub null_behind : (text behind name rest : List ℕ) (node : Node) → text ≡ 94 ∷ behind → behind ≡ name ++ rest
    → length name ≡ longest_name behind → IsNullReferenceText text node
    → (inside : List ℕ) × (rest ≡ 40 ∷ inside) × ListStandsAt inside (node.subscripts ++ null ∷ []) []
null_behind text behind name rest node e n size h =
    let l = null_list text node h in
    let other : behind ≡ node.name ++ 40 ∷ l.inside =
    tail_of 94 94 behind (node.name ++ 40 ∷ l.inside) (sym e ∙ l.written) in (
      l.inside,
      same_front name node.name rest (40 ∷ l.inside) (size
          ∙ name_ended node.name behind l.inside h.is_node.name other) (sym n ∙ other),
      l.stand,
    )

pub null_caret : (text : List ℕ) (node : Node) → leads 94 text ≡ false → IsNullReferenceText text node → ⊥
null_caret text node none h =
    let b = null_begins text node h in
    let wrong : false ≡ true = sym none ∙ ap (leads 94) b.1 in
    cc

pub null_unnamed : (text behind : List ℕ) (node : Node) → text ≡ 94 ∷ behind
    → ((name rest : List ℕ) → IsName name → behind ≡ name ++ rest → ⊥) → IsNullReferenceText text node → ⊥
null_unnamed text behind node e none h =
    let b = null_begins text node h in
    none node.name b.0 h.is_node.name (tail_of 94 94 behind (node.name ++ b.0) (sym e ∙ b.1))

-- ---- the null subscript

pub empty_list : (bytes : List ℕ) → length bytes ≡ 0 → bytes ≡ []
empty_list [] e = refl
empty_list (b ∷ bs) e = absurd (omega (arith, e))

null_no_number : (e : Expression) (text rest : List ℕ) → IsExpression e → text ≡ expression_text e ++ rest
    → expression_bytes e ≡ [] → prefix_len is_number_byte text ≡ 0
null_no_number (bare n) text rest right w m = let some = number_some n in absurd (omega (arith, some, ap length m))
null_no_number (string pieces) text rest right w m =
    ap (prefix_len is_number_byte) w ∙ string_len pieces rest right.0

pub null_read : (text : List ℕ) → StandsAt text null (41 ∷ []) → string_at text ≡ Some ([], 41 ∷ [])
null_read text h =
    string_read_at text null (41 ∷ []) (null_no_number h.expression text (41 ∷ []) h.right h.written h.meant) refl h

-- ---- subscripts before the null one

-- Subscripts, the null one and a ')' are the text, and with those before them there are 31 at most.
pub record NullStandsAfter (text : List ℕ) (before : ℕ) : Type 0 where
  pub ss : List NodeSubscript
  pub right : AllByRecursion IsSubscript ss
  pub count : before + length ss < 31
  pub stand : ListStandsAt text (ss ++ null ∷ []) []

-- What stands behind a subscript is determined.
abbrev pub EndsAt : List ℕ → List ℕ → Type 0
EndsAt text after = (t : NodeSubscript) (r : List ℕ) → IsEnded r → StandsAt text t r → r ≡ after

-- what stands behind the first of them
rest_of : (ss others : List NodeSubscript) (s : NodeSubscript) (more : List ℕ) (i : ℕ) → AllByRecursion IsSubscript ss
    → i + length ss < 31 → ss ++ null ∷ [] ≡ s ∷ others → ListStandsAt more others [] → NullStandsAfter more (i + 1)
rest_of [] others s more i right count e h =
    let none : others ≡ [] = cc in
    none_first more [] (first_of_list more [] [] (subst (λ (ss : List NodeSubscript). ListStandsAt more ss []) none h))
rest_of (x ∷ xs) others s more i right count e h =
    let same : others ≡ xs ++ null ∷ [] = cc in
    record {
      ss = xs;
      right = right.1;
      count = omega (arith, count);
      stand = subst (λ (ss : List NodeSubscript). ListStandsAt more ss []) same h;
    }

alone_is_null : (ss : List NodeSubscript) (s : NodeSubscript) → ss ++ null ∷ [] ≡ s ∷ [] → s ≡ null
alone_is_null [] s e = cc
alone_is_null (x ∷ xs) s e =
    let sizes = ap length e in
    let parts = length-append xs (null ∷ []) in
    absurd (omega (arith, sizes, parts))

-- the only one is the null one
null_alone : (text : List ℕ) (ss : List NodeSubscript) → (f : First text (ss ++ null ∷ []) [])
    → StandsAt text f.s (41 ∷ []) → f.others ≡ [] → f.s ≡ null
null_alone text ss f h e =
    alone_is_null ss f.s (f.are ∙ ap (λ (others : List NodeSubscript). f.s ∷ others) e)

pub null_step : (text after more : List ℕ) (i : ℕ) → EndsAt text after → after ≡ 44 ∷ more → NullStandsAfter text i
    → NullStandsAfter more (i + 1)
null_step text after more i only e g =
    let f = first_of_list text (g.ss ++ null ∷ []) [] g.stand in
    ⊎_elim
    (λ (last : StandsAt text f.s (41 ∷ []) × (f.others ≡ [])).
    let wrong : 41 ∷ [] ≡ 44 ∷ more = only f.s (41 ∷ []) refl last.0 ∙ e in
    absurd (cc))
    (λ (next : (m : List ℕ) × StandsAt text f.s (44 ∷ m) × ListStandsAt m f.others []).
    let behind : next.0 ≡ more = tail_of 44 44 next.0 more (only f.s (44 ∷ next.0) refl next.1 ∙ e) in
    rest_of g.ss f.others f.s more i g.right g.count f.are
    (subst (λ (t : List ℕ). ListStandsAt t f.others []) behind next.2))
    f.is

-- a subscript was read that no ',' follows
pub null_stuck : (text after : List ℕ) (i : ℕ) (t : NodeSubscript) → EndsAt text after → IsSubscript t
    → StandsAt text t after → leads 44 after ≡ false → NullStandsAfter text i → ⊥
null_stuck text after i t only right found no_more g =
    let f = first_of_list text (g.ss ++ null ∷ []) [] g.stand in
    ⊎_elim
    (λ (last : StandsAt text f.s (41 ∷ []) × (f.others ≡ [])).
    let end : 41 ∷ [] ≡ after = only f.s (41 ∷ []) refl last.0 in
    let both = one_stands text (41 ∷ []) (41 ∷ []) f.s t refl refl last.0
    (subst (λ (r : List ℕ). StandsAt text t r) (sym end) found) in
    let none : spelled t ≡ [] = sym both.0 ∙ ap spelled (null_alone text g.ss f last.0 last.1) in
    let some = spelled_some t right in
    omega (arith, some, ap length none))
    (λ (next : (m : List ℕ) × StandsAt text f.s (44 ∷ m) × ListStandsAt m f.others []).
    let wrong : true ≡ false = ap (leads 44) (only f.s (44 ∷ next.0) refl next.1) ∙ no_more in
    absurd (cc))
    f.is

none_goes_on : (ss others : List NodeSubscript) (s : NodeSubscript) (text more : List ℕ)
    → ((t : NodeSubscript) (r : List ℕ) → IsSubscript t → IsEnded r → StandsAt text t r → ⊥)
    → AllByRecursion IsSubscript ss → ss ++ null ∷ [] ≡ s ∷ others → StandsAt text s (44 ∷ more)
    → ListStandsAt more others [] → ⊥
none_goes_on [] others s text more none right e h l =
    let empty : others ≡ [] = cc in
    none_first more [] (first_of_list more [] [] (subst (λ (ss : List NodeSubscript). ListStandsAt more ss []) empty l))
none_goes_on (x ∷ xs) others s text more none right e h l =
    let same : x ≡ s = cc in
    none s (44 ∷ more) (subst (λ (t : NodeSubscript). IsSubscript t) same right.0) refl h

-- neither a subscript nor the null one stands there
pub null_none : (text : List ℕ) (i : ℕ)
    → ((t : NodeSubscript) (r : List ℕ) → IsSubscript t → IsEnded r → StandsAt text t r → ⊥)
    → (StandsAt text null (41 ∷ []) → ⊥) → NullStandsAfter text i → ⊥
null_none text i none no_null g =
    let f = first_of_list text (g.ss ++ null ∷ []) [] g.stand in
    ⊎_elim
    (λ (last : StandsAt text f.s (41 ∷ []) × (f.others ≡ [])).
    no_null (subst (λ (s : NodeSubscript). StandsAt text s (41 ∷ [])) (null_alone text g.ss f last.0 last.1) last.0))
    (λ (next : (m : List ℕ) × StandsAt text f.s (44 ∷ m) × ListStandsAt m f.others []).
    none_goes_on g.ss f.others f.s text next.0 none g.right f.are next.1 next.2)
    f.is

pub null_full : (text : List ℕ) (i : ℕ) → 31 ≤ i → NullStandsAfter text i → ⊥
null_full text i l g = omega (arith, l, g.count)
