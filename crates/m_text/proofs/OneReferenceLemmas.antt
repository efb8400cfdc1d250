-- A text stands for one reference at most.
use Rattle.std.proofs.Common.{◌≡◌, ℕ, ◌<◌, ◌≤◌, List, [], ◌∷◌, ◌++◌, length, take, drop, map, refl, sym, ap, ◌∙◌, subst}
use Rattle.std.proofs.Common.{arith, inl, inr, ◌⊎◌, ⊎_elim, length-append}
use Rattle.std.specs.List.{AllByRecursion, prefix_len}
use Rattle.std.proofs.lemmas.List.{append-nil, take_at, drop_at}
use Rattle.std.proofs.lemmas.List.Elements.{recursion_from_All}
use Rattle.std.proofs.lemmas.Bool.{cases_lt}
use Rattle.m_number.specs.Numeral.{Numeral, IsNumeral}
use Rattle.m_number.specs.Text.{text_of}
use Rattle.m_key.specs.Node.{Node, NodeSubscript, number, IsName, IsSubscript, spelled}
use Rattle.m_key.specs.Node.{string as text_node}
use Rattle.m_text.specs.Grammar.{joined, Expression, bare, string, expression_text, expression_bytes, IsExpression}
use Rattle.m_text.specs.Grammar.{reference_form, IsReferenceText}
use Rattle.m_text.specs.Front.{is_number_byte}
use Rattle.m_text.specs.FrontSubscripts.{null, StandsAt, IsEnded, ListStandsAt}
use Rattle.m_text.proofs.FoundLemmas.{pair_of}
use Rattle.m_text.proofs.SubscriptLemmas.{First, first_of_list, bare_len, string_len, string_read_at, number_some}
use Rattle.m_text.proofs.ReferenceLemmas.{tail_of, name_short, name_ended, same_front}

-- what the law on the texts of numbers says
abbrev pub OneText : Type 0
OneText = (a b : Numeral) → IsNumeral a → IsNumeral b → text_of a ≡ text_of b → a ≡ b

-- a subscript or the null one
abbrev IsKnown : NodeSubscript → Type 0
IsKnown (number n) = IsNumeral n
IsKnown (text_node text) = (n : Numeral) → IsNumeral n → text_of n ≡ text → ⊥

abbrev pub AllKnown : List NodeSubscript → Type 0
AllKnown ss = AllByRecursion IsKnown ss

known : (s : NodeSubscript) → IsSubscript s → IsKnown s
known (number n) h = h
known (text_node text) h = h.no_number

pub all_known : (ss : List NodeSubscript) → AllByRecursion IsSubscript ss → AllKnown ss
all_known [] h = tt
all_known (s ∷ ss) h = (known s h.0, all_known ss h.1)

null_known : IsKnown null
null_known n h e = let some = number_some n in omega (arith, some, ap length e)

pub known_with_null : (ss : List NodeSubscript) → AllByRecursion IsSubscript ss → AllKnown (ss ++ null ∷ [])
known_with_null [] h = (null_known, tt)
known_with_null (s ∷ ss) h = (known s h.0, known_with_null ss h.1)

-- bytes spell one of them at most
one_spelled : OneText → (s t : NodeSubscript) → IsKnown s → IsKnown t → spelled s ≡ spelled t → s ≡ t
one_spelled one (number a) (number b) h k e = ap number (one a b h k e)
one_spelled one (number a) (text_node t) h k e = absurd (k a h e)
one_spelled one (text_node s) (number b) h k e = absurd (h b k (sym e))
one_spelled one (text_node s) (text_node t) h k e = ap text_node e

-- What stands at the front, up to a ',' or a ')', stands there in one way.
record Spells (text bytes rest : List ℕ) (n : ℕ) : Type 0 where
  bytes_are : bytes ≡ take n text
  rest_is : rest ≡ drop n text

bare_spells : (e : Expression) (text bytes rest : List ℕ) (n : ℕ) → n ≡ prefix_len is_number_byte text → 0 < n
    → IsExpression e → IsEnded rest → text ≡ expression_text e ++ rest → expression_bytes e ≡ bytes
    → Spells text bytes rest n
bare_spells (bare m) text bytes rest n count l right ended w b =
    let size : length (text_of m) ≡ n = sym (count ∙ ap (prefix_len is_number_byte) w ∙ bare_len m rest right ended) in
    record {
      bytes_are = sym b ∙ sym (ap (take n) w ∙ take_at (text_of m) rest n size);
      rest_is = sym (ap (drop n) w ∙ drop_at (text_of m) rest n size);
    }
bare_spells (string pieces) text bytes rest n count l right ended w b =
    let none : n ≡ 0 = count ∙ ap (prefix_len is_number_byte) w ∙ string_len pieces rest right.0 in
    absurd (omega (arith, none))

pub one_stands : (text rest rest' : List ℕ) (s t : NodeSubscript) → IsEnded rest → IsEnded rest' → StandsAt text s rest
    → StandsAt text t rest' → (spelled s ≡ spelled t) × (rest ≡ rest')
one_stands text rest rest' s t e f h k =
    let n : ℕ = prefix_len is_number_byte text in
    ⊎_elim
    (λ (l : 0 < n).
    let a = bare_spells h.expression text (spelled s) rest n refl l h.right e h.written h.meant in
    let b = bare_spells k.expression text (spelled t) rest' n refl l k.right f k.written k.meant in
    (a.bytes_are ∙ sym b.bytes_are, a.rest_is ∙ sym b.rest_is))
    (λ (l : n ≤ 0).
    let none : n ≡ 0 = omega (arith, l) in
    pair_of (spelled s) rest (spelled t) rest' (sym (string_read_at text s rest none e h)
    ∙ string_read_at text t rest' none f k))
    (cases_lt 0 n)

tail_nodes : (s t : NodeSubscript) (ss ts : List NodeSubscript) → s ∷ ss ≡ t ∷ ts → (s ≡ t) × (ss ≡ ts)
tail_nodes s t ss ts e = (cc, cc)

same_nodes : (s t : NodeSubscript) (ss ts : List NodeSubscript) → s ≡ t → ss ≡ ts → s ∷ ss ≡ t ∷ ts
same_nodes s t ss ts p q = cc

-- what the firsts of two lists at one place have in common
record Agree (fs gs : NodeSubscript) (f g : List NodeSubscript) (rest rest' : List ℕ) : Type 0 where
  spelt : spelled fs ≡ spelled gs
  others : ((f ≡ []) × (g ≡ []) × (rest ≡ rest')) ⊎ ((m : List ℕ) × ListStandsAt m f rest × ListStandsAt m g rest')

both_end : (text : List ℕ) (s t : NodeSubscript) (f g : List NodeSubscript) (rest rest' : List ℕ)
    → StandsAt text s (41 ∷ rest) → f ≡ [] → StandsAt text t (41 ∷ rest') → g ≡ [] → Agree s t f g rest rest'
both_end text s t f g rest rest' x p y q =
    let both = one_stands text (41 ∷ rest) (41 ∷ rest') s t refl refl x y in
    record { spelt = both.0; others = inl (p, q, tail_of 41 41 rest rest' both.1) }

heads_differ : (xs ys : List ℕ) → 41 ∷ xs ≡ 44 ∷ ys → ⊥
heads_differ xs ys e = cc

one_ends : (text : List ℕ) (s t : NodeSubscript) (rest m : List ℕ) → StandsAt text s (41 ∷ rest)
    → StandsAt text t (44 ∷ m) → ⊥
one_ends text s t rest m x y = heads_differ rest m (one_stands text (41 ∷ rest) (44 ∷ m) s t refl refl x y).1

both_go_on : (text : List ℕ) (s t : NodeSubscript) (f g : List NodeSubscript) (rest rest' m n : List ℕ)
    → StandsAt text s (44 ∷ m) → ListStandsAt m f rest → StandsAt text t (44 ∷ n) → ListStandsAt n g rest'
    → Agree s t f g rest rest'
both_go_on text s t f g rest rest' m n x p y q =
    let both = one_stands text (44 ∷ m) (44 ∷ n) s t refl refl x y in
    record {
      spelt = both.0;
      others =
          inr (m, p, subst (λ (u : List ℕ). ListStandsAt u g rest') (tail_of 44 44 n m (sym both.1)) q);
    }

firsts_agree : (text : List ℕ) (ss ts : List NodeSubscript) (rest rest' : List ℕ) → (f : First text ss rest)
    → (g : First text ts rest') → Agree f.s g.s f.others g.others rest rest'
firsts_agree text ss ts rest rest' f g =
    ⊎_elim
    (λ (x : StandsAt text f.s (41 ∷ rest) × (f.others ≡ [])).
    ⊎_elim
    (λ (y : StandsAt text g.s (41 ∷ rest')
    × (g.others ≡ [])). both_end text f.s g.s f.others g.others rest rest' x.0 x.1 y.0 y.1)
    (λ (y : (m : List ℕ) × StandsAt text g.s (44 ∷ m)
    × ListStandsAt m g.others rest'). absurd (one_ends text f.s g.s rest y.0 x.0 y.1))
    g.is)
    (λ (x : (m : List ℕ) × StandsAt text f.s (44 ∷ m) × ListStandsAt m f.others rest).
    ⊎_elim
    (λ (y : StandsAt text g.s (41 ∷ rest') × (g.others ≡ [])). absurd (one_ends text g.s f.s rest' x.0 y.0 x.1))
    (λ (y : (m : List ℕ) × StandsAt text g.s (44 ∷ m)
    × ListStandsAt m g.others rest'). both_go_on text f.s g.s f.others g.others rest rest' x.0 y.0 x.1 x.2 y.1 y.2)
    g.is)
    f.is

others_same : (f g : List NodeSubscript) (rest rest' : List ℕ) → AllKnown g
    → ((m : List ℕ) (us : List NodeSubscript) → AllKnown us → ListStandsAt m f rest → ListStandsAt m us rest' → f ≡ us)
    → ((f ≡ []) × (g ≡ []) × (rest ≡ rest')) ⊎ ((m : List ℕ) × ListStandsAt m f rest × ListStandsAt m g rest') → f ≡ g
others_same f g rest rest' k again a =
    ⊎_elim
    (λ (x : (f ≡ []) × (g ≡ []) × (rest ≡ rest')). x.0 ∙ sym x.1)
    (λ (x : (m : List ℕ) × ListStandsAt m f rest × ListStandsAt m g rest'). again x.0 g k x.1 x.2)
    a

list_again : OneText → (f g : NodeSubscript) (fs gs : List NodeSubscript) (rest rest' : List ℕ) → AllKnown (f ∷ fs)
    → AllKnown (g ∷ gs)
    → ((m : List ℕ) (us : List NodeSubscript) → AllKnown us → ListStandsAt m fs rest → ListStandsAt m us rest'
    → fs ≡ us) → Agree f g fs gs rest rest' → f ∷ fs ≡ g ∷ gs
list_again one f g fs gs rest rest' h k again a =
    same_nodes f g fs gs (one_spelled one f g h.0 k.0 a.spelt) (others_same fs gs rest rest' k.1 again a.others)

-- the first and the others of a list, by the list
agree_at : (s t : NodeSubscript) (ss fs gs : List NodeSubscript) (f : NodeSubscript) (rest rest' : List ℕ)
    → s ∷ ss ≡ f ∷ fs → Agree f t fs gs rest rest' → Agree s t ss gs rest rest'
agree_at s t ss fs gs f rest rest' e a =
    let parts = tail_nodes s f ss fs e in
    let P : NodeSubscript → Type 0 = λ x. Agree x t ss gs rest rest' in
    let Q : List NodeSubscript → Type 0 = λ xs. Agree f t xs gs rest rest' in
    subst P (sym parts.0) (subst Q (sym parts.1) a)

pub none_first : {A : Type 0} (text rest : List ℕ) → First text [] rest → A
none_first text rest f = absurd (let wrong : [] ≡ f.s ∷ f.others = f.are in cc)

list_same : OneText → (text : List ℕ) (s : NodeSubscript) (ss ts : List NodeSubscript) (rest rest' : List ℕ)
    → AllKnown (s ∷ ss) → AllKnown ts
    → ((m : List ℕ) (us : List NodeSubscript) → AllKnown us → ListStandsAt m ss rest → ListStandsAt m us rest'
    → ss ≡ us) → First text (s ∷ ss) rest → First text ts rest' → s ∷ ss ≡ ts
list_same one text s ss ts rest rest' h k again f g =
    let right : AllKnown (g.s ∷ g.others) = subst (λ (xs : List NodeSubscript). AllKnown xs) g.are k in
    list_again one s g.s ss g.others rest rest' h right again
    (agree_at s g.s ss f.others g.others f.s rest rest' f.are (firsts_agree text (s ∷ ss) ts rest rest' f g))
    ∙ sym g.are

-- subscripts up to a ')' stand there in one way
one_list : OneText → (text : List ℕ) (ss ts : List NodeSubscript) (rest rest' : List ℕ) → AllKnown ss → AllKnown ts
    → ListStandsAt text ss rest → ListStandsAt text ts rest' → ss ≡ ts
one_list one text [] ts rest rest' h k a b = none_first text rest (first_of_list text [] rest a)
one_list one text (s ∷ ss) ts rest rest' h k a b =
    let g = first_of_list text ts rest' b in
    list_same one text s ss ts rest rest' h k (λ m us j x y. one_list one m ss us rest rest' h.1 j x y)
    (first_of_list text (s ∷ ss) rest a) g

ends_same : (f g : List NodeSubscript) (rest rest' : List ℕ)
    → ((m : List ℕ) → ListStandsAt m f rest → ListStandsAt m g rest' → rest ≡ rest')
    → ((f ≡ []) × (g ≡ []) × (rest ≡ rest')) ⊎ ((m : List ℕ) × ListStandsAt m f rest × ListStandsAt m g rest')
    → rest ≡ rest'
ends_same f g rest rest' again a =
    ⊎_elim
    (λ (x : (f ≡ []) × (g ≡ []) × (rest ≡ rest')). x.2)
    (λ (x : (m : List ℕ) × ListStandsAt m f rest × ListStandsAt m g rest'). again x.0 x.1 x.2)
    a

-- subscripts and a ')' that stand at one place end at one place
pub one_end : (text : List ℕ) (ss ts : List NodeSubscript) (rest rest' : List ℕ) → ListStandsAt text ss rest
    → ListStandsAt text ts rest' → rest ≡ rest'
one_end text [] ts rest rest' a b = none_first text rest (first_of_list text [] rest a)
one_end text (s ∷ ss) ts rest rest' a b =
    let f = first_of_list text (s ∷ ss) rest a in
    let g = first_of_list text ts rest' b in
    let agree =
    agree_at s g.s ss f.others g.others f.s rest rest' f.are (firsts_agree text (s ∷ ss) ts rest rest' f g) in
    ends_same ss g.others rest rest' (λ m x y. one_end m ss g.others rest rest' x y) agree.others

-- a text that is a bare name, or a name with subscripts
pub record IsBareText (text : List ℕ) (node : Node) : Type 0 where
  pub written : text ≡ 94 ∷ node.name
  pub none : node.subscripts ≡ []

pub record IsListText (text name : List ℕ) (ss : List NodeSubscript) : Type 0 where
  pub inside : List ℕ
  pub written : text ≡ 94 ∷ (name ++ 40 ∷ inside)
  pub stand : ListStandsAt inside ss []

none_spelled : (ss : List NodeSubscript) → [] ≡ map spelled ss → ss ≡ []
none_spelled [] e = refl
none_spelled (s ∷ ss) e = absurd (cc)

cases_from : (es : List Expression) (text : List ℕ) (node : Node) → AllByRecursion IsExpression es
    → reference_form node.name (map expression_text es) ≡ text → map expression_bytes es ≡ map spelled node.subscripts
    → IsBareText text node ⊎ IsListText text node.name node.subscripts
cases_from [] text node right w m = inl (record { written = sym w; none = none_spelled node.subscripts m })
cases_from (x ∷ xs) text node right w m =
    inr (record {
      inside = joined 44 (map expression_text (x ∷ xs)) ++ 41 ∷ [];
      written = sym w;
      stand = record { expressions = x ∷ xs; some = omega arith; right = right; written = refl; meant = m };
    })

pub cases_of : (text : List ℕ) (node : Node) → IsReferenceText text node
    → IsBareText text node ⊎ IsListText text node.name node.subscripts
cases_of text node h = cases_from h.subscripts text node h.right h.written h.meant

pub same_node : (a b : Node) → a.name ≡ b.name → a.subscripts ≡ b.subscripts → a ≡ b
same_node a b n s =
    let F : List ℕ → Node = λ name. record { name = name; subscripts = a.subscripts } in
    let G : List NodeSubscript → Node = λ ss. record { name = b.name; subscripts = ss } in
    ap F n ∙ ap G s

-- a bare name is no name with subscripts
pub bare_no_list : (text name : List ℕ) (node : Node) (ss : List NodeSubscript) → IsName node.name → IsName name
    → IsBareText text node → IsListText text name ss → ⊥
bare_no_list text name node ss h k b l =
    let e : node.name ≡ name ++ 40 ∷ l.inside =
    tail_of 94 94 node.name (name ++ 40 ∷ l.inside) (sym b.written ∙ l.written) in
    let short = name_short node.name node.name [] h (sym (append-nil node.name)) in
    let exact = name_ended name node.name l.inside k e in
    let size = ap length e ∙ length-append name (40 ∷ l.inside) in
    omega (arith, short, exact, size)

same_name : (a b x y : List ℕ) → length a ≡ length b → a ++ x ≡ b ++ y → a ≡ b
same_name a b x y l e = sym (take_at a x (length b) l) ∙ ap (take (length b)) e ∙ take_at b y (length b) refl

-- a name and subscripts are written by one text in one way
pub one_list_text : OneText → (text n m : List ℕ) (ss ts : List NodeSubscript) → IsName n → IsName m → AllKnown ss
    → AllKnown ts → IsListText text n ss → IsListText text m ts → (n ≡ m) × (ss ≡ ts)
one_list_text one text n m ss ts h k p q x y =
    let whole : n ++ 40 ∷ x.inside ≡ m ++ 40 ∷ y.inside =
    tail_of 94 94 (n ++ 40 ∷ x.inside) (m ++ 40 ∷ y.inside) (sym x.written ∙ y.written) in
    let size : length n ≡ length m =
    sym (name_ended n (n ++ 40 ∷ x.inside) x.inside h refl) ∙ name_ended m (n ++ 40 ∷ x.inside) y.inside k whole in
    let rest : x.inside ≡ y.inside =
    tail_of 40 40 x.inside y.inside (same_front n m (40 ∷ x.inside) (40 ∷ y.inside) size whole) in
    let mine : ListStandsAt y.inside ss [] = subst (λ (t : List ℕ). ListStandsAt t ss []) rest x.stand in (
      same_name n m (40 ∷ x.inside) (40 ∷ y.inside) size whole,
      one_list one y.inside ss ts [] [] p q mine y.stand,
    )

pub one_reference_lem : OneText → (text : List ℕ) (a b : Node) → IsReferenceText text a → IsReferenceText text b → a ≡ b
one_reference_lem one text a b h k =
    let known_a = all_known a.subscripts (recursion_from_All IsSubscript a.subscripts h.is_node.subscripts) in
    let known_b = all_known b.subscripts (recursion_from_All IsSubscript b.subscripts k.is_node.subscripts) in
    ⊎_elim
    (λ (x : IsBareText text a).
    ⊎_elim
    (λ (y : IsBareText text b). same_node a b (tail_of 94 94 a.name b.name (sym x.written ∙ y.written)) (x.none
    ∙ sym y.none))
    (λ (y : IsListText text b.name b.subscripts).
    absurd (bare_no_list text b.name a b.subscripts h.is_node.name k.is_node.name x y))
    (cases_of text b k))
    (λ (x : IsListText text a.name a.subscripts).
    ⊎_elim
    (λ (y : IsBareText text b).
    absurd (bare_no_list text a.name b a.subscripts k.is_node.name h.is_node.name y x))
    (λ (y : IsListText text b.name b.subscripts).
    let both = one_list_text one text a.name b.name a.subscripts b.subscripts h.is_node.name k.is_node.name known_a
    known_b x y in
    same_node a b both.0 both.1)
    (cases_of text b k))
    (cases_of text a h)
