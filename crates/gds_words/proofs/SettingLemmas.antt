-- Where the reference of a setting ends.
use Rattle.std.proofs.Common.{◌≡◌, ℕ, ◌+◌, ◌≤◌, false, true, List, [], ◌∷◌, ◌++◌, length, take, refl, sym, ap}
use Rattle.std.proofs.Common.{◌∙◌, subst, arith, ⊎_elim, length-append}
use Rattle.std.specs.List.{list_all}
use Rattle.std.specs.Char.{is_ascii_alphanumeric}
use Rattle.std.proofs.lemmas.Bool.{and_parts}
use Rattle.std.proofs.lemmas.List.{take_at}
use Rattle.m_key.specs.Node.{Node, IsName}
use Rattle.m_text.specs.Grammar.{IsReferenceText}
use Rattle.m_text.specs.FrontSubscripts.{ListStandsAt, longest_name}
use Rattle.m_text.proofs.FrontLemmas.{prefix_len-append}
use Rattle.m_text.proofs.ReferenceLemmas.{IsBareName, HasList, shape_of, list_shorter, name_short, name_ended}
use Rattle.m_text.proofs.ReferenceLemmas.{same_front, tail_of}
use Rattle.m_text.proofs.OneReferenceLemmas.{one_end}

-- '=' ends a name
name_equals : (name text rest : List ℕ) → IsName name → text ≡ name ++ 61 ∷ rest → longest_name text ≡ length name
name_equals [] text rest h e = absurd (let w : false ≡ true = h.word in cc)
name_equals (x ∷ xs) text rest h e =
    let both = and_parts _ (list_all is_ascii_alphanumeric xs) h.word in
    let exact = prefix_len-append is_ascii_alphanumeric xs (61 ∷ rest) both.1 refl in
    let len : longest_name text ≡ longest_name (x ∷ (xs ++ 61 ∷ rest)) = ap longest_name e in
    let count = h.count in
    omega (arith, len, exact, count)

-- a bare name with '=' behind it, and another reference at the same place
bare_equals : (front back text : List ℕ) (node : Node) → text ≡ front ++ 61 ∷ back
    → (b : IsBareName text (length front) node) → text ≡ 94 ∷ (node.name ++ 61 ∷ back)
bare_equals front back text node e b =
    let same : b.behind ≡ 61 ∷ back =
    same_front (94 ∷ node.name) front b.behind (61 ∷ back) (sym b.size) (sym b.written ∙ e) in
    b.written ∙ ap (λ (t : List ℕ). 94 ∷ (node.name ++ t)) same

bare_bare : (text back : List ℕ) (n m : Node) (len : ℕ) → IsName n.name → IsName m.name
    → text ≡ 94 ∷ (n.name ++ 61 ∷ back) → IsBareName text len m → len ≤ 1 + length n.name
bare_bare text back n m len h k e b =
    let behind : List ℕ = n.name ++ 61 ∷ back in
    let short = name_short m.name behind b.behind k (tail_of 94 94 behind (m.name ++ b.behind) (sym e ∙ b.written)) in
    let exact = name_equals n.name behind back h refl in
    omega (arith, short, exact, b.size)

bare_list : (text back : List ℕ) (n m : Node) (len : ℕ) → IsName n.name → IsName m.name
    → text ≡ 94 ∷ (n.name ++ 61 ∷ back) → HasList text len m → ⊥
bare_list text back n m len h k e l =
    let behind : List ℕ = n.name ++ 61 ∷ back in
    let other : behind ≡ m.name ++ 40 ∷ l.inside = tail_of 94 94 behind (m.name ++ 40 ∷ l.inside) (sym e ∙ l.written) in
    let size : length n.name ≡ length m.name =
    sym (name_equals n.name behind back h refl) ∙ name_ended m.name behind l.inside k other in
    let wrong : 61 ∷ back ≡ 40 ∷ l.inside = same_front n.name m.name (61 ∷ back) (40 ∷ l.inside) size other in
    cc

list_bare : (text : List ℕ) (n m : Node) (len size : ℕ) → IsName n.name → IsName m.name → HasList text size n
    → IsBareName text len m → len ≤ size
list_bare text n m len size h k l b =
    let behind : List ℕ = n.name ++ 40 ∷ l.inside in
    let short =
    name_short m.name behind b.behind k (tail_of 94 94 behind (m.name ++ b.behind) (sym l.written ∙ b.written)) in
    let exact = name_ended n.name behind l.inside h refl in
    let whole = ap length l.written in
    let parts = length-append n.name (40 ∷ l.inside) in
    let less = list_shorter l.inside l.behind n.subscripts l.stand in
    omega (arith, short, exact, whole, parts, less, b.size, l.size)

list_list : (text : List ℕ) (n m : Node) (len size : ℕ) → IsName n.name → IsName m.name → HasList text size n
    → HasList text len m → len ≤ size
list_list text n m len size h k l r =
    let behind : List ℕ = n.name ++ 40 ∷ l.inside in
    let other : behind ≡ m.name ++ 40 ∷ r.inside =
    tail_of 94 94 behind (m.name ++ 40 ∷ r.inside) (sym l.written ∙ r.written) in
    let size : length n.name ≡ length m.name =
    sym (name_ended n.name behind l.inside h refl) ∙ name_ended m.name behind r.inside k other in
    let same : l.inside ≡ r.inside =
    tail_of 40 40 l.inside r.inside (same_front n.name m.name (40 ∷ l.inside) (40 ∷ r.inside) size other) in
    let mine : ListStandsAt r.inside n.subscripts l.behind =
    subst (λ (t : List ℕ). ListStandsAt t n.subscripts l.behind) same l.stand in
    let end = one_end r.inside n.subscripts m.subscripts l.behind r.behind mine r.stand in
    omega (arith, l.size, r.size, ap length end)

-- no reference at the front of a setting is longer than the setting's own
pub none_longer : (text front back : List ℕ) (node other : Node) (len : ℕ) → text ≡ front ++ 61 ∷ back
    → IsReferenceText front node → len ≤ length text → IsReferenceText (take len text) other → len ≤ length front
none_longer text front back node other len e h fits k =
    let within : length front ≤ length text = omega (arith, ap length e ∙ length-append front (61 ∷ back)) in
    let mine : IsReferenceText (take (length front) text) node =
    subst (λ (t : List ℕ). IsReferenceText t node)
    (sym (ap (take (length front)) e ∙ take_at front (61 ∷ back) (length front) refl)) h in
    ⊎_elim
    (λ (a : IsBareName text (length front) node).
    let w = bare_equals front back text node e a in
    ⊎_elim
    (λ (b : IsBareName text len other).
    let l = bare_bare text back node other len h.is_node.name k.is_node.name w b in omega (arith, l, a.size))
    (λ (b : HasList text len other).
    absurd (bare_list text back node other len h.is_node.name k.is_node.name w b))
    (shape_of len text other fits k))
    (λ (a : HasList text (length front) node).
    ⊎_elim
    (λ (b : IsBareName text len other).
    list_bare text node other len (length front) h.is_node.name k.is_node.name a b)
    (λ (b : HasList text len other).
    list_list text node other len (length front) h.is_node.name k.is_node.name a b)
    (shape_of len text other fits k))
    (shape_of (length front) text node within mine)
