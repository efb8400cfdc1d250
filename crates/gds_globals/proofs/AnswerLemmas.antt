-- What ORDER, DATA and QUERY answer, by the first node from a bound on.
use Rattle.std.proofs.Common.{get_or, inl, inr, suc, is_eq, length-take, ◌&&◌}
use Rattle.m_key.specs.Collation.{reference_cmp}
use Rattle.m_key.specs.KeyEnd.{key_len}
use Rattle.std.proofs.Common.{◌≡◌, ℕ, ◌+◌, ◌-◌, ◌<◌, ◌≤◌, Bool, true}
use Rattle.std.proofs.Common.{false, List, [], ◌∷◌, ◌++◌, length, take, flat_map}
use Rattle.std.proofs.Common.{Option, None, Some, refl, sym, ap}
use Rattle.std.proofs.Common.{ap₂, subst, ◌∙◌, arith, append-nil, append_assoc, length-append}
use Rattle.std.specs.Prelude.{All, if◌then◌else◌, is_some, option_and_then, option_map, slice_get}
use Rattle.std.specs.Option.{ForSome}
use Rattle.std.specs.declared.ops.Bound.{Bound}
use Rattle.std.specs.declared.ops.Bound.TheVariants.{Excluded, Included}
use Rattle.std.proofs.lemmas.Bool.{cases_order}
use Rattle.std.proofs.lemmas.List.{append_cancel_right, get_or-append_right, get_or_append_left, take_at}
use Rattle.std.proofs.lemmas.List.Elements.{All-from_recursion, All-get_or, All-take, All-contains, Contains-push}
use Rattle.m_key.specs.Globals.{Globals, Place}
use Rattle.m_key.specs.Key.{ended, key_bytes, lead_bytes, subscript_bytes}
use Rattle.m_key.specs.Node.{IsNode, IsSubscript, Node, NodeSubscript}
use Rattle.m_key.specs.Reference.{node_of, place_of}
use Rattle.m_key.specs.declared.reference.Reference.{Reference}
use Rattle.m_key.proofs.KeyLemmas as keys
use Rattle.m_key.proofs.KeyPartLemmas.{two_zeros}
use Rattle.m_key.proofs.NodeEndLemmas.{key_len-key_bytes}
use Rattle.m_key.proofs.NumberLemmas.{numbers}
use Rattle.gds_sound.specs.Questions as questions
use Rattle.gds_sound.specs.Questions.{is_behind, is_under, next_from, places_of, subscript_of}
use Rattle.gds_sound.specs.Stands.{StandsFor}
use Rattle.gds_globals.specs.First.{FindsFirst, FindsPast, IsFirstNode}
use Rattle.gds_globals.specs.Questions.{FindsNext, FindsNode, HasData}
use Rattle.gds_globals.proofs.LeastLemmas.{any_found}
use Rattle.gds_globals.proofs.RangeLemmas.{IsBelow, leads_below}
use Rattle.gds_globals.proofs.SelectLemmas.{after_node, behind_node, below_node, own_node, selected}

-- ---- fronts of keys

pub lead_front : (n : Node) (key front : List ℕ) → key ≡ key_bytes n → front ≡ take (length key - 1) key
    → front ≡ lead_bytes n
lead_front n key front key_is front_is =
    front_is ∙ ap (λ k. take (length k - 1) k) key_is
    ∙ take_at (lead_bytes n) (0 ∷ []) (length (key_bytes n) - 1)
    (omega (arith, length-append (lead_bytes n) (0 ∷ [])))

lead_ends : (n : Node) → IsNode n → (front : List ℕ) × (lead_bytes n ≡ front ++ 0 ∷ [])
lead_ends n right =
    let z = two_zeros (key_bytes n) (ap key_len (sym (append-nil (key_bytes n))) ∙ key_len-key_bytes n [] right) in
    (z.0, append_cancel_right (lead_bytes n) (z.0 ++ 0 ∷ []) (0 ∷ []) (z.1 ∙ sym (append_assoc z.0 (0 ∷ []) (0 ∷ []))))

-- Bytes up to a zero stop behind the front where none of those that follow it is zero.
pub stops_at : (front last key : List ℕ) (end : ℕ) → key ≡ (front ++ 0 ∷ []) ++ (last ++ 0 ∷ 0 ∷ [])
    → All (λ b. 0 < b) last → length front + 1 ≤ end → end ≤ length key - 2 → get_or key (end - 1) 0 ≡ 0
    → take end key ≡ front ++ 0 ∷ []
stops_at front last key end is some low high zero_there =
    elim (cases_order end (length lead)) [
      | inl e ↦ ap (take end) is ∙ take_at lead rest end (sym e)
      | inr (inl below) ↦ absurd (omega (arith, count))
      | inr (inr above) ↦ absurd (omega (arith, zero_there, positive above, read above))
    ]
  where
    lead : List ℕ
    lead = front ++ 0 ∷ []

    rest : List ℕ
    rest = last ++ 0 ∷ 0 ∷ []

    count : length lead ≡ length front + 1
    count = length-append front (0 ∷ [])

    within : length lead < end → end - 1 - length lead < length last
    within above = omega (arith, ap length is, length-append lead rest, length-append last (0 ∷ 0 ∷ []))

    read : length lead < end → get_or key (end - 1) 0 ≡ get_or last (end - 1 - length lead) 0
    read above =
        ap (λ k. get_or k (end - 1) 0) is ∙ get_or-append_right lead rest (length lead) (end - 1) 0 refl (omega arith)
        ∙ get_or_append_left last (0 ∷ 0 ∷ []) 0 (end - 1 - length lead) (within above)

    positive : length lead < end → 0 < get_or last (end - 1 - length lead) 0
    positive above = All-get_or (λ b. 0 < b) last (end - 1 - length lead) 0 (within above) some

-- A list that isn't empty, without its last element and with it.
pub record HasLast (ss : List NodeSubscript) : Type 0 where
  pub last : NodeSubscript
  pub got : slice_get ss (length ss - 1) ≡ Some last
  pub parts : ss ≡ take (length ss - 1) ss ++ last ∷ []

has_last : (ss : List NodeSubscript) → 0 < length ss → HasLast ss
has_last [] some = absurd (omega arith)
has_last (s ∷ []) some = record { last = s; got = refl; parts = refl }
has_last (s ∷ t ∷ ss) some =
    let h = has_last (t ∷ ss) (omega arith) in
    let count : length (s ∷ t ∷ ss) - 1 ≡ suc (length (t ∷ ss) - 1) = omega arith in
    record {
      last = h.last;
      got = ap (slice_get (s ∷ t ∷ ss)) count ∙ h.got;
      parts = (λ i. s ∷ h.parts i) ∙ ap (λ k. take k (s ∷ t ∷ ss) ++ h.last ∷ []) (sym count);
    }

-- the node without its last subscript
abbrev pub above : Node → Node
above n = record { name = n.name; subscripts = take (length n.subscripts - 1) n.subscripts }

module _ (n : Node) (right : IsNode n) (some : 0 < length n.subscripts) where
  abbrev own : HasLast n.subscripts
  own = has_last n.subscripts some

  is_below : IsBelow (above n) n own.last
  is_below = record { name = refl; subscripts = own.parts }

  above_right : IsNode (above n)
  above_right = record {
    name = right.name;
    count = omega (arith, right.count, length-take (length n.subscripts - 1) n.subscripts);
    subscripts = All-take IsSubscript (length n.subscripts - 1) n.subscripts right.subscripts;
  }

  last_right : IsSubscript own.last
  last_right =
      All-contains IsSubscript (take (length n.subscripts - 1) n.subscripts ++ own.last ∷ []) own.last
      (subst (All IsSubscript) own.parts right.subscripts)
      (Contains-push (take (length n.subscripts - 1) n.subscripts) own.last)

  -- what stands before the last subscript
  pub front_is : (key front : List ℕ) → key ≡ key_bytes n
      → ((f last : List ℕ) → key ≡ (f ++ 0 ∷ []) ++ (last ++ 0 ∷ 0 ∷ []) → All (λ b. 0 < b) last → front ≡ f ++ 0 ∷ [])
      → front ≡ lead_bytes (above n)
  front_is key front key_is h =
      let ends = lead_ends (above n) above_right in
      let text : List ℕ = subscript_bytes own.last in
      let rest : flat_map ended (own.last ∷ []) ++ 0 ∷ [] ≡ text ++ 0 ∷ 0 ∷ [] =
      ap (λ l. l ++ 0 ∷ []) (append-nil (ended own.last)) ∙ append_assoc text (0 ∷ []) (0 ∷ []) in
      let whole : key ≡ (ends.0 ++ 0 ∷ []) ++ (text ++ 0 ∷ 0 ∷ []) =
      key_is ∙ keys.lead-begins (above n) n (leads_below (above n) n own.last is_below)
      ∙ ap₂ (λ (a b : List ℕ). a ++ b) ends.1 rest in
      h ends.0 text whole (All-from_recursion (λ b. 0 < b) text (keys.NoZero-subscript numbers own.last last_right))
      ∙ sym ends.1

-- ---- answers, where an image is told

module _ (told : Option (List ℕ)) (r : Reference) where
  abbrev n : Node
  n = node_of r

  abbrev right : IsNode n
  right = (place_of r).right

  abbrev First : Bound (List ℕ) → List ℕ → Option Place → Type 0
  First from front o = ForSome told (λ image. FindsFirst image n.name from front o)

  -- the first subscript below a node
  pub first_answer : (key front : List ℕ) → key ≡ key_bytes n → front ≡ lead_bytes n → (o : Option Place)
      → First (Excluded key) front o → (level : ℕ) → level ≡ length n.subscripts → (next : Option questions.Next)
      → next ≡ option_and_then (subscript_of level) o → ForSome told (λ image. FindsNext image n true next)
  first_answer key front key_is front_is o h level level_is next next_is image is m st =
      let first = subst (λ f. IsFirstNode m n.name (Excluded (key_bytes n)) f o) front_is
      (subst (λ k. IsFirstNode m n.name (Excluded k) front o) key_is (h image is m st)) in
      ap (option_and_then (subscript_of (length n.subscripts)))
      (selected m n.name (Excluded (key_bytes n)) (lead_bytes n) (λ p. is_under n p.node) (below_node n right) o first)
      ∙ ap (λ l. option_and_then (subscript_of l) o) (sym level_is) ∙ sym next_is

  -- the next subscript on its level
  pub next_answer : (some : 0 < length n.subscripts) (front : List ℕ) → front ≡ lead_bytes (above n)
      → (o : Option Place) → ForSome told (λ image. FindsPast image n front o) → (level : ℕ)
      → level ≡ length n.subscripts - 1 → (next : Option questions.Next)
      → next ≡ option_and_then (subscript_of level) o → ForSome told (λ image. FindsNext image n false next)
  next_answer some front front_is o h level level_is next next_is image is m st =
      let last = has_last n.subscripts some in
      let past = h image is in
      let first = subst (λ f. IsFirstNode m n.name past.0 f o) front_is (past.2 m st) in
      let count : length (above n).subscripts ≡ level =
      omega (arith, level_is, length-take (length n.subscripts - 1) n.subscripts) in
      ap (next_from m n) last.got
      ∙ ap (option_and_then (subscript_of (length (above n).subscripts)))
      (selected m n.name past.0 (lead_bytes (above n))
      (λ p. is_under (above n) p.node && is_behind last.last (length (above n).subscripts) p)
      (behind_node n right (above n) last.last (is_below n right some) (above_right n right some) past.0 past.1) o
      first)
      ∙ ap (λ l. option_and_then (subscript_of l) o) count ∙ sym next_is

  -- the next name
  pub name_answer : n.subscripts ≡ [] → (next : Option questions.Next)
      → ForSome told (λ image. (m : Globals) → StandsFor image m → questions.next_name m n.name ≡ next)
      → ForSome told (λ image. FindsNext image n false next)
  name_answer none next h image is m st =
      ap (λ ss. next_from m n (slice_get ss (length ss - 1))) none ∙ h image is m st

  -- the next node
  pub node_answer : (key : List ℕ) → key ≡ key_bytes n → (o : Option Place) → First (Excluded key) [] o
      → ForSome told (λ image. FindsNode image n o)
  node_answer key key_is o h image is m st =
      selected m n.name (Excluded (key_bytes n)) [] _ (after_node n right) o
      (subst (λ k. IsFirstNode m n.name (Excluded k) [] o) key_is (h image is m st))

  some_placed : (o : Option Reference) → is_some (option_map place_of o) ≡ is_some o
  some_placed None = refl
  some_placed (Some x) = refl

  -- what is there of it
  pub data_answer : (key front : List ℕ) → key ≡ key_bytes n → front ≡ lead_bytes n → (a b : Option Reference)
      → First (Included key) key (option_map place_of a) → First (Excluded key) front (option_map place_of b)
      → (found : ℕ) → found ≡ (if is_some a then 1 else 0) + (if is_some b then 10 else 0)
      → ForSome told (λ image. HasData image n found)
  data_answer key front key_is front_is a b ha hb found found_is image is m st =
      let first = subst (λ k. IsFirstNode m n.name (Included k) k (option_map place_of a)) key_is (ha image is m st) in
      let second = subst (λ f. IsFirstNode m n.name (Excluded (key_bytes n)) f (option_map place_of b)) front_is
      (subst (λ k. IsFirstNode m n.name (Excluded k) front (option_map place_of b)) key_is (hb image is m st)) in
      let own = any_found (λ p. is_eq (reference_cmp n p.node)) (places_of m)
      ∙ ap is_some (selected m n.name (Included (key_bytes n)) (key_bytes n) _ (own_node n right)
      (option_map place_of a) first) ∙ some_placed a in
      let below = any_found (λ p. is_under n p.node) (places_of m)
      ∙ ap is_some (selected m n.name (Excluded (key_bytes n)) (lead_bytes n) _ (below_node n right)
      (option_map place_of b) second) ∙ some_placed b in
      ap₂ (λ (x y : Bool). (if x then 1 else 0) + (if y then 10 else 0)) own below ∙ sym found_is
