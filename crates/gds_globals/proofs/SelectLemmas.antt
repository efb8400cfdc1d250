-- What a question finds among the places of a map is the first node from a bound on, if its key begins with a front.
use Rattle.std.proofs.Common.{◌≡◌, ℕ, Bool, true, false, ◌&&◌, List, [], ◌∷◌, length, map, T}
use Rattle.std.proofs.Common.{append-nil, ◌⊎◌, inl, inr, Option, None, Some}
use Rattle.std.proofs.Common.{Less, refl, sym, ap, subst, ◌∙◌, is_lt, is_eq}
use Rattle.std.specs.Prelude.{bytes_eq, find}
use Rattle.std.specs.FinMap.{entries, entries_sorted}
use Rattle.std.specs.FinMap.Entries.{is_sorted, below_all}
use Rattle.std.specs.declared.ops.Bound.{Bound}
use Rattle.std.specs.declared.ops.Bound.TheVariants.{Included, Excluded, Unbounded}
use Rattle.std.proofs.lemmas.Bool.{and_from, and_parts}
use Rattle.std.proofs.lemmas.Slice.Eq.{bytes_eq-Decides}
use Rattle.m_key.specs.Collation.{reference_cmp}
use Rattle.m_key.specs.Globals.{Globals, Place, is_led, place_cmp}
use Rattle.m_key.specs.Key.{AtMost, Below, key_bytes, lead_bytes}
use Rattle.m_key.specs.KeyEnd.{IsKey}
use Rattle.m_key.specs.Node.{IsNode, Node, NodeSubscript}
use Rattle.m_key.proofs.KeyLemmas as keys
use Rattle.m_key.proofs.NumberLemmas.{numbers}
use Rattle.m_key.proofs.PlaceLemmas.{place_same, place_total}
use Rattle.m_key.proofs.ZeroLemmas.{cmp-same}
use Rattle.m_number.proofs.OrderingLemmas.{Less-is_lt}
use Rattle.gds_find.specs.Next.{IsBefore, IsFrom}
use Rattle.gds_law.proofs.MembershipLemmas.{IsIn, Contains-from_in, in_from_Contains}
use Rattle.gds_law.proofs.RisingLemmas.{Rising}
use Rattle.gds_sound.specs.Questions.{is_behind, is_under, places_of}
use Rattle.gds_sound.proofs.OrderLemmas.{cmp, cmp_exact}
use Rattle.gds_sound.proofs.PairLemmas.{place_key}
use Rattle.gds_tree.proofs.TestLemmas.{below_less, most_cases, most_from, most_most}
use Rattle.gds_globals.specs.First.{Begins, IsFirstNode, IsPast}
use Rattle.gds_globals.proofs.LeastLemmas.{IsLeast, finds}
use Rattle.gds_globals.proofs.PastLemmas.{past_above, past_from, past_to}
use Rattle.gds_globals.proofs.RangeLemmas.{IsBelow, behind_in_range, begins_so, leads_below, not_both}
use Rattle.gds_globals.proofs.RangeLemmas.{leads_between_them, range_behind, range_under, under_in_range}

-- ---- the places of a map rise

t_true : (b : Bool) → T b → b ≡ true
t_true true h = refl
t_true false h = absurd h

abbrev Pair : Type 0
Pair = Place × List ℕ

below_places : (p : Place) (es : List Pair) → below_all place_cmp p es ≡ true → (q : Place)
    → IsIn (map (λ e. e.0) es) q → place_cmp p q ≡ Less
below_places p [] h q i = absurd i
below_places p (e ∷ es) h q i =
    let both = and_parts (is_lt (place_cmp p e.0)) (below_all place_cmp p es) h in
    elim i [
      | inl same ↦ subst (λ x. place_cmp p x ≡ Less) same (Less-is_lt (place_cmp p e.0) both.0)
      | inr j ↦ below_places p es both.1 q j
    ]

rising_places : (es : List Pair) → is_sorted place_cmp es ≡ true → Rising place_cmp (map (λ e. e.0) es)
rising_places [] h = tt
rising_places (e ∷ es) h =
    let both = and_parts (below_all place_cmp e.0 es) (is_sorted place_cmp es) h in
    (below_places e.0 es both.0, rising_places es both.1)

pub places_rise : (m : Globals) → Rising place_cmp (places_of m)
places_rise m = rising_places (entries m) (t_true (is_sorted place_cmp (entries m)) (entries_sorted m))

-- ---- a test of the places of a global

apart : (from : Bound (List ℕ)) (key : List ℕ) → IsBefore from key → IsFrom from key → ⊥
apart (Included least) key before there = not_both least key there before
apart (Excluded below) key before there = not_both key below before there
apart Unbounded key before there = before

at_or_behind : (p q : Place) → AtMost (key_bytes p.node) (key_bytes q.node) → (p ≡ q) ⊎ (place_cmp p q ≡ Less)
at_or_behind p q most =
    elim (most_cases (key_bytes p.node) (key_bytes q.node) most) [
      | inl less ↦ inr (place_key p q ∙ less)
      | inr same ↦ inl (place_same p q (place_key p q ∙ ap (cmp (key_bytes p.node)) (sym same)
          ∙ cmp-same (key_bytes p.node)))
    ]

-- A test is passed by the nodes of a global whose keys stand from a bound on and begin with a front; nodes before one
-- with such a key begin so too.
pub record Selects (name : List ℕ) (from : Bound (List ℕ)) (front : List ℕ) (P : Place → Bool) : Type 0 where
  pub own : (q : Place) → P q ≡ true → q.node.name ≡ name
  pub range : (q : Place) → IsKey (key_bytes q.node) → P q ≡ true
      → IsFrom from (key_bytes q.node) × Begins front (key_bytes q.node)
  pub back : (q : Place) → IsKey (key_bytes q.node) → q.node.name ≡ name → IsFrom from (key_bytes q.node)
      → Begins front (key_bytes q.node) → P q ≡ true
  pub convex : (n : Node) → IsNode n → (q : Place) → IsFrom from (key_bytes n)
      → AtMost (key_bytes n) (key_bytes q.node) → Begins front (key_bytes q.node) → Begins front (key_bytes n)

module _ (m : Globals) (name : List ℕ) (from : Bound (List ℕ)) (front : List ℕ) (P : Place → Bool)
    (s : Selects name from front P) where
  least : (o : Option Place) → IsFirstNode m name from front o → IsLeast place_cmp P (places_of m) o
  least (Some p) h = (
    in_from_Contains (places_of m) p h.0,
    s.back p h.2 h.1 h.3 h.4,
    λ q i pass.
        let b = h.5 q (Contains-from_in (places_of m) q i) (s.own q pass) in
        elim b.1 [
          | inl before ↦ absurd (apart from (key_bytes q.node) before (s.range q b.0 pass).0)
          | inr most ↦ at_or_behind p q most
        ],
  )
  least None (inl all) = λ q i pass.
      let b = all q (Contains-from_in (places_of m) q i) (s.own q pass) in
      apart from (key_bytes q.node) b.1 (s.range q b.0 pass).0
  least None (inr (n, right, there, other, behind)) = λ q i pass.
      let b = behind q (Contains-from_in (places_of m) q i) (s.own q pass) in
      let r = s.range q b.0 pass in
      elim b.1 [
        | inl before ↦ absurd (apart from (key_bytes q.node) before r.0)
        | inr most ↦ other (s.convex n right q there most r.1)
      ]

  pub selected : (o : Option Place) → IsFirstNode m name from front o → find P (places_of m) ≡ o
  selected o h = finds place_cmp P place_total (places_of m) (places_rise m) o (least o h)

-- ---- the questions

from_below : (a b : List ℕ) → Below a b → AtMost a b
from_below a b h = most_from a b (inl (below_less a b h))

led_between : (a n q : Node) → IsNode a → IsNode n → IsNode q → AtMost (key_bytes a) (key_bytes n)
    → AtMost (key_bytes n) (key_bytes q) → Begins (lead_bytes a) (key_bytes q) → Begins (lead_bytes a) (key_bytes n)
led_between a n q ra rn rq low high begins =
    begins_so a n (leads_between_them a n q ra rn low high (keys.leads_from numbers a q ra rq begins))

module _ (r : Node) (right : IsNode r) where
  pub below_node : Selects r.name (Excluded (key_bytes r)) (lead_bytes r) (λ p. is_under r p.node)
  below_node = record {
    own = λ q pass. (keys.led_leads numbers r q.node right q.right (and_parts (is_led r q.node) _ pass).0).name;
    range = λ q _ pass. under_in_range r q.node right q.right pass;
    back = λ q _ own there begins. range_under r q.node right q.right there begins;
    convex = λ n rn q there most begins.
        led_between r n q.node right rn q.right (from_below (key_bytes r) (key_bytes n) there) most begins;
  }

  same_order : (q : Place) → cmp (key_bytes r) (key_bytes q.node) ≡ reference_cmp r q.node
  same_order q = keys.order numbers r q.node right q.right

  pub after_node : Selects r.name (Excluded (key_bytes r)) []
      (λ p. bytes_eq p.node.name r.name && is_lt (reference_cmp r p.node))
  after_node = record {
    own = λ q pass. (bytes_eq-Decides q.node.name r.name).0 (and_parts (bytes_eq q.node.name r.name) _ pass).0;
    range = λ q _ pass. (
      ap is_lt (same_order q) ∙ (and_parts (bytes_eq q.node.name r.name) (is_lt (reference_cmp r q.node)) pass).1,
      (key_bytes q.node, refl),
    );
    back = λ q _ own there begins.
        and_from (bytes_eq q.node.name r.name) (is_lt (reference_cmp r q.node))
        ((bytes_eq-Decides q.node.name r.name).1 own) (ap is_lt (sym (same_order q)) ∙ there);
    convex = λ n rn q there most begins. (key_bytes n, refl);
  }

  is_own : (q : Place) → is_eq (reference_cmp r q.node) ≡ true → key_bytes r ≡ key_bytes q.node
  is_own q pass =
      cmp_exact (key_bytes r) (key_bytes q.node) (same_order q ∙ keys.is_equal (reference_cmp r q.node) pass)

  begun_by : (q : Place) → Begins (key_bytes r) (key_bytes q.node) → r ≡ q.node
  begun_by q begins = keys.none_begins numbers r q.node begins.0 right q.right begins.1

  begins_itself : (key : List ℕ) → key_bytes r ≡ key → Begins (key_bytes r) key
  begins_itself key same = ([], sym same ∙ sym (append-nil (key_bytes r)))

  pub own_node : Selects r.name (Included (key_bytes r)) (key_bytes r) (λ p. is_eq (reference_cmp r p.node))
  own_node = record {
    own = λ q pass. ap (λ (n : Node). n.name) (sym (keys.one_key numbers r q.node right q.right (is_own q pass)));
    range = λ q _ pass. (
      most_from (key_bytes r) (key_bytes q.node) (inr (is_own q pass)),
      begins_itself (key_bytes q.node) (is_own q pass),
    );
    back = λ q _ own there begins.
        ap is_eq (sym (same_order q) ∙ ap (λ n. cmp (key_bytes r) (key_bytes n)) (sym (begun_by q begins))
        ∙ cmp-same (key_bytes r));
    convex = λ n rn q there most begins.
        begins_itself (key_bytes n) (
        let high = subst (λ x. AtMost (key_bytes n) (key_bytes x)) (sym (begun_by q begins)) most in
        elim (most_cases (key_bytes r) (key_bytes n) there) [
          | inl less ↦ absurd (not_both (key_bytes n) (key_bytes r) high (ap is_lt less))
          | inr same ↦ same
        ]
        );
  }

  pub behind_node : (a : Node) (last : NodeSubscript) → IsBelow a r last → IsNode a → (from : Bound (List ℕ))
      → IsPast r from
      → Selects r.name from (lead_bytes a) (λ p. is_under a p.node && is_behind last (length a.subscripts) p)
  behind_node a last is ra from past = record {
    own = λ q pass.
        (keys.led_leads numbers a q.node ra q.right
        (and_parts (is_led a q.node) _ (and_parts (is_under a q.node) _ pass).0).0).name ∙ sym is.name;
    range = λ q key pass.
        let both = behind_in_range a r last is ra right q pass in
        (past_to r from past (key_bytes q.node) key both.1, both.0);
    back = λ q key own there begins.
        range_behind a r last is ra right q begins (past_from r right from past q key there);
    convex = λ n rn q there most begins.
        led_between a n q.node ra rn q.right
        (most_most (key_bytes a) (key_bytes r) (key_bytes n)
        (keys.leads_between numbers a r (leads_below a r last is)).0
        (past_above r from past (key_bytes n) there)) most begins;
  }
