-- Which nodes have their keys in a range: those below a node, those behind it on its level, those after it.
use Rattle.std.proofs.Common.{◌≡◌, ℕ, ◌<◌, Bool, true, false, ◌&&◌, List, [], ◌∷◌, ◌++◌, length}
use Rattle.std.proofs.Common.{◌⊎◌, inl, inr, Ordering, Less, Equal, Greater, refl, sym, ap, ap₂, subst, ◌∙◌, arith}
use Rattle.std.proofs.Common.{append_assoc, append-nil, length-append, flat_map, Some, is_lt}
use Rattle.std.specs.Prelude.{All, nat_lt, slice_get}
use Rattle.std.specs.List.{AllByRecursion}
use Rattle.std.specs.Option.{option_map_or}
use Rattle.std.specs.Ordering.{nat_cmp, ordering_then}
use Rattle.std.specs.Cmp.Lexicographic.{slice_cmp}
use Rattle.std.proofs.lemmas.Bool.{and_from, and_parts, lt-ltb, ltb-true}
use Rattle.std.proofs.lemmas.List.Elements.{All-contains, Contains-append_right, Contains-push, recursion_from_All}
use Rattle.m_key.specs.Collation.{Leads, reference_cmp, subscript_cmp}
use Rattle.m_key.specs.Globals.{Place, is_led}
use Rattle.m_key.specs.Key.{AtMost, Below, ended, key_bytes, lead_bytes, past_bytes}
use Rattle.m_key.specs.Node.{IsNode, IsSubscript, Node, NodeSubscript, number, string}
use Rattle.m_key.proofs.KeyLemmas as keys
use Rattle.m_key.proofs.NumberLemmas.{numbers}
use Rattle.m_key.proofs.ZeroLemmas.{cmp-same}
use Rattle.m_number.specs.Bytes.{bytes_of}
use Rattle.gds_sound.specs.Questions.{is_under, is_behind}
use Rattle.gds_globals.specs.First.{Begins}
use Rattle.gds_sound.proofs.OrderLemmas.{cmp, cmp_exact}
use Rattle.gds_tree.proofs.TestLemmas.{at_most, below_less, below_most, less_below}
use Rattle.gds_tree.proofs.TestLemmas.{less_from, most_below, most_cases, most_from}

-- ---- keys

pub not_itself : (a : List ℕ) → Below a a → ⊥
not_itself a h = cc (cmp-same a, below_less a a h)

pub not_both : (a b : List ℕ) → AtMost a b → Below b a → ⊥
not_both a b h k = not_itself a (most_below a b a h k)

pub one_or_other : (a b : List ℕ) → AtMost a b ⊎ Below b a
one_or_other a b = by (is_lt (cmp b a)) refl
  where
    by : (t : Bool) → is_lt (cmp b a) ≡ t → AtMost a b ⊎ Below b a
    by true e = inr e
    by false e = inl (at_most a b e)

pub at_most_itself : (a : List ℕ) → AtMost a a
at_most_itself a = most_from a a (inr refl)

-- ---- nodes one of which leads to the other

pub leads_itself : (a : Node) → Leads a a
leads_itself a = record { name = refl; subscripts = ([], sym (append-nil a.subscripts)) }

pub key_below_past : (a : Node) → Below (key_bytes a) (past_bytes a)
key_below_past a = (keys.leads_between numbers a a (leads_itself a)).1

pub same_node : (a b : Node) → b.name ≡ a.name → b.subscripts ≡ a.subscripts → a ≡ b
same_node a b n s = λ i. record { name = sym n i; subscripts = sym s i }

-- Between a node and one that it leads to it leads to all.
pub leads_between_them : (a e q : Node) → IsNode a → IsNode e → AtMost (key_bytes a) (key_bytes e)
    → AtMost (key_bytes e) (key_bytes q) → Leads a q → Leads a e
leads_between_them a e q r s low high leads =
    keys.between_leads numbers a e r s low
    (most_below (key_bytes e) (key_bytes q) (past_bytes a) high (keys.leads_between numbers a q leads).1)

pub begins_so : (a b : Node) → Leads a b → Begins (lead_bytes a) (key_bytes b)
begins_so a b leads = (flat_map ended leads.subscripts.0 ++ 0 ∷ [], keys.lead-begins a b leads)

-- ---- below a node

pub under_in_range : (a p : Node) → IsNode a → IsNode p → is_under a p ≡ true
    → Below (key_bytes a) (key_bytes p) × Begins (lead_bytes a) (key_bytes p)
under_in_range a p r s h =
    let both = and_parts (is_led a p) (nat_lt (length a.subscripts) (length p.subscripts)) h in
    let leads = keys.led_leads numbers a p r s both.0 in
    let more : length a.subscripts < length p.subscripts =
    ltb-true (length a.subscripts) (length p.subscripts) both.1 in (
      elim (most_cases (key_bytes a) (key_bytes p) (keys.leads_between numbers a p leads).0) [
        | inl e ↦ less_below (key_bytes a) (key_bytes p) e
        | inr e ↦ absurd (omega (arith, ap (λ (n : Node). length n.subscripts) (keys.one_key numbers a p r s e)))
      ],
      begins_so a p leads,
    )

is_longer : (a p : Node) (more : List NodeSubscript) → p.subscripts ≡ a.subscripts ++ more → (more ≡ [] → ⊥)
    → nat_lt (length a.subscripts) (length p.subscripts) ≡ true
is_longer a p [] e some = absurd (some refl)
is_longer a p (t ∷ more) e some =
    lt-ltb (length a.subscripts) (length p.subscripts)
    (omega (arith, ap length e, length-append a.subscripts (t ∷ more)))

pub range_under : (a p : Node) → IsNode a → IsNode p → Below (key_bytes a) (key_bytes p)
    → Begins (lead_bytes a) (key_bytes p) → is_under a p ≡ true
range_under a p r s above begins =
    let leads = keys.leads_from numbers a p r s begins in
    and_from (is_led a p) (nat_lt (length a.subscripts) (length p.subscripts)) (keys.leads_led numbers a p r leads)
    (is_longer a p leads.subscripts.0 leads.subscripts.1
    (λ none. not_itself (key_bytes a) (subst (λ n. Below (key_bytes a) (key_bytes n))
    (sym (same_node a p leads.name (leads.subscripts.1 ∙ ap (λ l. a.subscripts ++ l) none ∙ append-nil a.subscripts)))
    above)))

-- ---- subscripts

itself : (s : NodeSubscript) → IsSubscript s → subscript_cmp s s ≡ Equal
itself (number n) h = sym (numbers.order n n h h) ∙ cmp-same (bytes_of n)
itself (string t) h = cmp-same t

ties : (s t : NodeSubscript) → IsSubscript s → IsSubscript t → subscript_cmp s t ≡ Equal → s ≡ t
ties (number a) (number b) p q e =
    ap number (numbers.one a b p q (cmp_exact (bytes_of a) (bytes_of b) (numbers.order a b p q ∙ e)))
ties (number a) (string t) p q e = absurd (cc)
ties (string s) (number b) p q e = absurd (cc)
ties (string s) (string t) p q e = ap string (cmp_exact s t e)

behind_front : (ss xs ys : List NodeSubscript) → AllByRecursion IsSubscript ss
    → slice_cmp subscript_cmp (ss ++ xs) (ss ++ ys) ≡ slice_cmp subscript_cmp xs ys
behind_front [] xs ys h = refl
behind_front (s ∷ ss) xs ys h =
    ap (λ o. ordering_then o (slice_cmp subscript_cmp (ss ++ xs) (ss ++ ys))) (itself s h.0)
    ∙ behind_front ss xs ys h.1

got_behind : (ss : List NodeSubscript) (t : NodeSubscript) (more : List NodeSubscript)
    → slice_get (ss ++ t ∷ more) (length ss) ≡ Some t
got_behind [] t more = refl
got_behind (s ∷ ss) t more = got_behind ss t more

one_some : (s t : NodeSubscript) → Some s ≡ Some t → s ≡ t
one_some s t e = cc

-- ---- behind a node on its level

-- A node has one subscript more than another.
pub record IsBelow (a r : Node) (last : NodeSubscript) : Type 0 where
  pub name : r.name ≡ a.name
  pub subscripts : r.subscripts ≡ a.subscripts ++ last ∷ []

abbrev pub leads_below : (a r : Node) (last : NodeSubscript) → IsBelow a r last → Leads a r
leads_below a r last is = record { name = is.name; subscripts = (last ∷ [], is.subscripts) }

module _ (a r : Node) (last : NodeSubscript) (is : IsBelow a r last) (ra : IsNode a) (rr : IsNode r) (q : Place) where
  abbrev p : Node
  p = q.node

  -- a node below the first one, by this subscript
  record Has (t : NodeSubscript) : Type 0 where
    leads : Leads a p
    more : List NodeSubscript
    parts : p.subscripts ≡ a.subscripts ++ t ∷ more

  got : (t : NodeSubscript) → Has t → slice_get p.subscripts (length a.subscripts) ≡ Some t
  got t h = ap (λ ss. slice_get ss (length a.subscripts)) h.parts ∙ got_behind a.subscripts t h.more

  last_right : IsSubscript last
  last_right =
      All-contains IsSubscript (a.subscripts ++ last ∷ []) last (subst (All IsSubscript) is.subscripts rr.subscripts)
      (Contains-push a.subscripts last)

  t_right : (t : NodeSubscript) → Has t → IsSubscript t
  t_right t h =
      All-contains IsSubscript (a.subscripts ++ t ∷ h.more) t (subst (All IsSubscript) h.parts q.right.subscripts)
      (Contains-append_right a.subscripts (t ∷ h.more) t (0, omega arith, refl))

  compared : (t : NodeSubscript) (h : Has t)
      → cmp (key_bytes r) (key_bytes p) ≡ ordering_then (subscript_cmp last t) (slice_cmp subscript_cmp [] h.more)
  unfolding reference_cmp
  compared t h =
      let names : slice_cmp nat_cmp r.name p.name ≡ Equal =
      ap₂ (slice_cmp nat_cmp) is.name h.leads.name ∙ cmp-same a.name in
      keys.order numbers r p rr q.right
      ∙ ap (λ o. ordering_then o (slice_cmp subscript_cmp r.subscripts p.subscripts)) names
      ∙ ap₂ (slice_cmp subscript_cmp) is.subscripts h.parts
      ∙ behind_front a.subscripts (last ∷ []) (t ∷ h.more)
      (recursion_from_All IsSubscript a.subscripts ra.subscripts)

  behind_is : (t : NodeSubscript) → Has t
      → is_behind last (length a.subscripts) q ≡ is_lt (subscript_cmp last t)
  behind_is t h = ap (λ o. option_map_or (λ s. is_lt (subscript_cmp last s)) o false) (got t h)

  some_more : Leads a p → length a.subscripts < length p.subscripts → (t : NodeSubscript) × Has t
  some_more leads low = by leads.subscripts.0 leads.subscripts.1
    where
      by : (more : List NodeSubscript) → p.subscripts ≡ a.subscripts ++ more → (t : NodeSubscript) × Has t
      by [] e = absurd (omega (arith, ap length e, length-append a.subscripts []))
      by (t ∷ more) e = (t, record { leads = leads; more = more; parts = e })

  not_led : (t : NodeSubscript) → Has t → subscript_cmp last t ≡ Less → Leads r p → ⊥
  not_led t h less l =
      let own : slice_get p.subscripts (length a.subscripts) ≡ Some last =
      ap (λ ss. slice_get ss (length a.subscripts))
      (l.subscripts.1 ∙ ap (λ ss. ss ++ l.subscripts.0) is.subscripts
      ∙ append_assoc a.subscripts (last ∷ []) l.subscripts.0)
      ∙ got_behind a.subscripts last l.subscripts.0 in
      let same : t ≡ last = one_some t last (sym (got t h) ∙ own) in
      let less_itself : subscript_cmp last last ≡ Less = subst (λ s. subscript_cmp last s ≡ Less) same less in
      cc (less_itself, itself last last_right)

  past_from : (t : NodeSubscript) → Has t → is_lt (subscript_cmp last t) ≡ true → AtMost (past_bytes r) (key_bytes p)
  past_from t h lower =
      let less = less_from (subscript_cmp last t) lower in
      let below : cmp (key_bytes r) (key_bytes p) ≡ Less =
      compared t h ∙ ap (λ o. ordering_then o (slice_cmp subscript_cmp [] h.more)) less in
      elim (one_or_other (past_bytes r) (key_bytes p)) [
        | inl e ↦ e
        | inr k ↦ absurd (not_led t h less (keys.between_leads numbers r p rr q.right
            (most_from (key_bytes r) (key_bytes p) (inl below)) k))
      ]

  pub behind_in_range : (is_under a p && is_behind last (length a.subscripts) q) ≡ true
      → Begins (lead_bytes a) (key_bytes p) × AtMost (past_bytes r) (key_bytes p)
  behind_in_range h =
      let both = and_parts (is_under a p) (is_behind last (length a.subscripts) q) h in
      let own = and_parts (is_led a p) (nat_lt (length a.subscripts) (length p.subscripts)) both.0 in
      let leads = keys.led_leads numbers a p ra q.right own.0 in
      let more = some_more leads (ltb-true (length a.subscripts) (length p.subscripts) own.1) in
      (begins_so a p leads, past_from more.0 more.1 (sym (behind_is more.0 more.1) ∙ both.1))

  lower : AtMost (past_bytes r) (key_bytes p) → (t : NodeSubscript) (h : Has t) (o : Ordering)
      → subscript_cmp last t ≡ o → is_lt o ≡ true
  lower high t h Less e = refl
  lower high t h Equal e =
      let same : last ≡ t = ties last t last_right (t_right t h) e in
      let leads : Leads r p = record {
        name = h.leads.name ∙ sym is.name;
        subscripts = (
          h.more,
          h.parts ∙ ap (λ s. a.subscripts ++ s ∷ h.more) (sym same)
              ∙ sym (append_assoc a.subscripts (last ∷ []) h.more) ∙ ap (λ ss. ss ++ h.more) (sym is.subscripts),
        );
      } in
      absurd (not_both (past_bytes r) (key_bytes p) high (keys.leads_between numbers r p leads).1)
  lower high t h Greater e =
      let greater : cmp (key_bytes r) (key_bytes p) ≡ Greater =
      compared t h ∙ ap (λ o. ordering_then o (slice_cmp subscript_cmp [] h.more)) e in
      let less = below_less (key_bytes r) (key_bytes p)
      (below_most (key_bytes r) (past_bytes r) (key_bytes p) (key_below_past r) high) in
      absurd (cc (greater, less))

  not_same : AtMost (past_bytes r) (key_bytes p) → p ≡ a → ⊥
  not_same high same =
      not_both (past_bytes r) (key_bytes a) (subst (λ n. AtMost (past_bytes r) (key_bytes n)) same high)
      (most_below (key_bytes a) (key_bytes r) (past_bytes r)
      (keys.leads_between numbers a r (leads_below a r last is)).0 (key_below_past r))

  pub range_behind : Begins (lead_bytes a) (key_bytes p) → AtMost (past_bytes r) (key_bytes p)
      → (is_under a p && is_behind last (length a.subscripts) q) ≡ true
  range_behind begins high = by leads.subscripts.0 leads.subscripts.1
    where
      leads : Leads a p
      leads = keys.leads_from numbers a p ra q.right begins

      by : (more : List NodeSubscript) → p.subscripts ≡ a.subscripts ++ more
          → (is_under a p && is_behind last (length a.subscripts) q) ≡ true
      by [] e = absurd (not_same high (sym (same_node a p leads.name (e ∙ append-nil a.subscripts))))
      by (t ∷ more) e =
          let h : Has t = record { leads = leads; more = more; parts = e } in
          let under = and_from (is_led a p) (nat_lt (length a.subscripts) (length p.subscripts))
          (keys.leads_led numbers a p ra leads) (is_longer a p (t ∷ more) e (λ none. absurd (cc none))) in
          and_from (is_under a p) (is_behind last (length a.subscripts) q) under
          (behind_is t h ∙ lower high t h (subscript_cmp last t) refl)
