-- A KILL of a node that has no value and no descendant with one leaves the map.
use Rattle.std.proofs.Common.{◌≡◌, ◌⊎◌, ℕ, ◌+◌, Bool, true, false, cond, List, [], ◌∷◌, ◌++◌, length, Option, None}
use Rattle.std.proofs.Common.{Some, refl, sym, ap, subst, ◌∙◌, arith, inl, inr, ⊎_elim, ltb, is_eq, length-append}
use Rattle.std.proofs.lemmas.List.{append-nil}
use Rattle.std.proofs.lemmas.Bool.{and_from, cases_Bool, false_from_ne_true, false≢true, ltb-false, or_cases}
use Rattle.std.specs.Prelude.{◌||◌, is_some}
use Rattle.std.specs.List.{list_any}
use Rattle.std.specs.FinMap.{contains_key-keys, get, same_map}
use Rattle.std.specs.Ordering.{eq_by_cmp}
use Rattle.std.proofs.lemmas.Cmp.{tied_itself}
use Rattle.gds_sound.specs.Questions.{data_of, is_under, places_of}
use Rattle.m_key.specs.Collation.{Leads, reference_cmp}
use Rattle.m_key.specs.Globals.{Globals, Place, after, is_led, kill, place_cmp}
use Rattle.m_key.specs.Node.{Node, NodeSubscript}
use Rattle.m_key.proofs.KeyLemmas.{is_equal, led_leads, leads_led}
use Rattle.m_key.proofs.NumberLemmas.{numbers}
use Rattle.m_key.proofs.PlaceLemmas.{killed, place_same, place_total, spared}

-- ---- tests on a list

-- Where one of two tests passes what a third passes, one of them passes something.
any_of_two : {A : Type 0} (test f g : A → Bool) → ((x : A) → test x ≡ true → (f x ≡ true) ⊎ (g x ≡ true))
    → (xs : List A) → list_any test xs ≡ true → (list_any f xs ≡ true) ⊎ (list_any g xs ≡ true)
any_of_two test f g each [] is = absurd (false≢true is)
any_of_two test f g each (x ∷ xs) is =
    ⊎_elim
    (λ (here : test x ≡ true).
    ⊎_elim (λ (is_f : f x ≡ true). inl (ap (λ t. t || list_any f xs) is_f))
    (λ (is_g : g x ≡ true). inr (ap (λ t. t || list_any g xs) is_g)) (each x here))
    (λ (later : list_any test xs ≡ true).
    ⊎_elim (λ (is_f : list_any f xs ≡ true). inl (later_true (f x) (list_any f xs) is_f))
    (λ (is_g : list_any g xs ≡ true). inr (later_true (g x) (list_any g xs) is_g))
    (any_of_two test f g each xs later))
    (or_cases (test x) (list_any test xs) is)
  where
    later_true : (a b : Bool) → b ≡ true → (a || b) ≡ true
    later_true true b is = refl
    later_true false b is = is

-- ---- a node's descendants

no_more : (xs rest : List NodeSubscript) → length (xs ++ rest) ≡ length xs → rest ≡ []
no_more xs [] same = refl
no_more xs (x ∷ rest) same = absurd (omega (arith, same, length-append xs (x ∷ rest)))

same_node : (a b : Node) → Leads a b → ltb (length a.subscripts) (length b.subscripts) ≡ false → a ≡ b
same_node a b leads none =
    let least = ltb-false (length a.subscripts) (length b.subscripts) none in
    let len = ap (λ (ss : List NodeSubscript). length ss) leads.subscripts.1
    ∙ length-append a.subscripts leads.subscripts.0 in
    let rest = no_more a.subscripts leads.subscripts.0
    (omega (arith, least, len, length-append a.subscripts leads.subscripts.0)) in
    let subscripts : b.subscripts ≡ a.subscripts =
    leads.subscripts.1 ∙ ap (λ more. a.subscripts ++ more) rest ∙ append-nil a.subscripts in
    λ i. record { name = sym leads.name i; subscripts = sym subscripts i }

-- A place that a node leads to is the node's own or under it.
own_or_under : (p q : Place) → is_led p.node q.node ≡ true
    → (is_eq (reference_cmp p.node q.node) ≡ true) ⊎ (is_under p.node q.node ≡ true)
own_or_under p q led =
    ⊎_elim
    (λ (longer : ltb (length p.node.subscripts) (length q.node.subscripts) ≡ true).
    inr (and_from (is_led p.node q.node) (ltb (length p.node.subscripts) (length q.node.subscripts)) led longer))
    (λ (none : ltb (length p.node.subscripts) (length q.node.subscripts) ≡ false).
    inl (subst (λ node. is_eq (reference_cmp p.node node) ≡ true)
    (same_node p.node q.node (led_leads numbers p.node q.node p.right q.right led) none)
    (ap is_eq (tied_itself place_total p))))
    (cases_Bool (ltb (length p.node.subscripts) (length q.node.subscripts)))

-- ---- nothing is killed

some_there : (a b : Bool) → cond a 1 0 + cond b 10 0 ≡ 0 → (a ≡ true) ⊎ (b ≡ true) → ⊥
some_there true b none is = absurd (omega (arith, none))
some_there false true none is = absurd (omega (arith, none))
some_there false false none (inl is) = false≢true is
some_there false false none (inr is) = false≢true is

none_has : (m : Globals) (p q : Place) → data_of m p.node ≡ 0 → is_led p.node q.node ≡ true
    → list_any (eq_by_cmp place_cmp q) (places_of m) ≡ false
none_has m p q none led =
    false_from_ne_true (list_any (eq_by_cmp place_cmp q) (places_of m))
    (λ has.
    some_there (list_any (λ x. is_eq (reference_cmp p.node x.node)) (places_of m))
    (list_any (λ x. is_under p.node x.node) (places_of m)) none
    (any_of_two (eq_by_cmp place_cmp q) (λ x. is_eq (reference_cmp p.node x.node)) (λ x. is_under p.node x.node)
    (λ x tied. own_or_under p x
    (subst (λ (r : Place). is_led p.node r.node ≡ true) (place_same q x (is_equal (place_cmp q x) tied)) led))
    (places_of m) has))

no_value : (found : Option (List ℕ)) → is_some found ≡ false → found ≡ None
no_value None is = refl
no_value (Some value) is = absurd (false≢true (sym is))

stays_at : (m : Globals) (p q : Place) (led : Bool) → is_led p.node q.node ≡ led → data_of m p.node ≡ 0
    → get (after m (kill p)) q ≡ get m q
stays_at m p q true is none =
    killed m p q (led_leads numbers p.node q.node p.right q.right is)
    ∙ sym (no_value (get m q) (contains_key-keys m q ∙ none_has m p q none is))
stays_at m p q false is none =
    spared m p q (λ leads. false≢true (sym is ∙ leads_led numbers p.node q.node p.right leads))

pub nothing_killed : (m : Globals) (p : Place) → data_of m p.node ≡ 0 → after m (kill p) ≡ m
nothing_killed m p none =
    same_map place_total place_same (after m (kill p)) m
    (λ q. stays_at m p q (is_led p.node q.node) refl none)
