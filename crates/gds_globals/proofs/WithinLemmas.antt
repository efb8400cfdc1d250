-- Whether a node or a descendant has a value: of a map, and of the items of a sound file.
use Rattle.std.proofs.Common.{◌≡◌, ◌≢◌, ℕ, ◌+◌, Bool, true, false, not, ◌&&◌, ◌||◌, List, [], ◌∷◌, ◌++◌}
use Rattle.std.proofs.Common.{length, map, Ordering, Equal, Greater, Less, inl, inr, refl, sym, ap, subst, ◌∙◌, arith}
use Rattle.std.specs.Prelude.{All, Contains, if◌then◌else◌, nat_lt}
use Rattle.std.specs.FinMap.{entries}
use Rattle.std.specs.List.{list_any}
use Rattle.std.specs.Ordering.{is_eq, is_le, is_lt, ordering_reverse}
use Rattle.std.proofs.lemmas.Bool.{and_from, and_right, cases_lt, false_from_ne_true, lt-ltb}
use Rattle.std.proofs.lemmas.Cmp.{tied_itself}
use Rattle.std.proofs.lemmas.List.{append-nil, length-append}
use Rattle.std.proofs.lemmas.List.Elements.{recursion_from_All}
use Rattle.m_key.specs.Collation.{Leads, reference_cmp}
use Rattle.m_key.specs.Globals.{Globals, Place, is_led}
use Rattle.m_key.specs.Key.{AtMost, Below, key_bytes, past_bytes}
use Rattle.m_key.specs.Node.{Node}
use Rattle.m_key.proofs.KeyLemmas as keys
use Rattle.m_key.proofs.NumberLemmas.{numbers}
use Rattle.m_key.proofs.PlaceLemmas.{place_same, place_total}
use Rattle.gds_block.specs.Item.{Item}
use Rattle.gds_file.specs.Change.{is_within, items_in}
use Rattle.gds_file.proofs.ChangeLemmas.{leads_within, within_leads}
use Rattle.gds_law.specs.Record.{is_below}
use Rattle.gds_law.proofs.MembershipLemmas.{Contains-from_in, IsIn, in_either, in_from_Contains, in_map, in_map_from}
use Rattle.gds_law.proofs.MembershipLemmas.{in_right}
use Rattle.gds_law.proofs.RisingLemmas.{Rising, Rising-behind}
use Rattle.gds_sound.specs.Questions.{data_of, is_under, places_of}
use Rattle.gds_sound.specs.Sound.{Tree}
use Rattle.gds_sound.specs.Stands.{StandsFor}
use Rattle.gds_sound.proofs.OrderLemmas.{cmp, cmp_total, key_cmp}
use Rattle.gds_sound.proofs.PairLemmas.{Entry, item_of, readings_agree}
use Rattle.gds_globals.specs.Killing.{HasNoneWithin, HasTrees, HasWithin}
use Rattle.gds_globals.proofs.FileLemmas.{each_in}

-- ---- of a map

any_none : {A : Type 0} (test : A → Bool) (xs : List A) → ((x : A) → IsIn xs x → test x ≡ false)
    → list_any test xs ≡ false
any_none test [] h = refl
any_none test (x ∷ xs) h = ap (λ t. t || list_any test xs) (h x (inl refl)) ∙ any_none test xs (λ y i. h y (inr i))

any_some : {A : Type 0} (test : A → Bool) (xs : List A) (x : A) → IsIn xs x → test x ≡ true → list_any test xs ≡ true
any_some test [] x i h = absurd i
any_some test (y ∷ ys) x (inl e) h = ap (λ t. t || list_any test ys) (ap test e ∙ h)
any_some test (y ∷ ys) x (inr i) h =
    by (test y) (any_some test ys x i h)
  where
    by : (t : Bool) → list_any test ys ≡ true → (t || list_any test ys) ≡ true
    by true e = refl
    by false e = e

no_length : {A : Type 0} (xs : List A) → length xs ≡ 0 → xs ≡ []
no_length [] e = refl
no_length (x ∷ xs) e = absurd (omega (arith, e))

pub leads_itself : (a : Node) → Leads a a
leads_itself a = record { name = refl; subscripts = ([], sym (append-nil a.subscripts)) }

some_data : (a b : Bool) → b ≡ true → (if a then 1 else 0) + (if b then 10 else 0) ≢ 0
some_data true true e = λ z. omega (arith, z)
some_data false true e = λ z. omega (arith, z)
some_data a false e = absurd (cc)

own_data : (a b : Bool) → a ≡ true → (if a then 1 else 0) + (if b then 10 else 0) ≢ 0
own_data true true e = λ z. omega (arith, z)
own_data true false e = λ z. omega (arith, z)
own_data false b e = absurd (cc)

module _ (m : Globals) (p : Place) where
  not_led : (q : Place) → is_within p.node (key_bytes q.node) ≡ false → Leads p.node q.node → ⊥
  not_led q none l = let e : true ≡ false = sym (leads_within p q l) ∙ none in absurd (cc)

  not_equal : (q : Place) → is_within p.node (key_bytes q.node) ≡ false → is_eq (reference_cmp p.node q.node) ≡ false
  not_equal q none =
      false_from_ne_true _ (λ h.
      let same : p ≡ q = place_same p q (keys.is_equal (reference_cmp p.node q.node) h) in
      not_led q none (subst (λ (x : Place). Leads p.node x.node) same (leads_itself p.node)))

  not_under : (q : Place) → is_within p.node (key_bytes q.node) ≡ false → is_under p.node q.node ≡ false
  not_under q none =
      ap (λ t. t && nat_lt (length p.node.subscripts) (length q.node.subscripts))
      (false_from_ne_true (is_led p.node q.node) (λ h.
      not_led q none (keys.led_leads numbers p.node q.node p.right q.right h)))

  place_of_entry : (P : Place → Type 0) → ((e : Entry) → IsIn (entries m) e → P e.0) → (q : Place)
      → IsIn (places_of m) q → P q
  place_of_entry P h q i =
      let e = in_map_from (λ (e : Entry). e.0) (entries m) q i in
      subst P e.2 (h e.0 e.1)

  pub no_data : ((e : Entry) → IsIn (entries m) e → is_within p.node (key_bytes e.0.node) ≡ false)
      → data_of m p.node ≡ 0
  no_data none =
      let out : (q : Place) → IsIn (places_of m) q → is_within p.node (key_bytes q.node) ≡ false =
      place_of_entry (λ q. is_within p.node (key_bytes q.node) ≡ false) none in
      let own = any_none (λ (q : Place). is_eq (reference_cmp p.node q.node)) (places_of m)
      (λ q i. not_equal q (out q i)) in
      let under = any_none (λ (q : Place). is_under p.node q.node) (places_of m) (λ q i. not_under q (out q i)) in
      (λ i. (if own i then 1 else 0) + (if under i then 10 else 0))

  -- a node that it leads is itself or below it
  pub has_data : (e : Entry) → IsIn (entries m) e → is_within p.node (key_bytes e.0.node) ≡ true
      → data_of m p.node ≢ 0
  has_data e i h =
      let q : Place = e.0 in
      let l = within_leads p q h in
      let there = in_map (λ (x : Entry). x.0) (entries m) e i in
      elim (cases_lt (length p.node.subscripts) (length q.node.subscripts)) [
        | inl longer ↦
            some_data _ (list_any (λ (x : Place). is_under p.node x.node) (places_of m))
            (any_some (λ (x : Place). is_under p.node x.node) (places_of m) q there
            (and_from (is_led p.node q.node) _ (keys.leads_led numbers p.node q.node p.right l)
            (lt-ltb (length p.node.subscripts) (length q.node.subscripts) longer)))
        | inr no_longer ↦
            let rest : l.subscripts.0 ≡ [] =
            no_length l.subscripts.0
            (omega (
              arith,
              no_longer,
              ap length l.subscripts.1,
              length-append p.node.subscripts l.subscripts.0,
            )) in
            let subscripts : q.node.subscripts ≡ p.node.subscripts =
            l.subscripts.1 ∙ ap (λ r. p.node.subscripts ++ r) rest ∙ append-nil p.node.subscripts in
            let node : p.node ≡ q.node =
            sym (λ j. record { name = l.name j; subscripts = subscripts j }) in
            let tied : reference_cmp p.node q.node ≡ Equal =
            subst (λ (n : Node). reference_cmp p.node n ≡ Equal) node (tied_itself place_total p) in
            own_data (list_any (λ (x : Place). is_eq (reference_cmp p.node x.node)) (places_of m)) _
            (any_some (λ (x : Place). is_eq (reference_cmp p.node x.node)) (places_of m) q there (ap is_eq tied))
      ]

-- ---- of the items of a file that stands for the map

module _ (file : List ℕ) (d : Tree) (globals : List Tree) (has : HasTrees file d globals) (m : Globals)
    (st : StandsFor file m) (p : Place) where
  entries_are : map item_of (entries m) ≡ items_in globals
  entries_are = ((readings_agree file).pairs has.bytes d globals m has.sound).0 st

  pub nothing_there : HasNoneWithin p.node (items_in globals) → data_of m p.node ≡ 0
  nothing_there none =
      no_data m p (λ e i.
      none (item_of e) (Contains-from_in (items_in globals) (item_of e)
      (subst (λ l. IsIn l (item_of e)) entries_are (in_map item_of (entries m) e i))))

  pub something_there : HasWithin p.node (items_in globals) → data_of m p.node ≢ 0
  something_there w =
      let e = in_map_from item_of (entries m) w.item
      (subst (λ l. IsIn l w.item) (sym entries_are) (in_from_Contains (items_in globals) w.item w.there)) in
      has_data m p e.0 e.1 (ap (λ (x : Item). is_within p.node x.key) e.2 ∙ w.within)

-- ---- of items that rise, by the first that isn't below the node's key

not_less_reversed : (o : Ordering) → not (is_lt (ordering_reverse o)) ≡ is_le o
not_less_reversed Less = refl
not_less_reversed Equal = refl
not_less_reversed Greater = refl

at_most : (x y : List ℕ) → not (is_below y x) ≡ is_le (cmp x y)
at_most x y = ap (λ o. not (is_lt o)) (cmp_total.antisymm y x) ∙ not_less_reversed (cmp x y)

less_of : (o : Ordering) → is_lt o ≡ true → o ≡ Less
less_of Less e = refl
less_of Equal e = absurd (cc)
less_of Greater e = absurd (cc)

module _ (node : Node) (items : List Item) where
  below_key : (i : Item) → is_below i.key (key_bytes node) ≡ true → is_within node i.key ≡ false
  below_key i e = ap (λ t. not t && is_below i.key (past_bytes node)) e

  past_key : (i : Item) → is_below i.key (past_bytes node) ≡ false → is_within node i.key ≡ false
  past_key i e = and_right (not (is_below i.key (key_bytes node))) _ e

  pub all_below : All (λ (i : Item). Below i.key (key_bytes node)) items → HasNoneWithin node items
  all_below all i there =
      below_key i
      (each_in (λ (x : Item). Below x.key (key_bytes node)) items
      (recursion_from_All (λ (x : Item). Below x.key (key_bytes node)) items all) i (in_from_Contains items i there))

  module _ (before behind : List Item) (e : Item) (parts : items ≡ before ++ e ∷ behind) where
    e_there : Contains items e
    e_there =
        Contains-from_in items e (subst (λ l. IsIn l e) (sym parts) (in_right before (e ∷ behind) e (inl refl)))

    pub first_within : AtMost (key_bytes node) e.key → is_below e.key (past_bytes node) ≡ true
        → HasWithin node items
    first_within from up_to = record {
      item = e;
      there = e_there;
      within = and_from (not (is_below e.key (key_bytes node))) _ (at_most (key_bytes node) e.key ∙ from) up_to;
    }

    pub first_past : Rising key_cmp items → All (λ (i : Item). Below i.key (key_bytes node)) before
        → is_below e.key (past_bytes node) ≡ false → HasNoneWithin node items
    first_past rising all past i there =
        elim (in_either before (e ∷ behind) i (subst (λ l. IsIn l i) parts (in_from_Contains items i there))) [
          | inl j ↦ below_key i
              (each_in (λ (x : Item). Below x.key (key_bytes node)) before
              (recursion_from_All (λ (x : Item). Below x.key (key_bytes node)) before all) i j)
          | inr (inl same) ↦ past_key i (ap (λ (x : Item). is_below x.key (past_bytes node)) (sym same) ∙ past)
          | inr (inr j) ↦ past_key i (further j)
        ]
      where
        further : IsIn behind i → is_below i.key (past_bytes node) ≡ false
        further j =
            false_from_ne_true _ (λ h.
            let less : cmp e.key i.key ≡ Less =
            (Rising-behind key_cmp before (e ∷ behind) (subst (Rising key_cmp) parts rising)).0 i j in
            let up = cmp_total.trans e.key i.key (past_bytes node) less (less_of (cmp i.key (past_bytes node)) h) in
            let both : true ≡ false = sym (ap is_lt up) ∙ past in
            absurd (cc))
