-- A SET and a KILL, said of the items of a file's globals.
use Rattle.std.proofs.Common.{◌≡◌, ◌≢◌, ℕ, ◌<◌, Bool, true, not, ◌⊎◌, List, [], ◌∷◌, ◌++◌}
use Rattle.std.proofs.Common.{filter, Some, None, Ordering, Less, Equal, Greater, is_lt, inl, inr, refl}
use Rattle.std.proofs.Common.{sym, ap, subst, ◌∙◌, append_assoc}
use Rattle.std.proofs.lemmas.Cmp.{tied_itself}
use Rattle.std.proofs.lemmas.Option.{same_Some}
use Rattle.std.specs.FinMap.{get}
use Rattle.std.specs.Ordering.{ordering_reverse, is_le}
use Rattle.std.proofs.lemmas.Bool.{cases_Bool, and_parts, and_from, both_ways, cond-true, cond-false}
use Rattle.std.proofs.lemmas.Bool.{not_from_false, not-true}
use Rattle.std.proofs.lemmas.List.Elements.{recursion_from_All}
use Rattle.m_key.specs.Key.{key_bytes}
use Rattle.m_key.specs.Collation.{Leads}
use Rattle.m_key.specs.Globals.{Globals, Place, place_cmp, set_value, kill, after}
use Rattle.m_key.proofs.KeyLemmas as keys
use Rattle.m_key.proofs.NumberLemmas.{numbers}
use Rattle.m_key.proofs.PlaceLemmas.{place_total, place_same, set_here, set_elsewhere, killed, spared}
use Rattle.gds_block.specs.Item.{Item}
use Rattle.gds_law.specs.Record.{is_below}
use Rattle.gds_law.proofs.MembershipLemmas.{IsIn, in_left, in_right, in_either}
use Rattle.gds_law.proofs.RisingLemmas.{Rising, rises, Rising-behind, decide_same, not_below_itself}
use Rattle.gds_sound.specs.Sound.{Tree}
use Rattle.std.proofs.lemmas.Grind.{flat_map-append}
use Rattle.gds_sound.proofs.OrderLemmas.{cmp, cmp_total, cmp_exact, key_cmp}
use Rattle.gds_sound.proofs.PairLemmas.{place_key, items_rise, keys_are_nodes}
use Rattle.gds_file.specs.Change.{items_in, item_at, SetsItem, is_within, items_outside}
use Rattle.gds_file.specs.ChangeLaws.{SetItemIsSet, ItemsOutsideAreKill, SetInOneTree, SetInNewTree}
use Rattle.gds_file.proofs.ItemLemmas.{HasItems, items_stood_for, stands_for_items}

-- ---- places by their keys

decide_place : (p q : Place) → (p ≡ q) ⊎ (p ≢ q)
decide_place p q = decide_same Place place_cmp place_total place_same p q

-- A key that is below another or above it is another place's.
not_same : (p q : Place) → cmp (key_bytes p.node) (key_bytes q.node) ≡ Less → p ≢ q
not_same p q h e =
    not_below_itself (List ℕ) cmp cmp_total cmp_exact (key_bytes q.node)
    (subst (λ (r : Place). cmp (key_bytes r.node) (key_bytes q.node) ≡ Less) e h)

same_by_key : (p q : Place) → key_bytes p.node ≡ key_bytes q.node → p ≡ q
same_by_key p q e = elim (decide_place p q) [
  | inl same ↦ same
  | inr other ↦ absurd (other (place_same p q (place_key p q ∙ ap (cmp (key_bytes p.node)) (sym e) ∙ itself)))
]
  where
    itself : cmp (key_bytes p.node) (key_bytes p.node) ≡ Equal
    itself = sym (place_key p p) ∙ tied_itself place_total p

-- ---- one item set

module _ (m : Globals) (p : Place) (value : List ℕ) (old new : List Tree)
    (sets : SetsItem (items_in old) (items_in new) (item_at p.node value))
    (rising : Rising key_cmp (items_in new)) (has : HasItems m old) where
  abbrev placed : Item
  placed = item_at p.node value

  parted : Rising key_cmp (sets.front ++ placed ∷ sets.back)
  parted = subst (Rising key_cmp) sets.after rising

  -- an item in front of it or behind it has another key
  in_front : (q : Place) (w : List ℕ) → IsIn sets.front (item_at q.node w) → q ≢ p
  in_front q w i =
      not_same q p (rises key_cmp sets.front (placed ∷ sets.back) parted (item_at q.node w) placed i (inl refl))

  behind : (q : Place) (w : List ℕ) → IsIn sets.back (item_at q.node w) → q ≢ p
  behind q w i e =
      not_same p q ((Rising-behind key_cmp sets.front (placed ∷ sets.back) parted).0 (item_at q.node w) i) (sym e)

  -- the other items are the same
  others_to : (i : Item) → IsIn sets.front i ⊎ IsIn sets.back i → IsIn (items_in old) i
  others_to i there = elim sets.before [
    | inl e ↦ subst (λ l. IsIn l i) (sym e) (elim there [
      | inl j ↦ in_left sets.front sets.back i j
      | inr j ↦ in_right sets.front sets.back i j
    ])
    | inr e ↦ subst (λ l. IsIn l i) (sym e.1) (elim there [
      | inl j ↦ in_left sets.front (record { key = key_bytes p.node; rest = e.0 } ∷ sets.back) i j
      | inr j ↦ in_right sets.front (record { key = key_bytes p.node; rest = e.0 } ∷ sets.back) i (inr j)
    ])
  ]

  others_from : (i : Item) → IsIn (items_in old) i → i.key ≢ key_bytes p.node → IsIn (items_in new) i
  others_from i there other = subst (λ l. IsIn l i) (sym sets.after) (elim sets.before [
    | inl e ↦ elim (in_either sets.front sets.back i (subst (λ l. IsIn l i) e there)) [
      | inl j ↦ in_left sets.front (placed ∷ sets.back) i j
      | inr j ↦ in_right sets.front (placed ∷ sets.back) i (inr j)
    ]
    | inr e ↦ elim (in_either sets.front (record { key = key_bytes p.node; rest = e.0 } ∷ sets.back) i
        (subst (λ l. IsIn l i) e.1 there)) [
          | inl j ↦ in_left sets.front (placed ∷ sets.back) i j
          | inr (inl same) ↦ absurd (other (sym (ap (λ (x : Item). x.key) same)))
          | inr (inr j) ↦ in_right sets.front (placed ∷ sets.back) i (inr j)
        ]
  ])

  to : (q : Place) (w : List ℕ) → get (after m (set_value p value)) q ≡ Some w → IsIn (items_in new) (item_at q.node w)
  to q w g = elim (decide_place q p) [
    | inl same ↦
        let here : get (after m (set_value p value)) q ≡ Some value =
        ap (get (after m (set_value p value))) same ∙ set_here m p value in
        let values : value ≡ w = same_Some value w (sym here ∙ g) in
        subst (λ l. IsIn l (item_at q.node w)) (sym sets.after)
        (in_right sets.front (placed ∷ sets.back) (item_at q.node w)
        (inl (λ i. item_at (sym same i).node (values i))))
    | inr other ↦
        others_from (item_at q.node w) ((has q w).0 (sym (set_elsewhere m p q value other) ∙ g))
        (λ e. other (same_by_key q p e))
  ]

  from_other : (q : Place) (w : List ℕ) → q ≢ p → IsIn (items_in old) (item_at q.node w)
      → get (after m (set_value p value)) q ≡ Some w
  from_other q w other i = set_elsewhere m p q value other ∙ (has q w).1 i

  from : (q : Place) (w : List ℕ) → IsIn (items_in new) (item_at q.node w)
      → get (after m (set_value p value)) q ≡ Some w
  from q w i =
      let there = in_either sets.front (placed ∷ sets.back) (item_at q.node w)
      (subst (λ l. IsIn l (item_at q.node w)) sets.after i) in
      elim there [
        | inl j ↦ from_other q w (in_front q w j) (others_to (item_at q.node w) (inl j))
        | inr (inl e) ↦
            let same : p ≡ q = same_by_key p q (ap (λ (x : Item). x.key) e) in
            ap (get (after m (set_value p value))) (sym same) ∙ set_here m p value
            ∙ ap (λ (x : Item). Some x.rest) e
        | inr (inr j) ↦ from_other q w (behind q w j) (others_to (item_at q.node w) (inr j))
      ]

  pub items_after_set : HasItems (after m (set_value p value)) new
  items_after_set q w = (to q w, from q w)

pub set_item_is_set : SetItemIsSet
set_item_is_set old new top top' globals globals' m p value s st s' bytes sets =
    let small = recursion_from_All (λ b. b < 256) new bytes in
    stands_for_items new top' globals' (after m (set_value p value)) s'
    (items_after_set m p value globals globals' sets (items_rise keys_are_nodes new small top' globals' s')
    (items_stood_for old top globals m s st))

-- ---- items outside a range

not_less_reversed : (o : Ordering) → not (is_lt (ordering_reverse o)) ≡ is_le o
not_less_reversed Less = refl
not_less_reversed Equal = refl
not_less_reversed Greater = refl

at_most : (x y : List ℕ) → not (is_below y x) ≡ is_le (cmp x y)
at_most x y = ap (λ o. not (is_lt o)) (cmp_total.antisymm y x) ∙ not_less_reversed (cmp x y)

-- The keys within a node's range are those of the node and its descendants.
pub within_leads : (p q : Place) → is_within p.node (key_bytes q.node) ≡ true → Leads p.node q.node
within_leads p q h =
    let parts = and_parts (not (is_below (key_bytes q.node) (key_bytes p.node))) _ h in
    keys.between_leads numbers p.node q.node p.right q.right
    (sym (at_most (key_bytes p.node) (key_bytes q.node)) ∙ parts.0) parts.1

pub leads_within : (p q : Place) → Leads p.node q.node → is_within p.node (key_bytes q.node) ≡ true
leads_within p q l =
    let between = keys.leads_between numbers p.node q.node l in
    and_from (not (is_below (key_bytes q.node) (key_bytes p.node))) _
    (at_most (key_bytes p.node) (key_bytes q.node) ∙ between.0) between.1

in_filter : {A : Type 0} (test : A → Bool) (xs : List A) (x : A) → IsIn xs x → test x ≡ true → IsIn (filter test xs) x
in_filter test [] x i h = absurd i
in_filter test (y ∷ ys) x (inl e) h =
    subst (λ l. IsIn l x) (sym (cond-true (test y) (y ∷ filter test ys) _ (ap test e ∙ h))) (inl e)
in_filter test (y ∷ ys) x (inr i) h = elim (cases_Bool (test y)) [
  | inl t ↦ subst (λ l. IsIn l x) (sym (cond-true (test y) (y ∷ filter test ys) _ t)) (inr (in_filter test ys x i h))
  | inr t ↦ subst (λ l. IsIn l x) (sym (cond-false (test y) (y ∷ filter test ys) _ t)) (in_filter test ys x i h)
]

filter_in : {A : Type 0} (test : A → Bool) (xs : List A) (x : A) → IsIn (filter test xs) x
    → IsIn xs x × (test x ≡ true)
filter_in test [] x i = absurd i
filter_in test (y ∷ ys) x i = elim (cases_Bool (test y)) [
  | inl t ↦ elim (subst (λ l. IsIn l x) (cond-true (test y) (y ∷ filter test ys) _ t) i) [
    | inl e ↦ (inl e, sym (ap test e) ∙ t)
    | inr j ↦ let r = filter_in test ys x j in (inr r.0, r.1)
  ]
  | inr t ↦
      let r = filter_in test ys x (subst (λ l. IsIn l x) (cond-false (test y) (y ∷ filter test ys) _ t) i) in
      (inr r.0, r.1)
]

module _ (m : Globals) (p : Place) (old new : List Tree) (outside : items_in new ≡ items_outside p.node (items_in old))
    (has : HasItems m old) where
  abbrev is_outside : Item → Bool
  is_outside i = not (is_within p.node i.key)

  to_outside : (q : Place) (w : List ℕ) → get (after m (kill p)) q ≡ Some w → IsIn (items_in new) (item_at q.node w)
  to_outside q w g = elim (cases_Bool (is_within p.node (key_bytes q.node))) [
    | inl inside ↦ absurd (no_value (sym (killed m p q (within_leads p q inside)) ∙ g))
    | inr away ↦
        let there = (has q w).0 (sym (spared m p q (λ l. both_ways _ away (leads_within p q l))) ∙ g) in
        subst (λ l. IsIn l (item_at q.node w)) (sym outside)
        (in_filter is_outside (items_in old) (item_at q.node w) there (not_from_false _ away))
  ]
    where
      no_value : {w : List ℕ} → None ≡ Some w → ⊥
      no_value e = cc

  from_outside : (q : Place) (w : List ℕ) → IsIn (items_in new) (item_at q.node w)
      → get (after m (kill p)) q ≡ Some w
  from_outside q w i =
      let r = filter_in is_outside (items_in old) (item_at q.node w)
      (subst (λ l. IsIn l (item_at q.node w)) outside i) in
      spared m p q (λ l. both_ways _ (not-true _ r.1) (leads_within p q l)) ∙ (has q w).1 r.0

  pub items_after_kill : HasItems (after m (kill p)) new
  items_after_kill q w = (to_outside q w, from_outside q w)

pub items_outside_are_kill : ItemsOutsideAreKill
items_outside_are_kill old new top top' globals globals' m p s st s' outside =
    stands_for_items new top' globals' (after m (kill p)) s'
    (items_after_kill m p globals globals' outside (items_stood_for old top globals m s st))

-- ---- in one tree

pub items_parted : (left : List Tree) (tree : Tree) (right : List Tree)
    → items_in (left ++ tree ∷ right) ≡ items_in left ++ (tree.items ++ items_in right)
items_parted left tree right = flat_map-append (λ (t : Tree). t.items) left (tree ∷ right)

pub items_joined : (left right : List Tree) → items_in (left ++ right) ≡ items_in left ++ items_in right
items_joined left right = flat_map-append (λ (t : Tree). t.items) left right

middle : (left front : List Item) (item : Item) (back right : List Item)
    → left ++ ((front ++ item ∷ back) ++ right) ≡ (left ++ front) ++ item ∷ (back ++ right)
middle left front item back right = simp append_assoc

around : (left front back right : List Item) → left ++ ((front ++ back) ++ right) ≡ (left ++ front) ++ (back ++ right)
around left front back right = simp append_assoc

pub set_in_one_tree : SetInOneTree
set_in_one_tree left right old new item sets = record {
  front = items_in left ++ sets.front;
  back = sets.back ++ items_in right;
  after = items_parted left new right ∙ ap (λ l. items_in left ++ (l ++ items_in right)) sets.after
      ∙ middle (items_in left) sets.front item sets.back (items_in right);
  before = elim sets.before [
    | inl e ↦ inl (items_parted left old right ∙ ap (λ l. items_in left ++ (l ++ items_in right)) e
        ∙ around (items_in left) sets.front sets.back (items_in right))
    | inr e ↦ inr (
      e.0,
      items_parted left old right ∙ ap (λ l. items_in left ++ (l ++ items_in right)) e.1
          ∙ middle (items_in left) sets.front (record { key = item.key; rest = e.0 }) sets.back (items_in right),
    )
  ];
}

pub set_in_new_tree : SetInNewTree
set_in_new_tree left right tree item one = record {
  front = items_in left;
  back = items_in right;
  after = items_parted left tree right ∙ ap (λ l. items_in left ++ (l ++ items_in right)) one;
  before = inl (items_joined left right);
}
