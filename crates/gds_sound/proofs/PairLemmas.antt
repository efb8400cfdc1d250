-- The items of the globals of a sound file, one after another, are the entries of the map for which the file stands.
use Rattle.std.proofs.Common.{◌≡◌, ℕ, zero, suc, ◌+◌, ◌-◌, ◌<◌, ◌==◌, Bool, true, false, ◌&&◌, cond, T, List, []}
use Rattle.std.proofs.Common.{◌∷◌, ◌++◌, length, take, drop, map, flat_map, Contains, None, Some, Ordering, Less, Equal}
use Rattle.std.proofs.Common.{Greater, is_eq, is_lt, inl, inr, refl, sym, ap, ap₂, subst, ◌∙◌, arith}
use Rattle.std.specs.Prelude.{nat_lt, is_none}
use Rattle.std.specs.List.{AllZip, slice_split, onto_first}
use Rattle.std.specs.Cmp.{IsTotalOrder}
use Rattle.std.specs.Ordering.{ordering_then}
use Rattle.std.specs.FinMap.{get, entries, entries_sorted, get-entries}
use Rattle.std.specs.FinMap.Entries.{find, is_sorted, below_all}
use Rattle.std.proofs.lemmas.Bool.{not-false, cond-true, cond-false, ltb-false, eq-eqb}
use Rattle.std.proofs.lemmas.Cmp.{tied_itself, tied_back, on_total}
use Rattle.std.proofs.lemmas.List.{length-append}
use Rattle.std.proofs.lemmas.List.Elements.{recursion_from_All, All-from_recursion}
use Rattle.std.proofs.lemmas.Slice.Eq.{bytes_eq-Decides}
use Rattle.m_key.specs.Node.{Node, NodeSubscript, IsNode}
use Rattle.m_key.specs.Key.{key_bytes, ended, subscript_bytes}
use Rattle.m_key.specs.Globals.{Globals, Place, place_cmp}
use Rattle.m_key.proofs.ZeroLemmas.{cmp-ended, cmp-same}
use Rattle.m_key.proofs.KeyLemmas as keys
use Rattle.m_key.proofs.NumberLemmas.{numbers}
use Rattle.m_key.proofs.PlaceLemmas.{place_total, place_same}
use Rattle.gds_block.specs.Item.{Item}
use Rattle.m_key.specs.KeyEnd.{key_len}
use Rattle.gds_law.specs.Visit.{TreeRole, directory, global, directory_root}
use Rattle.m_key.specs.KeyParts.{name_part, subscript_parts}
use Rattle.gds_law.specs.Key.{key_fault}
use Rattle.gds_law.specs.Record.{is_other_global}
use Rattle.gds_law.specs.Path.{Steps, AreKept}
use Rattle.gds_sound.specs.Stands.{values_at, StandsFor}
use Rattle.gds_sound.specs.Sound.{Tree, tree_at, root_of, IsSound, ReadingsAgree}
use Rattle.gds_law.proofs.MembershipLemmas.{IsIn, in_map}
use Rattle.gds_law.proofs.RisingLemmas.{Rising}
use Rattle.gds_law.proofs.KeyLemmas.{key_test}
use Rattle.gds_law.proofs.KeptLemmas.{some_kept}
use Rattle.gds_sound.proofs.BlockLemmas.{level_at}
use Rattle.gds_law.proofs.MembershipLemmas.{in_map_from}
use Rattle.m_number.proofs.OrderingLemmas.{Less-is_lt}
use Rattle.m_key.proofs.KeyPartLemmas.{name_part-ended}
use Rattle.gds_sound.proofs.KeptLemmas.{kept_from_apart}
use Rattle.gds_sound.proofs.SoundLemmas.{sound, faultless, all_rooted, sound_apart}
use Rattle.gds_sound.proofs.ValueLemmas.{in_under, values_to, values_from}
use Rattle.gds_sound.proofs.OrderLemmas.{cmp, cmp_total, key_cmp, Rising_append, sound_ordered}
use Rattle.gds_sound.proofs.KeyLemmas.{AreBytes, IsRightKey, right_keys}

-- ---- keys of nodes

pub record IsNodeKey (key : List ℕ) : Type 0 where
  pub node : Node
  pub right : IsNode node
  pub is : key_bytes node ≡ key

-- Keys without faults are those of nodes.
abbrev pub KeysAreNodes : Type 0
KeysAreNodes = (key : List ℕ) → key_len key ≡ Some (length key) → AreBytes key → key_fault key ≡ None → IsNodeKey key

-- what stands behind the name and its 0
abbrev behind : Node → List ℕ
behind n = flat_map ended n.subscripts ++ 0 ∷ []

pub key_name : (n : Node) → IsNode n → name_part (key_bytes n) ≡ n.name
key_name n r = ap name_part (keys.key-is n) ∙ name_part-ended n.name (behind n) (keys.NoZero-name numbers n r)

keys_cmp : (a b : Node) → IsNode a → IsNode b
    → cmp (key_bytes a) (key_bytes b) ≡ ordering_then (cmp a.name b.name) (cmp (behind a) (behind b))
keys_cmp a b p q =
    ap₂ cmp (keys.key-is a) (keys.key-is b)
    ∙ cmp-ended a.name b.name (behind a) (behind b) (keys.NoZero-name numbers a p) (keys.NoZero-name numbers b q)

-- a key with one part only has no subscripts
zero_in_take : (name rest : List ℕ) (k : ℕ) → length name < k → IsIn (take k (name ++ 0 ∷ rest)) 0
zero_in_take name rest zero h = absurd (omega arith)
zero_in_take [] rest (suc k) h = inl refl
zero_in_take (x ∷ xs) rest (suc k) h = inr (zero_in_take xs rest k (omega arith))

onto_count : (x : ℕ) (parts : List (List ℕ)) → 0 < length parts → length (onto_first x parts) ≡ length parts
onto_count x [] h = absurd (omega arith)
onto_count x (part ∷ parts) h = refl

some_parts : (xs : List ℕ) → 0 < length (slice_split (λ b. b == 0) xs)
some_parts [] = omega arith
some_parts (x ∷ xs) = by (x == 0) (some_parts xs)
  where
    by : (t : Bool) → 0 < length (slice_split (λ b. b == 0) xs)
        → 0 < length (cond t ([] ∷ slice_split (λ b. b == 0) xs) (onto_first x (slice_split (λ b. b == 0) xs)))
    by true h = omega arith
    by false h = omega (arith, h, onto_count x (slice_split (λ b. b == 0) xs) h)

more_parts : (xs : List ℕ) → IsIn xs 0 → 1 < length (slice_split (λ b. b == 0) xs)
more_parts [] i = absurd i
more_parts (x ∷ xs) (inl e) =
    let whole =
    cond-true (x ==
    0) ([] ∷ slice_split (λ b. b == 0) xs) (onto_first x (slice_split (λ b. b == 0) xs)) (eq-eqb x 0 e) in
    omega (arith, ap length whole, some_parts xs)
more_parts (x ∷ xs) (inr i) = by (x == 0) (some_parts xs) (more_parts xs i)
  where
    by : (t : Bool) → 0 < length (slice_split (λ b. b == 0) xs) → 1 < length (slice_split (λ b. b == 0) xs)
        → 1 < length (cond t ([] ∷ slice_split (λ b. b == 0) xs) (onto_first x (slice_split (λ b. b == 0) xs)))
    by true s h = omega (arith, h)
    by false s h = omega (arith, h, onto_count x (slice_split (λ b. b == 0) xs) s)

length_drop_one : {A : Type 0} (xs : List A) → length (drop 1 xs) ≡ length xs - 1
length_drop_one [] = refl
length_drop_one (x ∷ xs) = omega arith

pub no_subscripts : (n : Node) → length (subscript_parts (key_bytes n)) ≡ 0 → n.subscripts ≡ []
no_subscripts n h = by n.subscripts refl
  where
    by : (ss : List NodeSubscript) → n.subscripts ≡ ss → n.subscripts ≡ []
    by [] e = e
    by (s ∷ ss) e =
        let rest : List ℕ = flat_map ended ss ++ 0 ∷ [] in
        let tail : behind n ≡ subscript_bytes s ++ 0 ∷ rest = ap (λ l. flat_map ended l ++ 0 ∷ []) e
        ∙ keys.ended-more s ss (0 ∷ []) in
        let key : key_bytes n ≡ n.name ++ 0 ∷ (subscript_bytes s ++ 0 ∷ rest) = keys.key-is n
        ∙ ap (λ l. n.name ++ 0 ∷ l) tail in
        let size : length (key_bytes n)
        ≡ length n.name + 1 + (length (subscript_bytes s) + 1 + (length (flat_map ended ss) + 1)) =
        omega (
          arith,
          ap length key,
          length-append n.name (0 ∷ (subscript_bytes s ++ 0 ∷ rest)),
          length-append (subscript_bytes s) (0 ∷ rest),
          length-append (flat_map ended ss) (0 ∷ []),
        ) in
        let zero_there : IsIn (take (length (key_bytes n) - 2) (key_bytes n)) 0 =
        subst (λ l. IsIn (take (length (key_bytes n) - 2) l) 0) (sym key)
        (zero_in_take n.name (subscript_bytes s ++ 0 ∷ rest) (length (key_bytes n) - 2) (omega (arith, size))) in
        let many = more_parts (take (length (key_bytes n) - 2) (key_bytes n)) zero_there in
        absurd (omega (
          arith,
          many,
          h,
          length_drop_one (slice_split (λ b. b == 0) (take (length (key_bytes n) - 2) (key_bytes n))),
        ))

-- the parts of some order
then_less : (o p : Ordering) → o ≡ Less → ordering_then o p ≡ Less
then_less o p e = ap (λ q. ordering_then q p) e

less_or_same : (o p : Ordering) → ordering_then o p ≡ Less → p ≡ Equal → o ≡ Less
less_or_same Less p h e = refl
less_or_same Equal p h e = absurd (cc)
less_or_same Greater p h e = absurd (cc)

-- Keys of two globals stand as the entries of their names do.
names_across : (x y e d : Node) → IsNode x → IsNode y → IsNode e → IsNode d → x.name ≡ e.name → y.name ≡ d.name
    → e.subscripts ≡ [] → d.subscripts ≡ []
    → cmp (key_bytes e) (key_bytes d) ≡ Less → cmp (key_bytes x) (key_bytes y) ≡ Less
names_across x y e d px py pe pd sx sy ne nd h =
    let same : cmp (behind e) (behind d) ≡ Equal =
    ap₂ (λ k l. cmp (flat_map ended k ++ 0 ∷ []) (flat_map ended l ++ 0 ∷ [])) ne nd in
    let names : cmp e.name d.name ≡ Less =
    less_or_same (cmp e.name d.name) (cmp (behind e) (behind d)) (sym (keys_cmp e d pe pd) ∙ h) same in
    keys_cmp x y px py ∙ then_less (cmp x.name y.name) (cmp (behind x) (behind y)) (ap₂ cmp sx sy ∙ names)

-- ---- the items of the globals rise

pub own_name : (name key : List ℕ) → is_other_global (global name) (name_part key) ≡ false → name_part key ≡ name
own_name name key h = sym ((bytes_eq-Decides name (name_part key)).0 (not-false _ h))

pub no_parts : (key : List ℕ) → IsRightKey directory key → length (subscript_parts key) ≡ 0
no_parts key r = by (nat_lt 0 (length (subscript_parts key))) refl
  where
    plain : (nat_lt 0 (length (subscript_parts key))) ≡ false
    plain = sym (ap (λ o. is_none o && nat_lt 0 (length (subscript_parts key))) r.right) ∙ r.plain

    by : (t : Bool) → nat_lt 0 (length (subscript_parts key)) ≡ t → length (subscript_parts key) ≡ 0
    by t e = omega (arith, ltb-false 0 (length (subscript_parts key)) plain)

module _ (nodes : KeysAreNodes) (image : List ℕ) (small : AreBytes image) where
  node_of : (role : TreeRole) (key : List ℕ) → IsRightKey role key → IsNodeKey key
  node_of role key r = nodes key r.whole r.bytes r.right

  across : (e d x y : Item) → IsRightKey directory e.key → IsRightKey directory d.key
      → IsRightKey (global (name_part e.key)) x.key → IsRightKey (global (name_part d.key)) y.key
      → key_cmp e d ≡ Less → key_cmp x y ≡ Less
  across e d x y re rd rx ry h =
      let ne = node_of directory e.key re in
      let nd = node_of directory d.key rd in
      let nx = node_of (global (name_part e.key)) x.key rx in
      let ny = node_of (global (name_part d.key)) y.key ry in
      let sx : nx.node.name ≡ ne.node.name =
      sym (key_name nx.node nx.right) ∙ ap name_part nx.is ∙ own_name (name_part e.key) x.key rx.own
      ∙ ap name_part (sym ne.is) ∙ key_name ne.node ne.right in
      let sy : ny.node.name ≡ nd.node.name =
      sym (key_name ny.node ny.right) ∙ ap name_part ny.is ∙ own_name (name_part d.key) y.key ry.own
      ∙ ap name_part (sym nd.is) ∙ key_name nd.node nd.right in
      let ke = no_subscripts ne.node (ap (λ k. length (subscript_parts k)) ne.is ∙ no_parts e.key re) in
      let kd = no_subscripts nd.node (ap (λ k. length (subscript_parts k)) nd.is ∙ no_parts d.key rd) in
      let less : cmp (key_bytes ne.node) (key_bytes nd.node) ≡ Less = ap₂ cmp ne.is nd.is ∙ h in
      ap₂ cmp (sym nx.is) (sym ny.is)
      ∙ names_across nx.node ny.node ne.node nd.node nx.right ny.right ne.right nd.right sx sy ke kd less

  abbrev AreTrees : List Item → List Tree → Type 0
  AreTrees items globals = AllZip (λ entry tree. tree_at image (root_of entry) ≡ Some tree) items globals

  globals_rise : (items : List Item) (globals : List Tree) → AreTrees items globals → Rising key_cmp items
      → ((e : Item) → IsIn items e → IsRightKey directory e.key)
      → Rising key_cmp (flat_map (λ tree. tree.items) globals)
  globals_rise [] [] zip r right = tt
  globals_rise [] (t ∷ ts) zip r right = absurd zip
  globals_rise (e ∷ es) [] zip r right = absurd zip
  globals_rise (e ∷ es) (t ∷ ts) zip r right =
      Rising_append key_cmp t.items (flat_map (λ tree. tree.items) ts)
      (sound_ordered image (level_at image (root_of e)) (root_of e) t zip.0).rising
      (globals_rise es ts zip.1 r.1 (λ d i. right d (inr i)))
      (λ x y i j.
      let u = in_under image es ts y zip.1 j in
      across e u.entry x y (right e (inl refl)) (right u.entry (inr u.entry_in))
      (right_keys image (level_at image (root_of e)) (root_of e) t small zip.0 x i)
      (right_keys image (level_at image (root_of u.entry)) (root_of u.entry) u.one small u.found y u.item_in)
      (r.0 u.entry u.entry_in))

  pub items_rise : (tree : Tree) (globals : List Tree) → IsSound image tree globals
      → Rising key_cmp (flat_map (λ tree. tree.items) globals)
  items_rise tree globals s =
      globals_rise tree.items globals s.global_trees
      (sound_ordered image (level_at image directory_root) directory_root tree s.directory_tree).rising
      (λ e i. right_keys image (level_at image directory_root) directory_root tree small s.directory_tree e i)

  pub item_node : (tree : Tree) (globals : List Tree) → IsSound image tree globals → (item : Item)
      → IsIn (flat_map (λ tree. tree.items) globals) item → IsNodeKey item.key
  item_node tree globals s item i =
      let u = in_under image tree.items globals item s.global_trees i in
      node_of _ item.key (right_keys image (level_at image (root_of u.entry)) (root_of u.entry) u.one small u.found item
      u.item_in)

-- ---- the entries of a map

abbrev pub Entry : Type 0
Entry = Place × List ℕ

abbrev pub item_of : Entry → Item
item_of e = record { key = key_bytes e.0.node; rest = e.1 }

t_true : (b : Bool) → T b → b ≡ true
t_true true h = refl
t_true false h = absurd h

pub place_key : (p q : Place) → place_cmp p q ≡ cmp (key_bytes p.node) (key_bytes q.node)
place_key p q = sym (keys.order numbers p.node q.node p.right q.right)

and_true : (a b : Bool) → (a && b) ≡ true → (a ≡ true) × (b ≡ true)
and_true true b h = (refl, h)
and_true false b h = absurd (cc)

module _ {K X : Type 0} (R : K → K → Ordering) where
  abbrev entry_cmp : K × X → K × X → Ordering
  entry_cmp a b = R a.0 b.0

  below_each : (x : K) (es : List (K × X)) → below_all R x es ≡ true → (d : K × X) → IsIn es d → R x d.0 ≡ Less
  below_each x [] h d i = absurd i
  below_each x (e ∷ es) h d (inl same) =
      subst (λ (w : K × X). R x w.0 ≡ Less) same
      (Less-is_lt (R x e.0) (and_true (is_lt (R x e.0)) (below_all R x es) h).0)
  below_each x (e ∷ es) h d (inr i) = below_each x es (and_true (is_lt (R x e.0)) (below_all R x es) h).1 d i

  rising_entries : (es : List (K × X)) → is_sorted R es ≡ true → Rising entry_cmp es
  rising_entries [] h = tt
  rising_entries (e ∷ es) h =
      let p = and_true (below_all R e.0 es) (is_sorted R es) h in
      (below_each e.0 es p.0, rising_entries es p.1)

  record Finds (q : K) (v : X) (es : List (K × X)) : Type 0 where
    entry : K × X
    there : IsIn es entry
    ties : R q entry.0 ≡ Equal
    value : entry.1 ≡ v

  found_in : (q : K) (v : X) (es : List (K × X)) → find R q es ≡ Some v → Finds q v es
  found_in q v [] h = absurd (cc)
  found_in q v (e ∷ es) h = by (R q e.0) refl h (found_in q v es)
    where
      by : (o : Ordering) → R q e.0 ≡ o → cond (is_eq o) (Some e.1) (find R q es) ≡ Some v
          → (find R q es ≡ Some v → Finds q v es) → Finds q v (e ∷ es)
      by Equal t k next = record { entry = e; there = inl refl; ties = t; value = cc }
      by Less t k next = let f = next k in
          record { entry = f.entry; there = inr f.there; ties = f.ties; value = f.value }
      by Greater t k next = let f = next k in
          record { entry = f.entry; there = inr f.there; ties = f.ties; value = f.value }

  in_found : IsTotalOrder R → (es : List (K × X)) → Rising entry_cmp es → (e : K × X) → IsIn es e
      → find R e.0 es ≡ Some e.1
  in_found total [] r e i = absurd i
  in_found total (d ∷ ds) r e (inl same) =
      cond-true (is_eq (R e.0 d.0)) _ _ (ap is_eq (ap (R e.0) (ap (λ (w : K × X). w.0) same) ∙ tied_itself total e.0))
      ∙ ap (λ (w : K × X). Some w.1) same
  in_found total (d ∷ ds) r e (inr i) =
      cond-false (is_eq (R e.0 d.0)) _ _ (by (R e.0 d.0) refl) ∙ in_found total ds r.1 e i
    where
      by : (o : Ordering) → R e.0 d.0 ≡ o → is_eq (R e.0 d.0) ≡ false
      by Equal t = absurd (cc (r.0 e i, tied_back total e.0 d.0 t))
      by Less t = ap is_eq t
      by Greater t = ap is_eq t

map_rises : {A B : Type 0} (c : A → A → Ordering) (d : B → B → Ordering) (f : A → B)
    → ((x y : A) → c x y ≡ d (f x) (f y)) → (xs : List A) → Rising c xs → Rising d (map f xs)
map_rises c d f same [] r = tt
map_rises c d f same (x ∷ xs) r = (
  λ y i. let w = in_map_from f xs y i in subst (λ z. d (f x) z ≡ Less) w.2 (sym (same x w.0) ∙ r.0 w.0 w.1),
  map_rises c d f same xs r.1,
)

-- two rising lists with the same elements
same_rising : {A : Type 0} (c : A → A → Ordering) → IsTotalOrder c → (xs ys : List A) → Rising c xs → Rising c ys
    → ((x : A) → IsIn xs x → IsIn ys x) → ((y : A) → IsIn ys y → IsIn xs y) → xs ≡ ys
same_rising c total [] [] r s h k = refl
same_rising c total [] (y ∷ ys) r s h k = absurd (k y (inl refl))
same_rising c total (x ∷ xs) [] r s h k = absurd (h x (inl refl))
same_rising {A} c total (x ∷ xs) (y ∷ ys) r s h k =
    let e = first (h x (inl refl)) (k y (inl refl)) in
    let rest =
    same_rising c total xs ys r.1 s.1 (λ z i. behind_first x y xs ys e r h z i)
    (λ z i. behind_first y x ys xs (sym e) s k z i) in
    λ i. e i ∷ rest i
  where
    itself : (z : A) → c z z ≡ Less → ⊥
    itself z l = cc (tied_itself total z)

    first : IsIn (y ∷ ys) x → IsIn (x ∷ xs) y → x ≡ y
    first (inl e) j = sym e
    first (inr i) (inl e) = e
    first (inr i) (inr j) = absurd (itself x (total.trans x y x (r.0 y j) (s.0 x i)))

    behind_first : (u v : A) (us vs : List A) → u ≡ v → Rising c (u ∷ us)
        → ((z : A) → IsIn (u ∷ us) z → IsIn (v ∷ vs) z) → (z : A) → IsIn us z → IsIn vs z
    behind_first u v us vs e q f z i = elim (f z (inr i)) [
      | inl same ↦ absurd (itself z (subst (λ w. c w z ≡ Less) (e ∙ same) (q.0 z i)))
      | inr j ↦ j
    ]

-- ---- the law

module _ (image : List ℕ) (tree : Tree) (globals : List Tree) (m : Globals) (s : IsSound image tree globals) where
  pub value_in : (kept : List Steps) → AreKept image kept → (item : Item)
      → Contains (flat_map (values_at image) kept) item → IsIn (flat_map (λ t. t.items) globals) item
  value_in kept a item c = values_to image kept globals (all_rooted image tree globals s) a s.global_trees item c

  pub in_value : (kept : List Steps) → AreKept image kept → (item : Item) → IsIn (flat_map (λ t. t.items) globals) item
      → Contains (flat_map (values_at image) kept) item
  in_value kept a item i =
      values_from image kept tree globals (kept_from_apart image kept a (sound_apart image tree globals s))
      s.directory_tree s.global_trees item i

  sorted : Rising (entry_cmp place_cmp) (entries m)
  sorted = rising_entries place_cmp (entries m) (t_true (is_sorted place_cmp (entries m)) (entries_sorted m))

  get_entry : (p : Place) (value : List ℕ) → get m p ≡ Some value → Finds place_cmp p value (entries m)
  get_entry p value h = found_in place_cmp p value (entries m) (sym (get-entries m p) ∙ h)

  entry_get : (e : Entry) → IsIn (entries m) e → get m e.0 ≡ Some e.1
  entry_get e i = get-entries m e.0 ∙ in_found place_cmp place_total (entries m) sorted e i

  -- the item of what a place has
  got_item : (p : Place) (value : List ℕ) → get m p ≡ Some value
      → IsIn (map item_of (entries m)) (record { key = key_bytes p.node; rest = value })
  got_item p value h =
      let f = get_entry p value h in
      let place : f.entry.0 ≡ p = sym (place_same p f.entry.0 f.ties) in
      subst (IsIn (map item_of (entries m))) (λ i. record { key = key_bytes (place i).node; rest = f.value i })
      (in_map item_of (entries m) f.entry f.there)

  item_got : (p : Place) (value : List ℕ)
      → IsIn (map item_of (entries m)) (record { key = key_bytes p.node; rest = value }) → get m p ≡ Some value
  item_got p value i =
      let e = in_map_from item_of (entries m) (record { key = key_bytes p.node; rest = value }) i in
      let key : key_bytes e.0.0.node ≡ key_bytes p.node = ap (λ (w : Item). w.key) e.2 in
      let place : e.0.0 ≡ p =
      place_same e.0.0 p (place_key e.0.0 p ∙ ap (cmp (key_bytes e.0.0.node)) (sym key)
      ∙ cmp-same (key_bytes e.0.0.node)) in
      ap (get m) (sym place) ∙ entry_get e.0 e.1 ∙ ap (λ (w : Item). Some w.rest) e.2

  -- where the entries are the items, the file stands for the map
  pub stands : map item_of (entries m) ≡ flat_map (λ t. t.items) globals → StandsFor image m
  stands h =
      let k = some_kept image in
      record {
        faultless = faultless image tree globals s;
        kept = k.0;
        are_kept = k.1;
        pairs = λ p value. (
          λ g. in_value k.0 k.1 (record {
            key = key_bytes p.node;
            rest =
                value;
          }) (subst (λ l. IsIn l (record { key = key_bytes p.node; rest = value })) h (got_item p value g)),
          λ c. item_got p value (subst (λ l. IsIn l (record { key = key_bytes p.node; rest = value })) (sym h)
              (value_in k.0 k.1 (record { key = key_bytes p.node; rest = value }) c)),
        );
      }

  -- and back, in a file of bytes
  pub stood_for : KeysAreNodes → AreBytes image → StandsFor image m
      → map item_of (entries m) ≡ flat_map (λ t. t.items) globals
  stood_for nodes small st =
      same_rising key_cmp (on_total (λ (i : Item). i.key) cmp_total) (map item_of (entries m))
      (flat_map (λ t. t.items) globals)
      (map_rises (entry_cmp place_cmp) key_cmp item_of (λ e d. place_key e.0 d.0) (entries m) sorted)
      (items_rise nodes image small tree globals s) to from
    where
      to : (item : Item) → IsIn (map item_of (entries m)) item → IsIn (flat_map (λ t. t.items) globals) item
      to item i =
          let e = in_map_from item_of (entries m) item i in
          subst (IsIn (flat_map (λ t. t.items) globals)) e.2
          (value_in st.kept st.are_kept (item_of e.0) ((st.pairs e.0.0 e.0.1).0 (entry_get e.0 e.1)))

      from : (item : Item) → IsIn (flat_map (λ t. t.items) globals) item → IsIn (map item_of (entries m)) item
      from item i =
          let n = item_node nodes image small tree globals s item i in
          let p : Place = record { node = n.node; right = n.right } in
          let same : record { key = key_bytes n.node; rest = item.rest } ≡ item =
          (λ j. record { key = n.is j; rest = item.rest }) in
          let there =
          in_value st.kept st.are_kept (record {
            key = key_bytes n.node;
            rest =
                item.rest;
          }) (subst (IsIn (flat_map (λ t. t.items) globals)) (sym same) i) in
          subst (IsIn (map item_of (entries m))) same (got_item p item.rest ((st.pairs p item.rest).1 there))

pub keys_are_nodes : KeysAreNodes
keys_are_nodes key whole bytes none =
    let n = (key_test key whole (All-from_recursion (λ b. b < 256) key bytes)).0 none in
    record { node = n.0; right = n.1; is = n.2 }

pub readings_agree : (image : List ℕ) → ReadingsAgree image
readings_agree image = record {
  sound = sound image;
  faultless = faultless image;
  pairs = λ bytes tree globals m s. (
    stood_for image tree globals m s keys_are_nodes (recursion_from_All (λ b. b < 256) image bytes),
    stands image tree globals m s,
  );
}
