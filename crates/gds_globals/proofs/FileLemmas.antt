-- The entries of the directory of a faultless file, and the items of the trees that they lead to.
use Rattle.std.proofs.Common.{◌≡◌, ℕ, ◌<◌, List, [], ◌∷◌, Option, None, Some, Less}
use Rattle.std.proofs.Common.{inl, inr, refl, sym, ap, subst, ◌∙◌, arith}
use Rattle.std.specs.FinMap.{get}
use Rattle.std.specs.List.{AllByRecursion, AllZip}
use Rattle.m_key.specs.Globals.{Globals, Place}
use Rattle.m_key.specs.Key.{key_bytes}
use Rattle.m_key.specs.KeyEnd.{IsKey}
use Rattle.m_key.specs.KeyParts.{name_part}
use Rattle.m_key.proofs.ZeroLemmas.{cmp-same}
use Rattle.gds_block.specs.Block.{level_of}
use Rattle.gds_block.specs.Fields.{u32_at}
use Rattle.gds_block.specs.Item.{Item}
use Rattle.gds_header.specs.Fields.{block_of, fields_of}
use Rattle.gds_law.specs.Visit.{Visit, directory_root, global_root}
use Rattle.gds_law.proofs.MembershipLemmas.{IsIn, in_from_Contains, Contains-from_in}
use Rattle.gds_law.proofs.RisingLemmas.{Rising}
use Rattle.gds_pack.specs.Packable.{AreLeaves}
use Rattle.gds_sound.specs.Stands.{StandsFor}
use Rattle.gds_sound.specs.Sound.{Tree, IsSound, root_of, tree_at}
use Rattle.gds_sound.proofs.OrderLemmas.{key_cmp, sound_ordered}
use Rattle.gds_sound.proofs.PairLemmas.{in_value, key_name, value_in}
use Rattle.gds_sound.proofs.ValueLemmas.{IsUnder, in_under, under_in}
use Rattle.gds_tree.specs.Keeps.{IsImage}
use Rattle.gds_tree.specs.Lawful.{IsLawfulEntry, IsLawfulKey, IsPointer}
use Rattle.gds_tree.proofs.FineLemmas.{some_key}
use Rattle.gds_tree.proofs.ItemLemmas.{AreItems, items_of_tree}
use Rattle.gds_find.specs.Found.{IsValueOf}
use Rattle.gds_globals.specs.Node.{IsRootOf, name_key}
use Rattle.gds_globals.proofs.NameLemmas.{name_of_key, plain_key}

pub each_in : {A : Type 0} (P : A → Type 0) (xs : List A) → AllByRecursion P xs → (x : A) → IsIn xs x → P x
each_in P [] h x i = absurd i
each_in P (y ∷ ys) h x (inl e) = subst P e h.0
each_in P (y ∷ ys) h x (inr i) = each_in P ys h.1 x i

keys_whole : (p : List ℕ) (es : List Item) → AreLeaves p es → (e : Item) → IsIn es e → IsKey e.key
keys_whole p [] h e i = absurd i
keys_whole p (x ∷ xs) h e (inl same) = subst (λ (w : Item). IsKey w.key) same h.0.is_key
keys_whole p (x ∷ xs) h e (inr i) = keys_whole x.key xs h.1 e i

-- items that rise by their keys are one where their keys are
pub one_item : (xs : List Item) → Rising key_cmp xs → (a b : Item) → IsIn xs a → IsIn xs b → a.key ≡ b.key → a ≡ b
one_item [] r a b i j same = absurd i
one_item (x ∷ xs) r a b (inl e) (inl f) same = sym e ∙ f
one_item (x ∷ xs) r a b (inr i) (inr j) same = one_item xs r.1 a b i j same
one_item (x ∷ xs) r a b (inl e) (inr j) same = absurd (never x b (ap (λ (w : Item). w.key) e ∙ same) (r.0 b j))
  where
    never : (x b : Item) → x.key ≡ b.key → key_cmp x b ≡ Less → ⊥
    never x b e less = cc (cmp-same x.key)
one_item (x ∷ xs) r a b (inr i) (inl f) same = absurd (never x a (ap (λ (w : Item). w.key) f ∙ sym same) (r.0 a i))
  where
    never : (x b : Item) → x.key ≡ b.key → key_cmp x b ≡ Less → ⊥
    never x b e less = cc (cmp-same x.key)

pub zip_in : {A B : Type 0} (R : A → B → Type 0) (xs : List A) (ys : List B) → AllZip R xs ys → (x : A) → IsIn xs x
    → (y : B) × R x y
zip_in R [] ys h x i = absurd i
zip_in R (z ∷ xs) [] h x i = absurd h
zip_in R (z ∷ xs) (y ∷ ys) h x (inl e) = (y, subst (λ w. R w y) e h.0)
zip_in R (z ∷ xs) (y ∷ ys) h x (inr i) = zip_in R xs ys h.1 x i

pub some_same : (s t : Tree) → Some s ≡ Some t → s ≡ t
some_same s t e = cc

-- ---- one tree

module _ (file : List ℕ) (i : IsImage file) where
  pub items_at : (v : Visit) (t : Tree) → v.block < (fields_of file).total → tree_at file v ≡ Some t
      → AreItems (fields_of file) v t.items
  items_at v t low found = items_of_tree file i (level_of (block_of file v.block)) v t low found

  pub whole_key : (v : Visit) (t : Tree) → v.block < (fields_of file).total → tree_at file v ≡ Some t
      → (e : Item) → IsIn t.items e → IsKey e.key
  whole_key v t low found e there = keys_whole [] t.items (items_at v t low found).leaves e there

  lawful_entry : (v : Visit) (t : Tree) → v.block < (fields_of file).total → tree_at file v ≡ Some t
      → (e : Item) → IsIn t.items e → IsLawfulEntry (fields_of file) v 0 e
  lawful_entry v t low found e there =
      each_in (IsLawfulEntry (fields_of file) v 0) t.items (items_at v t low found).each e there

  lawful_key : (v : Visit) (t : Tree) → v.block < (fields_of file).total → tree_at file v ≡ Some t
      → (e : Item) → IsIn t.items e → IsLawfulKey (fields_of file) v 0 e.key
  lawful_key v t low found e there =
      (lawful_entry v t low found e there).key (some_key e.key (whole_key v t low found e there))

  pub directory_low : directory_root.block < (fields_of file).total
  directory_low = omega (arith, i.limits.total_from)

  -- entries of the directory are the names of globals and pointers
  pub entry_points : (t : Tree) → tree_at file directory_root ≡ Some t → (e : Item) → IsIn t.items e
      → IsPointer (fields_of file) e.rest
  entry_points t found e there = (lawful_entry directory_root t directory_low found e there).rest

  pub entry_key : (t : Tree) → tree_at file directory_root ≡ Some t → (e : Item) → IsIn t.items e
      → e.key ≡ name_key (name_part e.key)
  entry_key t found e there =
      plain_key e.key (whole_key directory_root t directory_low found e there)
      (lawful_key directory_root t directory_low found e there).role

  pub entry_name : (d : Tree) → tree_at file directory_root ≡ Some d → (e : Item) → IsIn d.items e
      → (t : Tree) → tree_at file (root_of e) ≡ Some t → (item : Item) → IsIn t.items item
      → name_part item.key ≡ name_part e.key
  entry_name d is e there t found item in_t =
      (lawful_key (root_of e) t (entry_points d is e there).leads.within found item in_t).role

-- ---- the global of a node

-- its entry in the directory
abbrev pub entry_of : Place → List ℕ → Item
entry_of p rest = record { key = name_key p.node.name; rest = rest }

module _ (file : List ℕ) (i : IsImage file) (d : Tree) (globals : List Tree) (s : IsSound file d globals) (p : Place)
  where
    pub root_is : (rest : List ℕ) (root : ℕ) → u32_at rest 0 ≡ root
        → root_of (entry_of p rest) ≡ global_root root p.node.name
    root_is rest root e =
        ap (λ n. global_root n (name_part (name_key p.node.name))) e
        ∙ ap (global_root root) (name_of_key p.node.name p.right.name)

    pub global_tree : (root : ℕ) → IsRootOf d.items (name_key p.node.name) (Some root)
        → (t : Tree) × (tree_at file (global_root root p.node.name) ≡ Some t)
    global_tree root (rest, there, leads) =
        let t = zip_in (λ (e : Item) (t : Tree). tree_at file (root_of e) ≡ Some t) d.items globals s.global_trees
        (entry_of p rest) (in_from_Contains d.items (entry_of p rest) there) in
        (t.0, ap (tree_at file) (sym (root_is rest root leads)) ∙ t.1)

    pub root_low : (root : ℕ) → IsRootOf d.items (name_key p.node.name) (Some root) → root < (fields_of file).total
    root_low root (rest, there, leads) =
        let in_d = in_from_Contains d.items (entry_of p rest) there in
        let points = entry_points file i d s.directory_tree (entry_of p rest) in_d in
        omega (arith, points.leads.within, leads)

-- ---- a node

module _ (file : List ℕ) (i : IsImage file) (d : Tree) (globals : List Tree) (s : IsSound file d globals) (m : Globals)
    (st : StandsFor file m) (p : Place) where
  -- where the node has a value, an entry with its name leads to the tree with the item
  under : (value : List ℕ) → get m p ≡ Some value → IsUnder file d.items (record {
    key = key_bytes p.node;
    rest = value;
  })
  under value has =
      in_under file d.items globals _ s.global_trees
      (value_in file d globals m s st.kept st.are_kept _ ((st.pairs p value).0 has))

  under_name : (value : List ℕ) (has : get m p ≡ Some value) → (under value has).entry.key ≡ name_key p.node.name
  under_name value has =
      let u = under value has in
      entry_key file i d s.directory_tree u.entry u.entry_in
      ∙ ap name_key (sym (entry_name file i d s.directory_tree u.entry u.entry_in u.one u.found _ u.item_in)
      ∙ key_name p.node p.right)

  pub no_global : IsRootOf d.items (name_key p.node.name) None → get m p ≡ None
  no_global none = by (get m p) refl
    where
      by : (o : Option (List ℕ)) → get m p ≡ o → o ≡ None
      by None e = refl
      by (Some value) e =
          let u = under value e in
          let entry : u.entry ≡ record { key = name_key p.node.name; rest = u.entry.rest } =
          (λ j. record { key = under_name value e j; rest = u.entry.rest }) in
          absurd (none u.entry.rest (Contains-from_in d.items _ (subst (IsIn d.items) entry u.entry_in)))

  pub value_is : (root : ℕ) → IsRootOf d.items (name_key p.node.name) (Some root) → (t : Tree)
      → tree_at file (global_root root p.node.name) ≡ Some t → (value : Option (List ℕ))
      → IsValueOf t.items (key_bytes p.node) value → get m p ≡ value
  value_is root (rest, there, leads) t found (Some value) has =
      let in_d = in_from_Contains d.items (entry_of p rest) there in
      let item : Item = record { key = key_bytes p.node; rest = value } in
      (st.pairs p value).1 (in_value file d globals m s st.kept st.are_kept item
      (under_in file d.items globals item s.global_trees (record {
        entry = entry_of p rest;
        entry_in = in_d;
        one = t;
        found = ap (tree_at file) (root_is file i d globals s p rest root leads) ∙ found;
        item_in = in_from_Contains t.items item has;
      })))
  value_is root (rest, there, leads) t found None none = by (get m p) refl
    where
      by : (o : Option (List ℕ)) → get m p ≡ o → o ≡ None
      by None e = refl
      by (Some value) e =
          let u = under value e in
          let in_d = in_from_Contains d.items (entry_of p rest) there in
          let level : ℕ = level_of (block_of file directory_root.block) in
          let rises = (sound_ordered file level directory_root d s.directory_tree).rising in
          let entry : u.entry ≡ entry_of p rest = one_item d.items rises u.entry (entry_of p rest) u.entry_in in_d
          (under_name value e) in
          let tree : u.one ≡ t = some_same u.one t (sym u.found ∙ ap (λ w. tree_at file (root_of w)) entry
          ∙ ap (tree_at file) (root_is file i d globals s p rest root leads) ∙ found) in
          let item : Item = record { key = key_bytes p.node; rest = value } in
          absurd (none value (Contains-from_in t.items item (subst (λ (w : Tree). IsIn w.items item) tree u.item_in)))
