-- The first node of a global from a bound on, by the first item of its tree.
use Rattle.std.proofs.Common.{◌≡◌, ℕ, List, ◌∷◌, flat_map, map, Contains, Option, None, Some}
use Rattle.std.proofs.Common.{◌⊎◌, inl, inr, refl, sym, ap, subst, ◌∙◌}
use Rattle.std.specs.Prelude.{All, option_map}
use Rattle.std.specs.FinMap.{entries}
use Rattle.std.specs.declared.ops.Bound.{Bound}
use Rattle.std.proofs.lemmas.List.Elements.{recursion_from_All}
use Rattle.m_key.specs.Globals.{Globals, Place}
use Rattle.m_key.specs.Key.{AtMost, key_bytes}
use Rattle.m_key.specs.KeyEnd.{IsKey}
use Rattle.m_key.specs.KeyParts.{name_part}
use Rattle.m_key.specs.Node.{Node}
use Rattle.m_key.specs.Reference.{node_of, place_of}
use Rattle.m_key.specs.declared.reference.Reference.{Reference}
use Rattle.m_key.proofs.PlaceLemmas.{place_same}
use Rattle.m_key.proofs.ZeroLemmas.{cmp-same}
use Rattle.gds_block.specs.Block.{level_of}
use Rattle.gds_block.specs.Item.{Item}
use Rattle.gds_find.specs.Next.{IsBefore, IsFirstFor, IsFrom}
use Rattle.gds_header.specs.Fields.{block_of}
use Rattle.gds_law.specs.Visit.{Visit, directory_root, global_root}
use Rattle.gds_law.proofs.MembershipLemmas.{IsIn, Contains-from_in, in_either, in_from_Contains, in_map, in_map_from}
use Rattle.gds_law.proofs.MembershipLemmas.{in_right}
use Rattle.gds_law.proofs.RisingLemmas.{Rising, Rising-behind}
use Rattle.gds_sound.specs.Questions.{places_of}
use Rattle.gds_sound.specs.Sound.{IsSound, Tree, root_of, tree_at}
use Rattle.gds_sound.specs.Stands.{StandsFor}
use Rattle.gds_sound.proofs.KeyLemmas.{AreBytes}
use Rattle.gds_sound.proofs.OrderLemmas.{cmp, key_cmp, sound_ordered}
use Rattle.gds_sound.proofs.PairLemmas.{item_node, item_of, key_name, keys_are_nodes, place_key, stood_for}
use Rattle.gds_sound.proofs.ValueLemmas.{in_under, under_in}
use Rattle.gds_tree.specs.Keeps.{IsImage}
use Rattle.gds_tree.proofs.TestLemmas.{most_from}
use Rattle.gds_globals.specs.First.{AreBehind, AreOfNodes, Begins, IsFirstNode, IsFirstUnder}
use Rattle.gds_globals.specs.Node.{IsRootOf, name_key}
use Rattle.gds_globals.proofs.FileLemmas.{each_in, entry_key, entry_name, entry_of, one_item, root_is, root_low}
use Rattle.gds_globals.proofs.FileLemmas.{some_same, whole_key}
use Rattle.gds_globals.proofs.NameLemmas.{name_of_key}

-- ---- the first of some items

pub tree_rises : (file : List ℕ) (v : Visit) (t : Tree) → tree_at file v ≡ Some t → Rising key_cmp t.items
tree_rises file v t found = (sound_ordered file (level_of (block_of file v.block)) v t found).rising

pub first_in : (items : List Item) (from : Bound (List ℕ)) (e : Item) → IsFirstFor items from e → IsIn items e
first_in items from e f = subst (λ l. IsIn l e) (sym f.parts) (in_right f.before (e ∷ f.behind) e (inl refl))

-- Each of them stands before the bound, or at or behind the first.
pub before_or_behind : (items : List Item) (from : Bound (List ℕ)) (e : Item) → Rising key_cmp items
    → IsFirstFor items from e → (x : Item) → IsIn items x → IsBefore from x.key ⊎ AtMost e.key x.key
before_or_behind items from e r f x there =
    elim (in_either f.before (e ∷ f.behind) x (subst (λ l. IsIn l x) f.parts there)) [
      | inl i ↦ inl (each_in (λ (y : Item). IsBefore from y.key) f.before
          (recursion_from_All (λ (y : Item). IsBefore from y.key) f.before f.passed) x i)
      | inr j ↦ inr (by j)
    ]
  where
    rest : Rising key_cmp (e ∷ f.behind)
    rest = Rising-behind key_cmp f.before (e ∷ f.behind) (subst (Rising key_cmp) f.parts r)

    by : IsIn (e ∷ f.behind) x → AtMost e.key x.key
    by (inl same) = most_from e.key x.key (inr (ap (λ (w : Item). w.key) same))
    by (inr i) = most_from e.key x.key (inl (rest.0 x i))

pub all_before : (items : List Item) (from : Bound (List ℕ)) → All (λ i. IsBefore from i.key) items → (x : Item)
    → IsIn items x → IsBefore from x.key
all_before items from h x there =
    each_in (λ (y : Item). IsBefore from y.key) items (recursion_from_All (λ (y : Item). IsBefore from y.key) items h) x
    there

-- the item of a node
abbrev pub with_key : Node → List ℕ → Item
with_key n value = record { key = key_bytes n; rest = value }

module _ (file : List ℕ) (i : IsImage file) (d : Tree) (globals : List Tree) (s : IsSound file d globals) where
  abbrev pub all : List Item
  all = flat_map (λ (tree : Tree). tree.items) globals

  -- An entry of the directory has the name of each item.
  pub item_entry : (item : Item) → IsIn all item
      → (rest : List ℕ) × IsIn d.items (record { key = name_key (name_part item.key); rest = rest })
  item_entry item there =
      let u = in_under file d.items globals item s.global_trees there in
      let key : u.entry.key ≡ name_key (name_part item.key) =
      entry_key file i d s.directory_tree u.entry u.entry_in
      ∙ ap name_key (sym (entry_name file i d s.directory_tree u.entry u.entry_in u.one u.found item u.item_in)) in
      (u.entry.rest, subst (IsIn d.items) (λ j. record { key = key j; rest = u.entry.rest }) u.entry_in)

  -- ---- the tree of a global

  module _ (p : Place) (root : ℕ) (leads : IsRootOf d.items (name_key p.node.name) (Some root)) (t : Tree)
      (found : tree_at file (global_root root p.node.name) ≡ Some t) where
    abbrev own : Item
    own = entry_of p leads.0

    own_in : IsIn d.items own
    own_in = in_from_Contains d.items own leads.1

    own_root : tree_at file (root_of own) ≡ Some t
    own_root = ap (tree_at file) (root_is file i d globals s p leads.0 root leads.2) ∙ found

    -- Its items are those with its name.
    pub tree_all : (item : Item) → IsIn t.items item → IsIn all item
    tree_all item there =
        under_in file d.items globals item s.global_trees (record {
          entry = own;
          entry_in = own_in;
          one = t;
          found = own_root;
          item_in = there;
        })

    pub tree_name : (item : Item) → IsIn t.items item → name_part item.key ≡ p.node.name
    tree_name item there =
        entry_name file i d s.directory_tree own own_in t own_root item there
        ∙ name_of_key p.node.name p.right.name

    pub all_tree : (item : Item) → IsIn all item → name_part item.key ≡ p.node.name → IsIn t.items item
    all_tree item there name =
        let u = in_under file d.items globals item s.global_trees there in
        let key : u.entry.key ≡ name_key p.node.name =
        entry_key file i d s.directory_tree u.entry u.entry_in
        ∙ ap name_key (sym (entry_name file i d s.directory_tree u.entry u.entry_in u.one u.found item u.item_in)
        ∙ name) in
        let entry : u.entry ≡ own =
        one_item d.items (tree_rises file directory_root d s.directory_tree) u.entry own u.entry_in own_in key in
        let tree : u.one ≡ t =
        some_same u.one t (sym u.found ∙ ap (λ w. tree_at file (root_of w)) entry ∙ own_root) in
        subst (λ (w : Tree). IsIn w.items item) tree u.item_in

    pub tree_key : (item : Item) → IsIn t.items item → IsKey item.key
    tree_key item there =
        whole_key file i (global_root root p.node.name) t (root_low file i d globals s p root leads) found item there

  -- ---- the places of the map for which the file stands

  module _ (small : AreBytes file) (m : Globals) (st : StandsFor file m) where
    same : map item_of (entries m) ≡ all
    same = stood_for file d globals m s keys_are_nodes small st

    pub place_item : (q : Place) → IsIn (places_of m) q → (value : List ℕ) × IsIn all (with_key q.node value)
    place_item q there =
        let e = in_map_from (λ (x : Place × List ℕ). x.0) (entries m) q there in
        let item = subst (λ l. IsIn l (item_of e.0)) same (in_map item_of (entries m) e.0 e.1) in
        (e.0.1, subst (λ (x : Place). IsIn all (with_key x.node e.0.1)) e.2 item)

    pub item_place : (q : Place) (value : List ℕ) → IsIn all (with_key q.node value) → IsIn (places_of m) q
    item_place q value there =
        let e = in_map_from item_of (entries m) (with_key q.node value) (subst (λ l. IsIn l (with_key q.node value))
        (sym same) there) in
        let key : key_bytes e.0.0.node ≡ key_bytes q.node = ap (λ (w : Item). w.key) e.2 in
        let place : e.0.0 ≡ q =
        place_same e.0.0 q (place_key e.0.0 q ∙ ap (cmp (key_bytes e.0.0.node)) (sym key)
        ∙ cmp-same (key_bytes e.0.0.node)) in
        subst (IsIn (places_of m)) place (in_map (λ (x : Place × List ℕ). x.0) (entries m) e.0 e.1)

    pub nowhere : (p : Place) → IsRootOf d.items (name_key p.node.name) None → (q : Place) → Contains (places_of m) q
        → q.node.name ≡ p.node.name → ⊥
    nowhere p none q there name =
        let item = place_item q (in_from_Contains (places_of m) q there) in
        let e = item_entry (with_key q.node item.0) item.1 in
        let key : name_key (name_part (key_bytes q.node)) ≡ name_key p.node.name =
        ap name_key (key_name q.node q.right ∙ name) in
        none e.0 (Contains-from_in d.items _ (subst (λ k. IsIn d.items (record { key = k; rest = e.0 })) key e.1))

    module _ (p : Place) (root : ℕ) (leads : IsRootOf d.items (name_key p.node.name) (Some root)) (t : Tree)
        (found : tree_at file (global_root root p.node.name) ≡ Some t) where
      record IsThere (q : Place) : Type 0 where
        value : List ℕ
        there : IsIn t.items (with_key q.node value)
        is_key : IsKey (key_bytes q.node)

      is_there : (q : Place) → Contains (places_of m) q → q.node.name ≡ p.node.name → IsThere q
      is_there q there name =
          let item = place_item q (in_from_Contains (places_of m) q there) in
          let in_tree =
          all_tree p root leads t found (with_key q.node item.0) item.1 (key_name q.node q.right ∙ name) in
          record {
            value = item.0;
            there = in_tree;
            is_key = tree_key p root leads t found (with_key q.node item.0) in_tree;
          }

      behind : (from : Bound (List ℕ)) (e : Item) → IsFirstFor t.items from e → (n : Node) → key_bytes n ≡ e.key
          → AreBehind m p.node.name from n
      behind from e f n key = λ q there name.
          let x = is_there q there name in (
            x.is_key,
            elim (before_or_behind t.items from e (tree_rises file (global_root root p.node.name) t found) f
                (with_key q.node x.value) x.there) [
                  | inl before ↦ inl before
                  | inr most ↦ inr (subst (λ k. AtMost k (key_bytes q.node)) (sym key) most)
                ],
          )

      pub first_node : (from : Bound (List ℕ)) (front : List ℕ) (o : Option Reference)
          → IsFirstUnder t.items from front (option_map node_of o)
          → IsFirstNode m p.node.name from front (option_map place_of o)
      first_node from front (Some r) h =
          let e : Item = with_key (node_of r) h.0 in
          let in_tree = first_in t.items from e h.1 in
          let there = item_place (place_of r) h.0 (tree_all p root leads t found e in_tree) in (
            Contains-from_in (places_of m) (place_of r) there,
            sym (key_name (node_of r) (place_of r).right) ∙ tree_name p root leads t found e in_tree,
            tree_key p root leads t found e in_tree,
            h.1.from_there,
            h.2,
            behind from e h.1 (node_of r) refl,
          )
      first_node from front None (inl all) = inl (λ q there name.
          let x = is_there q there name in
          (x.is_key, all_before t.items from all (with_key q.node x.value) x.there))
      first_node from front None (inr (e, f, other)) =
          let in_tree = first_in t.items from e f in
          let n = item_node keys_are_nodes file small d globals s e (tree_all p root leads t found e in_tree) in
          inr (
            n.node,
            n.right,
            subst (IsFrom from) (sym n.is) f.from_there,
            (λ begins. other (subst (Begins front) n.is begins)),
            behind from e f n.node n.is,
          )

  pub are_of_nodes : AreBytes file → (p : Place) (root : ℕ)
      → (leads : IsRootOf d.items (name_key p.node.name) (Some root)) (t : Tree)
      → tree_at file (global_root root p.node.name) ≡ Some t → AreOfNodes t.items
  are_of_nodes small p root leads t found e there =
      let n = item_node keys_are_nodes file small d globals s e
      (tree_all p root leads t found e (in_from_Contains t.items e there)) in
      (n.node, n.right, n.is)
