-- The next name that a map has, by the entries of the directory.
use Rattle.std.proofs.Common.{◌≡◌, ℕ, true, List, [], ◌∷◌, Option, None, Some, Ordering, Less, Equal}
use Rattle.std.proofs.Common.{Bool, Greater, ◌⊎◌, inl, inr, refl, sym, ap, ap₂, subst, ◌∙◌, is_lt, is_le}
use Rattle.std.specs.Prelude.{find, option_map}
use Rattle.std.specs.Ordering.{nat_cmp, ordering_then}
use Rattle.std.specs.Cmp.Lexicographic.{slice_cmp}
use Rattle.std.specs.declared.ops.Bound.{Bound}
use Rattle.std.specs.declared.ops.Bound.TheVariants.{Excluded}
use Rattle.m_key.specs.Collation.{reference_cmp, subscript_cmp}
use Rattle.m_key.specs.Globals.{Globals, Place, place_cmp}
use Rattle.m_key.specs.Key.{AtMost, Below, key_bytes}
use Rattle.m_key.specs.KeyParts.{name_part}
use Rattle.m_key.specs.Node.{IsNode, Node}
use Rattle.m_key.specs.Reference.{name_bytes, node_of, place_of}
use Rattle.m_key.specs.declared.reference.Reference.{Reference}
use Rattle.m_key.proofs.KeyLemmas as keys
use Rattle.m_key.proofs.NumberLemmas.{numbers}
use Rattle.gds_block.specs.Fields.{u32_at}
use Rattle.gds_block.specs.Item.{Item}
use Rattle.gds_find.specs.Next.{IsFirstFor}
use Rattle.gds_law.specs.Visit.{directory, directory_root, global, global_root}
use Rattle.gds_law.proofs.MembershipLemmas.{IsIn, Contains-from_in, in_from_Contains}
use Rattle.gds_sound.specs.Questions.{name, next_name, places_of}
use Rattle.gds_sound.specs.Sound.{IsSound, Tree, tree_at}
use Rattle.gds_sound.specs.Stands.{StandsFor}
use Rattle.gds_sound.proofs.BlockLemmas.{level_at}
use Rattle.gds_sound.proofs.KeyLemmas.{AreBytes, right_keys}
use Rattle.gds_sound.proofs.OrderLemmas.{cmp}
use Rattle.gds_sound.proofs.PairLemmas.{IsNodeKey, item_node, key_name, keys_are_nodes}
use Rattle.gds_tree.specs.Keeps.{IsImage}
use Rattle.gds_tree.proofs.TestLemmas.{less_below, most_cases, most_from}
use Rattle.gds_globals.specs.First.{AreOfNodes, IsFirstUnder}
use Rattle.gds_globals.specs.Node.{IsRootOf, name_key}
use Rattle.gds_globals.proofs.FileLemmas.{entry_key, global_tree, items_at, root_low}
use Rattle.gds_globals.proofs.FirstNodeLemmas.{all_before, before_or_behind, first_in, item_entry, item_place, place_item}
use Rattle.gds_globals.proofs.FirstNodeLemmas.{tree_all, tree_name, tree_rises, with_key}
use Rattle.gds_globals.proofs.LeastLemmas.{IsLeast, found_least}
use Rattle.gds_globals.proofs.NameLemmas.{bare, bare_key, bare_right, name_of_key}
use Rattle.gds_globals.proofs.RangeLemmas.{not_both}
use Rattle.gds_globals.proofs.SelectLemmas.{places_rise}

-- ---- names and their keys

then_equal : (o : Ordering) → ordering_then o Equal ≡ o
then_equal Less = refl
then_equal Equal = refl
then_equal Greater = refl

names_order : (p q : Place) → cmp (name_key p.node.name) (name_key q.node.name) ≡ cmp p.node.name q.node.name
unfolding reference_cmp
names_order p q =
    ap₂ cmp (sym (bare_key p.node.name)) (sym (bare_key q.node.name))
    ∙ keys.order numbers (bare p.node.name) (bare q.node.name) (bare_right p.node.name p.right.name)
    (bare_right q.node.name q.right.name)
    ∙ then_equal (cmp p.node.name q.node.name)

first_most : (o p : Ordering) → ordering_then o p ≡ Less → is_le o ≡ true
first_most Less p e = refl
first_most Equal p e = refl
first_most Greater p e = absurd (cc)

names_most : (p q : Place) → (p ≡ q) ⊎ (place_cmp p q ≡ Less) → AtMost p.node.name q.node.name
unfolding reference_cmp
names_most p q (inl e) = most_from p.node.name q.node.name (inr (ap (λ (x : Place). x.node.name) e))
names_most p q (inr less) =
    first_most (cmp p.node.name q.node.name) (slice_cmp subscript_cmp p.node.subscripts q.node.subscripts) less

both_most : (a b : List ℕ) → AtMost a b → AtMost b a → a ≡ b
both_most a b h k =
    elim (most_cases a b h) [ inl less ↦ absurd (not_both b a k (less_below a b less)) | inr same ↦ same ]

module _ (file : List ℕ) (i : IsImage file) (d : Tree) (globals : List Tree) (s : IsSound file d globals)
    (small : AreBytes file) where
  entry_node : (e : Item) → IsIn d.items e → IsNodeKey e.key
  entry_node e there =
      let r = right_keys file (level_at file directory_root) directory_root d small s.directory_tree e there in
      keys_are_nodes e.key r.whole r.bytes r.right

  pub entries_are_nodes : AreOfNodes d.items
  entries_are_nodes e there =
      let n = entry_node e (in_from_Contains d.items e there) in
      (n.node, n.right, n.is)

  named : (e : Item) → IsIn d.items e → (n : Node) → IsNode n → key_bytes n ≡ e.key → e.key ≡ name_key n.name
  named e there n right is =
      entry_key file i d s.directory_tree e there ∙ ap name_key (ap name_part (sym is) ∙ key_name n right)

  module _ (m : Globals) (st : StandsFor file m) where
    -- Each entry names a place that the map has.
    record HasPlace (e : Item) : Type 0 where
      place : Place
      there : IsIn (places_of m) place
      key : name_key place.node.name ≡ e.key

    one_of : (p : Place) (e : Item) → e.key ≡ name_key p.node.name → (root : ℕ)
        → (leads : IsRootOf d.items (name_key p.node.name) (Some root)) (t : Tree)
        → tree_at file (global_root root p.node.name) ≡ Some t → (items : List Item) → t.items ≡ items → HasPlace e
    one_of p e key root leads t found [] none =
        let v = global_root root p.node.name in
        let a = items_at file i v t (root_low file i d globals s p root leads) found in
        let role : global p.node.name ≡ directory = (a.none none).role in
        absurd (cc)
    one_of p e key root leads t found (x ∷ xs) some =
        let there : IsIn t.items x = subst (λ l. IsIn l x) (sym some) (inl refl) in
        let all = tree_all file i d globals s p root leads t found x there in
        let n = item_node keys_are_nodes file small d globals s x all in
        let q : Place = record { node = n.node; right = n.right } in
        let same : x ≡ with_key q.node x.rest = λ j. record { key = sym n.is j; rest = x.rest } in
        let own : n.node.name ≡ p.node.name =
        sym (key_name n.node n.right) ∙ ap name_part n.is ∙ tree_name file i d globals s p root leads t found x there in
        record {
          place = q;
          there = item_place file i d globals s small m st q x.rest (subst (IsIn _) same all);
          key = ap name_key own ∙ sym key;
        }

    has_place : (e : Item) → IsIn d.items e → HasPlace e
    has_place e there =
        let n = entry_node e there in
        let p : Place = record { node = n.node; right = n.right } in
        let key = named e there n.node n.right n.is in
        let root : ℕ = u32_at e.rest 0 in
        let own : IsIn d.items (record { key = name_key n.node.name; rest = e.rest }) =
        subst (IsIn d.items) (λ j. record { key = key j; rest = e.rest }) there in
        let leads : IsRootOf d.items (name_key p.node.name) (Some root) =
        (e.rest, Contains-from_in d.items _ own, refl) in
        let t = global_tree file i d globals s p root leads in
        one_of p e key root leads t.0 t.1 t.0.items refl

    module _ (p : Place) where
      abbrev from : Bound (List ℕ)
      from = Excluded (name_key p.node.name)

      abbrev above : Place → Bool
      above q = is_lt (slice_cmp nat_cmp p.node.name q.node.name)

      key_above : (q : Place) → above q ≡ true → Below (name_key p.node.name) (name_key q.node.name)
      key_above q pass = ap is_lt (names_order p q) ∙ pass

      entry_in : (q : Place) → IsIn (places_of m) q
          → (rest : List ℕ) × IsIn d.items (record { key = name_key q.node.name; rest = rest })
      entry_in q there =
          let item = place_item file i d globals s small m st q there in
          let e = item_entry file i d globals s (with_key q.node item.0) item.1 in
          (e.0, subst (λ k. IsIn d.items (record { key = k; rest = e.0 })) (ap name_key (key_name q.node q.right)) e.1)

      none_before : (q : Place) → above q ≡ true → AtMost (name_key q.node.name) (name_key p.node.name) → ⊥
      none_before q pass most = not_both (name_key q.node.name) (name_key p.node.name) most (key_above q pass)

      -- the place of a first entry
      record IsNext (r : Reference) : Type 0 where
        place : Place
        there : IsIn (places_of m) place
        passes : above place ≡ true
        own : place.node.name ≡ name_bytes r.name

      next_place : (r : Reference) (rest : List ℕ) → IsFirstFor d.items from (with_key (node_of r) rest) → IsNext r
      next_place r rest f =
          let e : Item = with_key (node_of r) rest in
          let there = first_in d.items from e f in
          let h = has_place e there in
          let key : e.key ≡ name_key (name_bytes r.name) = named e there (node_of r) (place_of r).right refl in
          let below : Below (name_key p.node.name) (name_key h.place.node.name) =
          subst (Below (name_key p.node.name)) (sym h.key) f.from_there in
          record {
            place = h.place;
            there = h.there;
            passes = ap is_lt (sym (names_order p h.place)) ∙ below;
            own = sym (name_of_key h.place.node.name h.place.right.name) ∙ ap name_part (h.key ∙ key)
                ∙ name_of_key (name_bytes r.name) (place_of r).right.name;
          }

      least_name : (r : Reference) (rest : List ℕ) → IsFirstFor d.items from (with_key (node_of r) rest) → (q : Place)
          → IsLeast place_cmp above (places_of m) (Some q) → q.node.name ≡ name_bytes r.name
      least_name r rest f q least =
          let n = next_place r rest f in
          let e : Item = with_key (node_of r) rest in
          let key : e.key ≡ name_key (name_bytes r.name) =
          named e (first_in d.items from e f) (node_of r) (place_of r).right refl in
          let low = names_most q n.place (least.2 n.place n.there n.passes) in
          let entry = entry_in q least.0 in
          elim (before_or_behind d.items from e (tree_rises file directory_root d s.directory_tree) f
          (record { key = name_key q.node.name; rest = entry.0 }) entry.1) [
            | inl before ↦ absurd (none_before q least.1 before)
            | inr most ↦ both_most q.node.name (name_bytes r.name)
                (subst (AtMost q.node.name) n.own low)
                (ap is_le (sym (names_order (place_of r) q)) ∙ subst (λ k. AtMost k (name_key q.node.name)) key most)
          ]

      by : (o : Option Reference) → IsFirstUnder d.items from [] (option_map node_of o) → (x : Option Place)
          → IsLeast place_cmp above (places_of m) x
          → option_map (λ q. name q.node.name) x ≡ option_map (λ r. name (name_bytes r.name)) o
      by (Some r) h (Some q) least = ap (λ n. Some (name n)) (least_name r h.0 h.1 q least)
      by (Some r) h None least =
          let n = next_place r h.0 h.1 in
          absurd (least n.place n.there n.passes)
      by None (inl all) (Some q) least =
          let entry = entry_in q least.0 in
          absurd (none_before q least.1 (all_before d.items from all
          (record { key = name_key q.node.name; rest = entry.0 }) entry.1))
      by None (inr (e, f, other)) (Some q) least = absurd (other (e.key, refl))
      by None h None least = refl

      pub next_is : (o : Option Reference) → IsFirstUnder d.items from [] (option_map node_of o)
          → next_name m p.node.name ≡ option_map (λ r. name (name_bytes r.name)) o
      next_is o h =
          by o h (find above (places_of m)) (found_least place_cmp above (places_of m) (places_rise m))
