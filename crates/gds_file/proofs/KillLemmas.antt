-- A KILL takes items of the tree of its node's global alone.
use Rattle.std.proofs.Common.{◌≡◌, ℕ, ◌<◌, Bool, true, false, not, List, [], ◌∷◌, ◌++◌, length, filter}
use Rattle.std.proofs.Common.{Some, Less, inl, inr, refl, sym, ap, subst, ◌∙◌}
use Rattle.std.proofs.lemmas.Bool.{false_from_ne_true, cond-true, not_from_false}
use Rattle.std.proofs.lemmas.List.Elements.{filter-append, recursion_from_All}
use Rattle.m_key.specs.Key.{key_bytes}
use Rattle.m_key.specs.KeyParts.{name_part, subscript_parts}
use Rattle.m_key.specs.Globals.{Place}
use Rattle.gds_block.specs.Item.{Item}
use Rattle.gds_law.specs.Visit.{TreeRole, directory, global, directory_root}
use Rattle.gds_law.proofs.MembershipLemmas.{IsIn, in_left, in_right}
use Rattle.gds_law.proofs.RisingLemmas.{Rising, rises, Rising-behind, not_below_itself}
use Rattle.gds_sound.specs.Sound.{Tree, tree_at, root_of, IsSound}
use Rattle.gds_sound.proofs.BlockLemmas.{level_at}
use Rattle.gds_sound.proofs.ValueLemmas.{in_under}
use Rattle.gds_sound.proofs.OrderLemmas.{cmp, cmp_total, cmp_exact, key_cmp, sound_ordered}
use Rattle.gds_sound.proofs.KeyLemmas.{AreBytes, IsRightKey, right_keys}
use Rattle.gds_sound.proofs.SoundLemmas.{AreTrees}
use Rattle.gds_sound.proofs.PairLemmas.{IsNodeKey, key_name, no_subscripts, own_name, no_parts, keys_are_nodes}
use Rattle.gds_file.specs.Change.{items_in, is_within, items_outside}
use Rattle.gds_file.specs.ChangeLaws.{KillInOneTree, KillOfOneTree}
use Rattle.gds_file.proofs.FileLemmas.{trees_split}
use Rattle.gds_file.proofs.ChangeLemmas.{within_leads, items_parted, items_joined}

-- what isn't taken stays
filter_all : {A : Type 0} (test : A → Bool) (xs : List A) → ((x : A) → IsIn xs x → test x ≡ true) → filter test xs ≡ xs
filter_all test [] h = refl
filter_all test (x ∷ xs) h =
    cond-true (test x) _ _ (h x (inl refl)) ∙ ap (λ l. x ∷ l) (filter_all test xs (λ y i. h y (inr i)))

module _ (image : List ℕ) (small : AreBytes image) (top : Tree) (globals : List Tree)
    (s : IsSound image top globals) where
  node_of : (role : TreeRole) (key : List ℕ) → IsRightKey role key → IsNodeKey key
  node_of role key r = keys_are_nodes key r.whole r.bytes r.right

  entry_key : (e : Item) → IsIn top.items e → IsRightKey directory e.key
  entry_key e i = right_keys image (level_at image directory_root) directory_root top small s.directory_tree e i

  -- Two entries of one name have one key.
  same_entry : (d e : Item) → IsIn top.items d → IsIn top.items e → name_part d.key ≡ name_part e.key → d.key ≡ e.key
  same_entry d e i j same =
      let kd = entry_key d i in
      let ke = entry_key e j in
      let nd = node_of directory d.key kd in
      let ne = node_of directory e.key ke in
      let names : nd.node.name ≡ ne.node.name =
      sym (key_name nd.node nd.right) ∙ ap name_part nd.is ∙ same ∙ ap name_part (sym ne.is)
      ∙ key_name ne.node ne.right in
      let none_d = no_subscripts nd.node (ap (λ k. length (subscript_parts k)) nd.is ∙ no_parts d.key kd) in
      let none_e = no_subscripts ne.node (ap (λ k. length (subscript_parts k)) ne.is ∙ no_parts e.key ke) in
      let nodes : nd.node ≡ ne.node =
      (λ k. record { name = names k; subscripts = (none_d ∙ sym none_e) k }) in
      sym nd.is ∙ ap key_bytes nodes ∙ ne.is

  -- a key in a node's range has its name, and that of its tree's entry
  name_within : (p : Place) (d : Item) (t : Tree) → tree_at image (root_of d) ≡ Some t → (item : Item)
      → IsIn t.items item → is_within p.node item.key ≡ true → name_part d.key ≡ p.node.name
  name_within p d t found item i h =
      let right = right_keys image (level_at image (root_of d)) (root_of d) t small found item i in
      let n = node_of (global (name_part d.key)) item.key right in
      let leads = within_leads p (record { node = n.node; right = n.right }) (ap (is_within p.node) n.is ∙ h) in
      sym (own_name (name_part d.key) item.key right.own) ∙ ap name_part (sym n.is) ∙ key_name n.node n.right
      ∙ leads.name

  module _ (p : Place) (left right : List Tree) (tree : Tree) (front back : List Item) (entry : Item)
      (whole : globals ≡ left ++ tree ∷ right) (items : top.items ≡ front ++ entry ∷ back)
      (as_many : length front ≡ length left) (name : name_part entry.key ≡ p.node.name) where
    zips : AreTrees image front left × AreTrees image (entry ∷ back) (tree ∷ right)
    zips =
        trees_split image front (entry ∷ back) left (tree ∷ right) as_many
        (subst (λ l. AreTrees image (front ++ entry ∷ back) l) whole
        (subst (λ l. AreTrees image l globals) items s.global_trees))

    rising : Rising key_cmp (front ++ entry ∷ back)
    rising =
        subst (Rising key_cmp) items
        (sound_ordered image (level_at image directory_root) directory_root top s.directory_tree).rising

    among : (e : Item) → IsIn (front ++ entry ∷ back) e → IsIn top.items e
    among e i = subst (λ l. IsIn l e) (sym items) i

    no_order : (d e : Item) → d.key ≡ e.key → key_cmp d e ≡ Less → ⊥
    no_order d e same h =
        not_below_itself (List ℕ) cmp cmp_total cmp_exact e.key (subst (λ k. cmp k e.key ≡ Less) same h)

    entry_in : IsIn (front ++ entry ∷ back) entry
    entry_in = in_right front (entry ∷ back) entry (inl refl)

    left_outside : (item : Item) → IsIn (items_in left) item → is_within p.node item.key ≡ false
    left_outside item i = false_from_ne_true _ (λ h.
        let u = in_under image front left item zips.0 i in
        let there = in_left front (entry ∷ back) u.entry u.entry_in in
        no_order u.entry entry
        (same_entry u.entry entry (among u.entry there) (among entry entry_in)
        (name_within p u.entry u.one u.found item u.item_in h ∙ sym name))
        (rises key_cmp front (entry ∷ back) rising u.entry entry u.entry_in (inl refl)))

    right_outside : (item : Item) → IsIn (items_in right) item → is_within p.node item.key ≡ false
    right_outside item i = false_from_ne_true _ (λ h.
        let u = in_under image back right item zips.1.1 i in
        let there = in_right front (entry ∷ back) u.entry (inr u.entry_in) in
        no_order entry u.entry
        (same_entry entry u.entry (among entry entry_in) (among u.entry there)
        (name ∙ sym (name_within p u.entry u.one u.found item u.item_in h)))
        ((Rising-behind key_cmp front (entry ∷ back) rising).0 u.entry u.entry_in))

    pub outside_parted : items_outside p.node (items_in (left ++ tree ∷ right))
        ≡ items_in left ++ (items_outside p.node tree.items ++ items_in right)
    outside_parted =
        let test : Item → Bool = λ item. not (is_within p.node item.key) in
        ap (filter test) (items_parted left tree right)
        ∙ filter-append test (items_in left) (tree.items ++ items_in right)
        ∙ ap (λ l. filter test (items_in left) ++ l) (filter-append test tree.items (items_in right))
        ∙ (λ i. filter_all test (items_in left) (λ x j. not_from_false _ (left_outside x j)) i
        ++ (filter test tree.items ++ filter_all test (items_in right) (λ x j. not_from_false _ (right_outside x j)) i))

pub kill_in_one_tree : KillInOneTree
kill_in_one_tree image top old new left right front back entry p s bytes items as_many name taken =
    items_parted left new right ∙ ap (λ l. items_in left ++ (l ++ items_in right)) taken
    ∙ sym (outside_parted image (recursion_from_All (λ b. b < 256) image bytes) top (left ++ old ∷ right) s p left right
    old front back entry refl items as_many name)

pub kill_of_one_tree : KillOfOneTree
kill_of_one_tree image top tree left right front back entry p s bytes items as_many name none =
    items_joined left right ∙ ap (λ l. items_in left ++ (l ++ items_in right)) (sym none)
    ∙ sym (outside_parted image (recursion_from_All (λ b. b < 256) image bytes) top (left ++ tree ∷ right) s p left
    right tree front back entry refl items as_many name)
