-- The values to which paths lead are those in sound trees.
use Rattle.std.proofs.Common.{◌≡◌, ℕ, zero, suc, ◌==◌, Bool, true, false, not, if◌then◌else◌, List, [], ◌∷◌, ◌++◌, map}
use Rattle.std.proofs.Common.{flat_map, Contains, Option, Some, option_and_then, inl, inr, refl, sym, ap, subst, ◌∙◌}
use Rattle.std.specs.List.{AllZip}
use Rattle.std.specs.Option.{option_map_or}
use Rattle.std.proofs.lemmas.Bool.{cond-true, cond-false, eq-eqb, eqb-true}
use Rattle.gds_header.specs.Fields.{block_of}
use Rattle.gds_block.specs.Item.{Item}
use Rattle.gds_law.specs.Visit.{TreeRole, directory, global, Visit, Child, directory_root}
use Rattle.gds_law.specs.BlockReading.{BlockReading, has_values, points}
use Rattle.gds_law.specs.Path.{Steps, children_at, child_at, visit_from, visit_at, AreKept}
use Rattle.gds_sound.specs.Stands.{values_of, values_at}
use Rattle.gds_sound.specs.Sound.{Tree, forest_of, items_at, sound_tree, tree_at, root_of}
use Rattle.gds_law.proofs.MembershipLemmas.{IsIn, in_from_Contains, Contains-from_in, in_left, in_right, in_either}
use Rattle.gds_law.proofs.MembershipLemmas.{in_map, in_flat_map}
use Rattle.gds_sound.proofs.BlockLemmas.{reading_at, level_at, leaf_visits, value_leaf, index_role}
use Rattle.gds_law.proofs.PathLemmas.{some_if, some_then}
use Rattle.gds_law.proofs.MembershipLemmas.{in_map_from}
use Rattle.gds_sound.proofs.TreeLemmas.{IsLeaf, leaf_parts, index_parts, own_level, forest_parts, each_tree}
use Rattle.gds_sound.proofs.TreeLemmas.{IsRooted, rooted_child, leads_through}
use Rattle.gds_sound.proofs.PathLemmas.{step_leads}
use Rattle.gds_sound.proofs.KeptLemmas.{AllKept, kept_leads}

-- the values in the block of a visit
abbrev pub values_in : List ℕ → Visit → List Item
values_in image v = values_of (reading_at image v) (block_of image v.block)

-- There are some in the leaves of globals alone, and there they are the items.
value_role : (b : BlockReading) (role : TreeRole) (items : List Item) (item : Item)
    → IsIn (if not (has_values b role) then [] else items) item
    → (b.level ≡ 0) × ((name : List ℕ) × (role ≡ global name)) × IsIn items item
value_role b directory items item i = absurd i
value_role b (global name) items item i = by (b.level == 0) refl i
  where
    by : (t : Bool) → (b.level == 0) ≡ t → IsIn (if not t then [] else items) item
        → (b.level ≡ 0) × ((n : List ℕ) × (global name ≡ global n)) × IsIn items item
    by true e j = (eqb-true b.level 0 e, (name, refl), j)
    by false e j = absurd j

value_items : (image : List ℕ) (v : Visit) (name : List ℕ) → level_at image v ≡ 0 → v.role ≡ global name
    → values_in image v ≡ items_at image v
value_items image v name z e =
    let none : points (reading_at image v) ≡ false = ap (λ role. not (has_values (reading_at image v) role)) e
    ∙ ap not (eq-eqb (level_at image v) 0 z) in
    cond-false (points (reading_at image v)) [] (items_at image v) none

-- the item of a tree in the forest
pub record IsOf (tree : Visit → Option Tree) (cs : List Child) (item : Item) : Type 0 where
  pub child : Child
  pub there : IsIn cs child
  pub one : Tree
  pub found : tree child.visit ≡ Some one
  pub item_in : IsIn one.items item

pub forest_item : (tree : Visit → Option Tree) (cs : List Child) (f : Tree) (item : Item) → forest_of tree cs ≡ Some f
    → IsIn f.items item → IsOf tree cs item
forest_item tree [] f item h i =
    let same : record { blocks = []; items = [] } ≡ f = cc in
    absurd (subst (λ (t : Tree). IsIn t.items item) (sym same) i)
forest_item tree (c ∷ cs) f item h i =
    let p = forest_parts tree c cs f h in
    elim (in_either p.first.items p.rest.items item (subst (λ (t : Tree). IsIn t.items item) (sym p.is) i)) [
      | inl j ↦ record { child = c; there = inl refl; one = p.first; found = p.here; item_in = j }
      | inr j ↦ let r = forest_item tree cs p.rest item p.later j in
          record { child = r.child; there = inr r.there; one = r.one; found = r.found; item_in = r.item_in }
    ]

-- An item is in a global's tree, or in the tree of an entry's global.
pub record IsUnder (image : List ℕ) (items : List Item) (item : Item) : Type 0 where
  pub entry : Item
  pub entry_in : IsIn items entry
  pub one : Tree
  pub found : tree_at image (root_of entry) ≡ Some one
  pub item_in : IsIn one.items item

abbrev pub ValueIn : List ℕ → TreeRole → List Item → Item → Type 0
ValueIn image directory items item = IsUnder image items item
ValueIn image (global name) items item = IsIn items item

value_more : (image : List ℕ) (role : TreeRole) (items more : List Item) (item : Item)
    → ((e : Item) → IsIn items e → IsIn more e) → ValueIn image role items item → ValueIn image role more item
value_more image directory items more item h u =
    record { entry = u.entry; entry_in = h u.entry u.entry_in; one = u.one; found = u.found; item_in = u.item_in }
value_more image (global name) items more item h i = h item i

-- ---- from a path to the trees

value_up : (image : List ℕ) (level : ℕ) (v : Visit) (t : Tree) (c : Child) (tc : Tree) (item : Item)
    → sound_tree image level v ≡ Some t → IsIn (children_at image v) c → tree_at image c.visit ≡ Some tc
    → ValueIn image c.visit.role tc.items item → ValueIn image v.role t.items item
value_up image zero v t c tc item h i found u = by v.role refl
  where
    p : IsLeaf image v t
    p = leaf_parts image v t h

    root_value : (entry : Item) (w : Visit) → root_of entry ≡ w → tree_at image w ≡ Some tc
        → ValueIn image w.role tc.items item → (tree_at image (root_of entry) ≡ Some tc) × IsIn tc.items item
    root_value entry w e f x =
        subst (λ (z : Visit). tree_at image z ≡ Some tc → ValueIn image z.role tc.items item
        → (tree_at image (root_of entry) ≡ Some tc) × IsIn tc.items item) e (λ g y. (g, y)) f x

    by : (role : TreeRole) → v.role ≡ role → ValueIn image role t.items item
    by (global name) e = absurd (subst (λ (cs : List Child). IsIn cs c) (value_leaf image v name p.none p.level e) i)
    by directory e =
        let j : IsIn (map root_of (items_at image v)) c.visit =
        subst (λ (vs : List Visit). IsIn vs c.visit) (leaf_visits image v p.none p.level e)
        (in_map (λ (d : Child). d.visit) (children_at image v) c i) in
        let k = in_map_from root_of (items_at image v) c.visit j in
        let r = root_value k.0 c.visit k.2 found u in
        record {
          entry = k.0;
          entry_in = subst (λ (w : Tree). IsIn w.items k.0) p.is k.1;
          one = tc;
          found =
              r.0;
          item_in = r.1;
        }
value_up image (suc level) v t c tc item h i found u =
    let p = index_parts image level v t h in
    let a = each_tree (sound_tree image level) (children_at image v) p.below p.forest c i in
    let role = (index_role image v c level p.none p.level i).0 in
    let same : tc ≡ a.one = cc (found, own_level image level c.visit a.one a.there) in
    value_more image v.role tc.items t.items item
    (λ e j. subst (λ (w : Tree). IsIn w.items e) p.is (a.items_in e (subst (λ (w : Tree). IsIn w.items e) same j)))
    (subst (λ w. ValueIn image w tc.items item) role u)

global_in : (image : List ℕ) (role : TreeRole) (name : List ℕ) (items : List Item) (item : Item) → role ≡ global name
    → IsIn items item → ValueIn image role items item
global_in image directory name items item e i = absurd (cc)
global_in image (global own) name items item e i = i

pub value_to : (image : List ℕ) (path : Steps) (v w : Visit) (item : Item) (r : IsRooted image v)
    → visit_from image v path ≡ Some w → IsIn (values_in image w) item → ValueIn image v.role r.tree.items item
value_to image [] v w item r h i =
    let same : v ≡ w = cc in
    let k = value_role (reading_at image v) v.role (items_at image v) item
    (subst (λ (z : Visit). IsIn (values_in image z) item) (sym same) i) in
    let p = leaf_parts image v r.tree (ap (λ l. sound_tree image l v) (sym k.0) ∙ r.sound) in
    global_in image v.role k.1.0 r.tree.items item k.1.1 (subst (λ (t : Tree). IsIn t.items item) p.is k.2)
value_to image ((block, offset) ∷ steps) v w item r h i =
    let l = leads_through image v block offset steps w h in
    let below = rooted_child image v l.child r l.there in
    value_up image (level_at image v) v r.tree l.child below.tree item r.sound l.there below.sound
    (value_to image steps l.child.visit w item below l.rest i)

-- ---- and back

pub record LeadsTo (image : List ℕ) (v : Visit) (P : Visit → Type 0) : Type 0 where
  pub path : Steps
  pub visit : Visit
  pub leads : visit_from image v path ≡ Some visit
  pub such : P visit

up_step : (image : List ℕ) (v : Visit) (c : Child) (P : Visit → Type 0) → IsIn (children_at image v) c
    → LeadsTo image c.visit P → LeadsTo image v P
up_step image v c P i l = record {
  path = (v.block, c.offset) ∷ l.path;
  visit = l.visit;
  leads = step_leads image v c l.path l.visit i l.leads;
  such = l.such;
}

joined_path : (image : List ℕ) (p q : Steps) (v u w : Visit) → visit_from image v p ≡ Some u
    → visit_from image u q ≡ Some w → visit_from image v (p ++ q) ≡ Some w
joined_path image [] q v u w h k = let same : v ≡ u = cc in ap (λ z. visit_from image z q) same ∙ k
joined_path image ((block, offset) ∷ p) q v u w h k =
    let here = some_if (block == v.block) _ u h in
    let on = some_then (λ z. visit_from image z p) (child_at image v offset) u here.1 in
    cond-true (block == v.block) _ _ here.0 ∙ ap (option_and_then (λ z. visit_from image z (p ++ q))) on.1
    ∙ joined_path image p q on.0 u w on.2 k

global_value : (image : List ℕ) (name : List ℕ) (level : ℕ) (v : Visit) (t : Tree) (item : Item) → v.role ≡ global name
    → sound_tree image level v ≡ Some t → IsIn t.items item
    → LeadsTo image v (λ w. IsIn (values_in image w) item)
global_value image name zero v t item e h i =
    let p = leaf_parts image v t h in
    record {
      path = [];
      visit = v;
      leads = refl;
      such = subst (λ (l : List Item). IsIn l item) (sym (value_items image v name p.level e))
          (subst (λ (w : Tree). IsIn w.items item) (sym p.is) i);
    }
global_value image name (suc level) v t item e h i =
    let p = index_parts image level v t h in
    let o = forest_item (sound_tree image level) (children_at image v) p.below item p.forest
    (subst (λ (w : Tree). IsIn w.items item) (sym p.is) i) in
    up_step image v o.child (λ w. IsIn (values_in image w) item) o.there
    (global_value image name level o.child.visit o.one item
    ((index_role image v o.child level p.none p.level o.there).0 ∙ e) o.found o.item_in)

directory_entry : (image : List ℕ) (level : ℕ) (v : Visit) (t : Tree) (entry : Item) → v.role ≡ directory
    → sound_tree image level v ≡ Some t → IsIn t.items entry
    → LeadsTo image v (λ w. w ≡ root_of entry)
directory_entry image zero v t entry e h i =
    let p = leaf_parts image v t h in
    let j : IsIn (map (λ (c : Child). c.visit) (children_at image v)) (root_of entry) =
    subst (λ (vs : List Visit). IsIn vs (root_of entry)) (sym (leaf_visits image v p.none p.level e))
    (in_map root_of (items_at image v) entry (subst (λ (w : Tree). IsIn w.items entry) (sym p.is) i)) in
    let c = in_map_from (λ (c : Child). c.visit) (children_at image v) (root_of entry) j in
    up_step image v c.0 (λ w. w ≡ root_of entry) c.1 (record { path = []; visit = c.0.visit; leads = refl; such = c.2 })
directory_entry image (suc level) v t entry e h i =
    let p = index_parts image level v t h in
    let o = forest_item (sound_tree image level) (children_at image v) p.below entry p.forest
    (subst (λ (w : Tree). IsIn w.items entry) (sym p.is) i) in
    up_step image v o.child (λ w. w ≡ root_of entry) o.there
    (directory_entry image level o.child.visit o.one entry ((index_role image v o.child level p.none p.level o.there).0
    ∙ e) o.found o.item_in)

pub value_from : (image : List ℕ) (tree : Tree) (item : Item) → tree_at image directory_root ≡ Some tree
    → IsUnder image tree.items item
    → LeadsTo image directory_root (λ w. IsIn (values_in image w) item)
value_from image tree item h u =
    let to_root = directory_entry image (level_at image directory_root) directory_root tree u.entry refl h u.entry_in in
    let on = global_value image _ (level_at image (root_of u.entry)) (root_of u.entry) u.one item refl u.found u.item_in
    in
    record {
      path = to_root.path ++ on.path;
      visit = on.visit;
      leads = joined_path image to_root.path on.path directory_root to_root.visit on.visit to_root.leads
          (ap (λ z. visit_from image z on.path) to_root.such ∙ on.leads);
      such = on.such;
    }

-- ---- of a whole file

in_flat_from : {A B : Type 0} (f : A → List B) (xs : List A) (y : B) → IsIn (flat_map f xs) y
    → (x : A) × IsIn xs x × IsIn (f x) y
in_flat_from f [] y i = absurd i
in_flat_from f (x ∷ xs) y i =
    elim (in_either (f x) (flat_map f xs) y i) [
      | inl j ↦ (x, inl refl, j)
      | inr j ↦ let r = in_flat_from f xs y j in (r.0, inr r.1, r.2)
    ]

pub under_in : (image : List ℕ) (items : List Item) (globals : List Tree) (item : Item)
    → AllZip (λ entry tree. tree_at image (root_of entry) ≡ Some tree) items globals
    → IsUnder image items item → IsIn (flat_map (λ tree. tree.items) globals) item
under_in image [] [] item zip u = absurd u.entry_in
under_in image [] (t ∷ ts) item zip u = absurd zip
under_in image (e ∷ es) [] item zip u = absurd zip
under_in image (e ∷ es) (t ∷ ts) item zip u =
    elim (u.entry_in) [
      | inl same ↦
          let tree : u.one ≡ t = cc (u.found, ap (λ w. tree_at image (root_of w)) same, zip.0) in
          in_left t.items (flat_map (λ tree. tree.items) ts) item
          (subst (λ (w : Tree). IsIn w.items item) tree u.item_in)
      | inr j ↦ in_right t.items (flat_map (λ tree. tree.items) ts) item
          (under_in image es ts item zip.1 (record {
            entry = u.entry;
            entry_in = j;
            one = u.one;
            found =
                u.found;
            item_in = u.item_in;
          }))
    ]

pub in_under : (image : List ℕ) (items : List Item) (globals : List Tree) (item : Item)
    → AllZip (λ entry tree. tree_at image (root_of entry) ≡ Some tree) items globals
    → IsIn (flat_map (λ tree. tree.items) globals) item → IsUnder image items item
in_under image [] [] item zip i = absurd i
in_under image [] (t ∷ ts) item zip i = absurd zip
in_under image (e ∷ es) [] item zip i = absurd zip
in_under image (e ∷ es) (t ∷ ts) item zip i =
    elim (in_either t.items (flat_map (λ tree. tree.items) ts) item i) [
      | inl j ↦ record { entry = e; entry_in = inl refl; one = t; found = zip.0; item_in = j }
      | inr j ↦
          let u = in_under image es ts item zip.1 j in
          record { entry = u.entry; entry_in = inr u.entry_in; one = u.one; found = u.found; item_in = u.item_in }
    ]

at_path : (image : List ℕ) (path : Steps) (v : Visit) → visit_at image path ≡ Some v
    → values_at image path ≡ values_in image v
at_path image path v h = ap (λ o. option_map_or (values_in image) o []) h

-- the values at kept paths are the items of the globals' trees
pub values_to : (image : List ℕ) (kept : List Steps) (globals : List Tree) (r : IsRooted image directory_root)
    → AreKept image kept
    → AllZip (λ entry tree. tree_at image (root_of entry) ≡ Some tree) r.tree.items globals → (item : Item)
    → Contains (flat_map (values_at image) kept) item → IsIn (flat_map (λ tree. tree.items) globals) item
values_to image kept globals r a zip item c =
    let p = in_flat_from (values_at image) kept item (in_from_Contains (flat_map (values_at image) kept) item c) in
    let l = kept_leads image kept p.0 a (Contains-from_in kept p.0 p.1) in
    under_in image r.tree.items globals item zip
    (value_to image p.0 directory_root l.0 item r l.1
    (subst (λ (l : List Item). IsIn l item) (at_path image p.0 l.0 l.1) p.2))

pub values_from : (image : List ℕ) (kept : List Steps) (tree : Tree) (globals : List Tree) → AllKept image kept
    → tree_at image directory_root ≡ Some tree
    → AllZip (λ entry tree. tree_at image (root_of entry) ≡ Some tree) tree.items globals → (item : Item)
    → IsIn (flat_map (λ tree. tree.items) globals) item → Contains (flat_map (values_at image) kept) item
values_from image kept tree globals all h zip item i =
    let l = value_from image tree item h (in_under image tree.items globals item zip i) in
    Contains-from_in (flat_map (values_at image) kept) item
    (in_flat_map (values_at image) kept l.path item (in_from_Contains kept l.path (all l.path l.visit l.leads))
    (subst (λ (w : List Item). IsIn w item) (sym (at_path image l.path l.visit l.leads)) l.such))
