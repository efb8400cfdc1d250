-- Sound trees: where nothing is wrong with a block and sound trees stand below it, and so wherever a path leads on from
-- there.
use Rattle.std.proofs.Common.{◌≡◌, ℕ, zero, suc, ◌==◌, true, List, [], ◌∷◌, length, map, Option, None, Some, option_map}
use Rattle.std.proofs.Common.{inl, inr, refl, sym, ap, subst, ◌∙◌}
use Rattle.std.specs.Prelude.{⊤}
use Rattle.std.proofs.lemmas.Bool.{and_parts, and_from, eqb-true, eq-eqb}
use Rattle.std.proofs.lemmas.List.{nil_from_length}
use Rattle.gds_block.specs.Item.{Item}
use Rattle.gds_law.specs.Visit.{TreeRole, directory, global, Visit, Child}
use Rattle.gds_law.specs.Path.{Steps, children_at, child_at, visit_from}
use Rattle.gds_sound.specs.Sound.{Tree, joined, forest_of, is_faultless, items_at, sound_tree, tree_at, root_of}
use Rattle.gds_law.proofs.MembershipLemmas.{IsIn, in_left, in_right, in_map}
use Rattle.gds_law.proofs.MembershipLemmas.{in_map_from}
use Rattle.gds_law.proofs.PathLemmas.{found, some_if, some_then}
use Rattle.gds_sound.proofs.BlockLemmas.{kinds_at, level_at, leaf_visits, value_leaf, index_role}

-- ---- a part of an option

pub some_map : {A B : Type 0} (f : A → B) (o : Option A) (y : B) → option_map f o ≡ Some y
    → (x : A) × (o ≡ Some x) × (f x ≡ y)
some_map f None y h = absurd (cc)
some_map f (Some x) y h = (x, refl, cc)

-- ---- the parts of a sound tree

pub record IsLeaf (image : List ℕ) (v : Visit) (t : Tree) : Type 0 where
  pub level : level_at image v ≡ 0
  pub none : kinds_at image v ≡ []
  pub is : record { blocks = v.block ∷ []; items = items_at image v } ≡ t

abbrev pub root_only : Visit → Tree
root_only v = record { blocks = v.block ∷ []; items = [] }

pub record IsIndex (image : List ℕ) (height : ℕ) (v : Visit) (t : Tree) : Type 0 where
  pub level : level_at image v ≡ suc height
  pub none : kinds_at image v ≡ []
  pub below : Tree
  pub forest : forest_of (sound_tree image height) (children_at image v) ≡ Some below
  pub is : joined (root_only v) below ≡ t

faultless_parts : (image : List ℕ) (v : Visit) (level : ℕ) → is_faultless image v level ≡ true
    → (level_at image v ≡ level) × (kinds_at image v ≡ [])
faultless_parts image v level h =
    let p = and_parts (level_at image v == level) (length (kinds_at image v) == 0) h in (
      eqb-true (level_at image v) level p.0,
      nil_from_length (kinds_at image v) (eqb-true (length (kinds_at image v)) 0 p.1),
    )

pub faultless_from : (image : List ℕ) (v : Visit) (level : ℕ) → level_at image v ≡ level → kinds_at image v ≡ []
    → is_faultless image v level ≡ true
faultless_from image v level e h =
    and_from (level_at image v == level) (length (kinds_at image v) ==
    0) (eq-eqb (level_at image v) level e) (eq-eqb (length (kinds_at image v)) 0 (ap length h))

pub leaf_parts : (image : List ℕ) (v : Visit) (t : Tree) → sound_tree image zero v ≡ Some t → IsLeaf image v t
leaf_parts image v t h =
    let p = some_if (is_faultless image v 0) _ t h in
    let q = faultless_parts image v 0 p.0 in
    record { level = q.0; none = q.1; is = cc (p.1) }

pub index_parts : (image : List ℕ) (level : ℕ) (v : Visit) (t : Tree) → sound_tree image (suc level) v ≡ Some t
    → IsIndex image level v t
index_parts image level v t h =
    let p = some_if (is_faultless image v (suc level)) _ t h in
    let q = faultless_parts image v (suc level) p.0 in
    let f = some_map (joined (root_only v)) (forest_of (sound_tree image level) (children_at image v)) t p.1 in
    record { level = q.0; none = q.1; below = f.0; forest = f.1; is = f.2 }

pub tree_level : (image : List ℕ) (level : ℕ) (v : Visit) (t : Tree) → sound_tree image level v ≡ Some t
    → level_at image v ≡ level
tree_level image zero v t h = (leaf_parts image v t h).level
tree_level image (suc level) v t h = (index_parts image level v t h).level

pub tree_clean : (image : List ℕ) (level : ℕ) (v : Visit) (t : Tree) → sound_tree image level v ≡ Some t
    → kinds_at image v ≡ []
tree_clean image zero v t h = (leaf_parts image v t h).none
tree_clean image (suc level) v t h = (index_parts image level v t h).none

pub own_level : (image : List ℕ) (level : ℕ) (v : Visit) (t : Tree) → sound_tree image level v ≡ Some t
    → tree_at image v ≡ Some t
own_level image level v t h = ap (λ l. sound_tree image l v) (tree_level image level v t h) ∙ h

-- the trees of a forest
pub record IsForest (tree : Visit → Option Tree) (c : Child) (cs : List Child) (f : Tree) : Type 0 where
  pub first : Tree
  pub rest : Tree
  pub here : tree c.visit ≡ Some first
  pub later : forest_of tree cs ≡ Some rest
  pub is : joined first rest ≡ f

pub forest_parts : (tree : Visit → Option Tree) (c : Child) (cs : List Child) (f : Tree)
    → forest_of tree (c ∷ cs) ≡ Some f → IsForest tree c cs f
forest_parts tree c cs f h =
    let p = some_then (λ t. option_map (joined t) (forest_of tree cs)) (tree c.visit) f h in
    let q = some_map (joined p.0) (forest_of tree cs) f p.2 in
    record { first = p.0; rest = q.0; here = p.1; later = q.1; is = q.2 }

-- a tree with its items among others
pub record IsAmong (tree : Option Tree) (items : List Item) : Type 0 where
  pub one : Tree
  pub there : tree ≡ Some one
  pub items_in : (item : Item) → IsIn one.items item → IsIn items item

pub each_tree : (tree : Visit → Option Tree) (cs : List Child) (f : Tree) → forest_of tree cs ≡ Some f → (c : Child)
    → IsIn cs c → IsAmong (tree c.visit) f.items
each_tree tree [] f h c i = absurd i
each_tree tree (d ∷ ds) f h c (inl e) =
    let p = forest_parts tree d ds f h in
    record {
      one = p.first;
      there = ap (λ (w : Child). tree w.visit) (sym e) ∙ p.here;
      items_in = λ item i. subst (λ (t : Tree). IsIn t.items item) p.is (in_left p.first.items p.rest.items item i);
    }
each_tree tree (d ∷ ds) f h c (inr j) =
    let p = forest_parts tree d ds f h in
    let a = each_tree tree ds p.rest p.later c j in
    record {
      one = a.one;
      there = a.there;
      items_in =
          λ item i. subst (λ (t : Tree). IsIn t.items item) p.is
          (in_right p.first.items p.rest.items item (a.items_in item i));
    }

-- ---- a sound tree whose entries have sound trees too

abbrev pub RootsSound : List ℕ → TreeRole → List Item → Type 0
RootsSound image directory items = (entry : Item) → IsIn items entry
    → (t : Tree) × (tree_at image (root_of entry) ≡ Some t)
RootsSound image (global name) items = ⊤

pub roots_fewer : (image : List ℕ) (role : TreeRole) (items more : List Item)
    → ((item : Item) → IsIn items item → IsIn more item) → RootsSound image role more → RootsSound image role items
roots_fewer image directory items more h r = λ entry i. r entry (h entry i)
roots_fewer image (global name) items more h r = tt

pub record IsRooted (image : List ℕ) (v : Visit) : Type 0 where
  pub tree : Tree
  pub sound : tree_at image v ≡ Some tree
  pub roots : RootsSound image v.role tree.items

pub rooted_clean : (image : List ℕ) (v : Visit) → IsRooted image v → kinds_at image v ≡ []
rooted_clean image v r = tree_clean image (level_at image v) v r.tree r.sound

rooted_root : (image : List ℕ) (v : Visit) (entry : Item) (t : Tree) → root_of entry ≡ v
    → tree_at image (root_of entry) ≡ Some t → IsRooted image v
rooted_root image v entry t e h = subst (IsRooted image) e (record { tree = t; sound = h; roots = tt })

rooted_below : (image : List ℕ) (level : ℕ) (v : Visit) (t : Tree) (c : Child) → sound_tree image level v ≡ Some t
    → RootsSound image v.role t.items → IsIn (children_at image v) c → IsRooted image c.visit
rooted_below image zero v t c h r i = by v.role refl r
  where
    p : IsLeaf image v t
    p = leaf_parts image v t h

    by : (role : TreeRole) → v.role ≡ role → RootsSound image role t.items → IsRooted image c.visit
    by (global name) e s = absurd (subst (λ (cs : List Child). IsIn cs c) (value_leaf image v name p.none p.level e) i)
    by directory e s =
        let j : IsIn (map root_of (items_at image v)) c.visit =
        subst (λ (vs : List Visit). IsIn vs c.visit) (leaf_visits image v p.none p.level e)
        (in_map (λ (d : Child). d.visit) (children_at image v) c i) in
        let k = in_map_from root_of (items_at image v) c.visit j in
        let there : IsIn t.items k.0 = subst (λ (w : Tree). IsIn w.items k.0) p.is k.1 in
        let tree = s k.0 there in
        rooted_root image c.visit k.0 tree.0 k.2 tree.1
rooted_below image (suc level) v t c h r i =
    let p = index_parts image level v t h in
    let a = each_tree (sound_tree image level) (children_at image v) p.below p.forest c i in
    let role = (index_role image v c level p.none p.level i).0 in
    let items : (item : Item) → IsIn a.one.items item → IsIn t.items item =
    λ item j. subst (λ (w : Tree). IsIn w.items item) p.is (a.items_in item j) in
    record {
      tree = a.one;
      sound = own_level image level c.visit a.one a.there;
      roots = roots_fewer image c.visit.role a.one.items t.items items
          (subst (λ w. RootsSound image w t.items) (sym role) r);
    }

pub rooted_child : (image : List ℕ) (v : Visit) (c : Child) → IsRooted image v → IsIn (children_at image v) c
    → IsRooted image c.visit
rooted_child image v c r i = rooted_below image (level_at image v) v r.tree c r.sound r.roots i

-- where a path with a record leads: through a child
pub record LeadsThrough (image : List ℕ) (v : Visit) (block offset : ℕ) (steps : Steps) (w : Visit) : Type 0 where
  pub child : Child
  pub there : IsIn (children_at image v) child
  pub own : block ≡ v.block
  pub at : child.offset ≡ offset
  pub rest : visit_from image child.visit steps ≡ Some w

pub leads_through : (image : List ℕ) (v : Visit) (block offset : ℕ) (steps : Steps) (w : Visit)
    → visit_from image v ((block, offset) ∷ steps) ≡ Some w
    → LeadsThrough image v block offset steps w
leads_through image v block offset steps w h =
    let here = some_if (block == v.block) _ w h in
    let on = some_then (λ u. visit_from image u steps) (child_at image v offset) w here.1 in
    let l = found (children_at image v) offset on.0 on.1 in
    record {
      child = l.child;
      there = l.there;
      own = eqb-true block v.block here.0;
      at = l.at;
      rest = ap (λ u. visit_from image u steps) l.leads ∙ on.2;
    }

pub rooted_path : (image : List ℕ) (path : Steps) (v w : Visit) → IsRooted image v → visit_from image v path ≡ Some w
    → IsRooted image w
rooted_path image [] v w r h = let same : v ≡ w = cc in subst (IsRooted image) same r
rooted_path image ((block, offset) ∷ steps) v w r h =
    let l = leads_through image v block offset steps w h in
    rooted_path image steps l.child.visit w (rooted_child image v l.child r l.there) l.rest
