-- How often a block is at the end of the paths that lead on from a visit: as often as it is in the sound trees there.
use Rattle.std.proofs.Common.{◌≡◌, ℕ, zero, suc, ◌+◌, ◌<◌, ◌≤◌, ◌==◌, if◌then◌else◌, List, [], ◌∷◌, ◌++◌, map, flat_map}
use Rattle.std.proofs.Common.{Option, None, Some, inl, inr, refl, sym, ap, subst, ◌∙◌, arith}
use Rattle.std.specs.Option.{option_map_or}
use Rattle.std.proofs.lemmas.Grind.{flat_map-append}
use Rattle.gds_block.specs.Item.{Item}
use Rattle.gds_law.specs.Visit.{TreeRole, directory, global, Visit, Child}
use Rattle.gds_law.specs.Path.{children_at}
use Rattle.gds_sound.specs.Sound.{Tree, joined, forest_of, items_at, sound_tree, tree_at, root_of}
use Rattle.gds_law.proofs.MembershipLemmas.{IsIn, in_left, in_right}
use Rattle.gds_law.specs.Rank.{rank_of, rank}
use Rattle.gds_law.proofs.PathLemmas.{child_lower}
use Rattle.gds_sound.proofs.BlockLemmas.{level_at, leaf_visits, value_leaf, index_role}
use Rattle.gds_sound.proofs.TreeLemmas.{IsLeaf, IsIndex, leaf_parts, index_parts, root_only, forest_parts, RootsSound}
use Rattle.gds_sound.proofs.TreeLemmas.{roots_fewer}

-- how often a number is in a list
abbrev pub count : ℕ → List ℕ → ℕ
count x [] = 0
count x (y ∷ ys) = (if y == x then 1 else 0) + count x ys

pub count_append : (x : ℕ) (xs ys : List ℕ) → count x (xs ++ ys) ≡ count x xs + count x ys
count_append x [] ys = omega arith
count_append x (y ∷ ys) zs = omega (arith, count_append x ys zs)

-- the blocks at the ends of the paths of fewer than n records that lead on from a visit
unfoldable pub all_blocks : List ℕ → ℕ → Visit → List ℕ
all_blocks image zero v = []
all_blocks image (suc n) v = v.block ∷ flat_map (λ c. all_blocks image n c.visit) (children_at image v)

flat_map_map : {A B C : Type 0} (f : B → List C) (g : A → B) (xs : List A)
    → flat_map f (map g xs) ≡ flat_map (λ x. f (g x)) xs
flat_map_map f g [] = refl
flat_map_map f g (x ∷ xs) = ap (λ l. f (g x) ++ l) (flat_map_map f g xs)

count_each : {A : Type 0} (x : ℕ) (f g : A → List ℕ) (xs : List A)
    → ((a : A) → IsIn xs a → count x (f a) ≡ count x (g a)) → count x (flat_map f xs) ≡ count x (flat_map g xs)
count_each x f g [] h = refl
count_each x f g (a ∷ as_) h =
    omega (
      arith,
      count_append x (f a) (flat_map f as_),
      count_append x (g a) (flat_map g as_),
      h a (inl refl),
      count_each x f g as_ (λ b i. h b (inr i)),
    )

-- ---- the blocks of the trees below entries

abbrev pub entry_blocks : List ℕ → Item → List ℕ
entry_blocks image entry = option_map_or (λ (t : Tree). t.blocks) (tree_at image (root_of entry)) []

abbrev pub under : List ℕ → TreeRole → List Item → List ℕ
under image directory items = flat_map (entry_blocks image) items
under image (global name) items = []

under_append : (image : List ℕ) (x : ℕ) (role : TreeRole) (xs ys : List Item)
    → count x (under image role (xs ++ ys)) ≡ count x (under image role xs) + count x (under image role ys)
under_append image x directory xs ys =
    ap (count x) (flat_map-append (entry_blocks image) xs ys)
    ∙ count_append x (flat_map (entry_blocks image) xs) (flat_map (entry_blocks image) ys)
under_append image x (global name) xs ys = omega arith

under_none : (image : List ℕ) (x : ℕ) (role : TreeRole) → count x (under image role []) ≡ 0
under_none image x directory = refl
under_none image x (global name) = refl

-- the block is as often in some blocks as in a tree and in the trees below its entries
abbrev pub CountsTo : List ℕ → ℕ → TreeRole → List ℕ → Tree → Type 0
CountsTo image x role blocks t = count x blocks ≡ count x t.blocks + count x (under image role t.items)

counts_joined : (image : List ℕ) (x : ℕ) (role : TreeRole) (xs ys : List ℕ) (a b : Tree) → CountsTo image x role xs a
    → CountsTo image x role ys b → CountsTo image x role (xs ++ ys) (joined a b)
counts_joined image x role xs ys a b h k =
    omega (
      arith,
      h,
      k,
      count_append x xs ys,
      count_append x a.blocks b.blocks,
      under_append image x role a.items b.items,
    )

forest_counts : (image : List ℕ) (x : ℕ) (role : TreeRole) (kids : Visit → List ℕ) (tree : Visit
    → Option Tree) (cs : List Child) (f : Tree) → forest_of tree cs ≡ Some f → RootsSound image role f.items
    → ((c : Child) (t : Tree) → IsIn cs c → tree c.visit ≡ Some t → RootsSound image role t.items
    → CountsTo image x role (kids c.visit) t)
    → CountsTo image x role (flat_map (λ c. kids c.visit) cs) f
forest_counts image x role kids tree [] f h r each =
    let same : record { blocks = []; items = [] } ≡ f = cc in
    subst (λ (t : Tree). CountsTo image x role [] t) same (omega (arith, under_none image x role))
forest_counts image x role kids tree (c ∷ cs) f h r each =
    let p = forest_parts tree c cs f h in
    let all : RootsSound image role (p.first.items ++ p.rest.items) =
    subst (λ (t : Tree). RootsSound image role t.items) (sym p.is) r in
    let first =
    roots_fewer image role p.first.items (p.first.items
    ++ p.rest.items) (λ item i. in_left p.first.items p.rest.items item i) all in
    let rest =
    roots_fewer image role p.rest.items (p.first.items
    ++ p.rest.items) (λ item i. in_right p.first.items p.rest.items item i) all in
    subst (CountsTo image x role (kids c.visit ++ flat_map (λ d. kids d.visit) cs)) p.is
    (counts_joined image x role (kids c.visit) (flat_map (λ d. kids d.visit) cs) p.first p.rest
    (each c p.first (inl refl) p.here first)
    (forest_counts image x role kids tree cs p.rest p.later rest (λ d t i. each d t (inr i))))

root_counts : (image : List ℕ) (x : ℕ) (role : TreeRole) (v : Visit)
    → CountsTo image x role (v.block ∷ []) (root_only v)
root_counts image x role v = omega (arith, under_none image x role)

index_counts : (image : List ℕ) (x : ℕ) (role : TreeRole) (level n : ℕ) (v : Visit) (t : Tree)
    → IsIndex image level v t → v.role ≡ role → RootsSound image role t.items → rank v < suc n
    → ((c : Child) (s : Tree) → c.visit.role ≡ role → sound_tree image level c.visit ≡ Some s
    → RootsSound image role s.items → rank c.visit < n → CountsTo image x role (all_blocks image n c.visit) s)
    → CountsTo image x role (all_blocks image (suc n) v) t
unfolding all_blocks
index_counts image x role level n v t p e r low each =
    subst (CountsTo image x role (v.block ∷ flat_map (λ c. all_blocks image n c.visit) (children_at image v))) p.is
    (counts_joined image x role (v.block ∷ []) (flat_map (λ c. all_blocks image n c.visit) (children_at image v))
    (root_only v) p.below
    (root_counts image x role v)
    (forest_counts image x role (all_blocks image n) (sound_tree image level) (children_at image v) p.below p.forest
    (subst (λ (w : Tree). RootsSound image role w.items) (sym p.is) r)
    (λ c s i h q. each c s ((index_role image v c level p.none p.level i).0
    ∙ e) h q (omega (arith, low, child_lower image v c i)))))

-- a global's tree
pub global_counts : (image : List ℕ) (x : ℕ) (name : List ℕ) (level n : ℕ) (v : Visit) (t : Tree)
    → v.role ≡ global name → sound_tree image level v ≡ Some t → rank v < n
    → CountsTo image x (global name) (all_blocks image n v) t
unfolding all_blocks
global_counts image x name level zero v t e h low = absurd (omega arith)
global_counts image x name zero (suc n) v t e h low =
    let p = leaf_parts image v t h in
    let none = value_leaf image v name p.none p.level e in
    subst (CountsTo image x (global name) (v.block ∷ flat_map (λ c. all_blocks image n c.visit) (children_at image v)))
    p.is
    (ap (λ cs. count x (v.block ∷ flat_map (λ c. all_blocks image n c.visit) cs)) none ∙ omega arith)
global_counts image x name (suc level) (suc n) v t e h low =
    index_counts image x (global name) level n v t (index_parts image level v t h) e tt low
    (λ c s role k q lower. global_counts image x name level n c.visit s role k lower)

-- the directory
directory_high : (role : TreeRole) (due : Option ℕ) → role ≡ directory → 8 ≤ rank_of role due
directory_high directory None e = omega arith
directory_high directory (Some due) e = omega arith
directory_high (global name) due e = absurd (cc)

entry_counts : (image : List ℕ) (x n : ℕ) (entry : Item) → 7 < n
    → (t : Tree) × (tree_at image (root_of entry) ≡ Some t)
    → count x (all_blocks image n (root_of entry)) ≡ count x (entry_blocks image entry)
entry_counts image x n entry low t =
    let root : Visit = root_of entry in
    let same : entry_blocks image entry ≡ t.0.blocks = ap (λ o. option_map_or (λ (s : Tree). s.blocks) o []) t.1 in
    let all = global_counts image x _ (level_at image root) n root t.0 refl t.1 low in
    omega (arith, all, ap (count x) same)

leaf_counts : (image : List ℕ) (x n : ℕ) (v : Visit) (t : Tree) → IsLeaf image v t → v.role ≡ directory
    → RootsSound image directory t.items → rank v < suc n
    → CountsTo image x directory (all_blocks image (suc n) v) t
unfolding all_blocks
leaf_counts image x n v t p e r low =
    let items : List Item = items_at image v in
    let high : 7 < n = omega (arith, low, directory_high v.role v.level e) in
    let roots : RootsSound image directory items =
    subst (λ (w : Tree). RootsSound image directory w.items) (sym p.is) r in
    let below : flat_map (λ (c : Child). all_blocks image n c.visit) (children_at image v)
    ≡ flat_map (λ entry. all_blocks image n (root_of entry)) items =
    sym (flat_map_map (all_blocks image n) (λ (c : Child). c.visit) (children_at image v))
    ∙ ap (flat_map (all_blocks image n)) (leaf_visits image v p.none p.level e)
    ∙ flat_map_map (all_blocks image n) root_of items in
    let each =
    count_each x (λ entry. all_blocks image n (root_of entry)) (entry_blocks image) items
    (λ entry i. entry_counts image x n entry high (roots entry i)) in
    subst (CountsTo image x directory (v.block ∷ flat_map (λ c. all_blocks image n c.visit) (children_at image v))) p.is
    (ap (λ blocks. count x (v.block ∷ blocks)) below ∙ omega (arith, each))

pub directory_counts : (image : List ℕ) (x level n : ℕ) (v : Visit) (t : Tree) → v.role ≡ directory
    → sound_tree image level v ≡ Some t → RootsSound image directory t.items → rank v < n
    → CountsTo image x directory (all_blocks image n v) t
directory_counts image x level zero v t e h r low = absurd (omega arith)
directory_counts image x zero (suc n) v t e h r low = leaf_counts image x n v t (leaf_parts image v t h) e r low
directory_counts image x (suc level) (suc n) v t e h r low =
    index_counts image x directory level n v t (index_parts image level v t h) e r low
    (λ c s role k q lower. directory_counts image x level n c.visit s role k q lower)
