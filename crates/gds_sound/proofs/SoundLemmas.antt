-- A file has no fault exactly where it is sound.
use Rattle.std.proofs.Common.{◌≡◌, ℕ, zero, suc, List, [], ◌∷◌, ◌++◌, map, flat_map, Contains, Option, None, Some}
use Rattle.std.proofs.Common.{option_map, option_and_then, inl, inr, refl, sym, ap, subst, ◌∙◌, arith}
use Rattle.std.specs.Prelude.{⊤}
use Rattle.std.specs.List.{AllZip}
use Rattle.std.specs.Option.{option_map_or}
use Rattle.std.proofs.lemmas.Bool.{cond-true}
use Rattle.gds_header.proofs.EndingLemmas.{ending_kind-none}
use Rattle.gds_header.specs.declared.kind.HeaderKind.{HeaderKind}
use Rattle.gds_header.specs.Kinds.{header_faults, ending_kind}
use Rattle.gds_block.specs.Item.{Item}
use Rattle.gds_law.specs.Kinds.{fault_kind_of}
use Rattle.gds_law.specs.Visit.{TreeRole, directory, global, Visit, Child, directory_root}
use Rattle.gds_law.specs.Path.{Steps, children_at, visit_from, AreKept, AreReached}
use Rattle.gds_law.specs.Tree.{faults_at, tree_faults}
use Rattle.gds_law.specs.Maps.{is_used, map_faults, count_faults, fault_of}
use Rattle.gds_law.specs.Faults.{faults_of_header, AreFaultsRead, AreFaultsAfter, AreFaults}
use Rattle.gds_sound.specs.Sound.{Tree, joined, forest_of, items_at, sound_tree, tree_at, root_of, is_in_use}
use Rattle.gds_sound.specs.Sound.{IsRightMap, IsSound}
use Rattle.gds_law.proofs.MembershipLemmas.{IsIn, in_from_Contains, Contains-from_in, in_either, in_map}
use Rattle.gds_law.proofs.KeptLemmas.{some_kept, some_reached}
use Rattle.gds_sound.proofs.BlockLemmas.{nil_parts, map_nil, kinds_at, level_at, leaf_visits, index_role, level_due}
use Rattle.gds_law.proofs.MembershipLemmas.{in_map_from}
use Rattle.gds_sound.proofs.TreeLemmas.{root_only, faultless_from, RootsSound, IsRooted, rooted_path}
use Rattle.gds_sound.proofs.TreeLemmas.{rooted_clean}
use Rattle.gds_sound.proofs.CountLemmas.{count, count_append, all_blocks, entry_blocks, directory_counts}
use Rattle.gds_sound.proofs.PathLemmas.{step_leads, counts_from_distinct, distinct_from_counts, EndsApart}
use Rattle.gds_sound.proofs.PathLemmas.{apart_from_counts, counts_from_apart}
use Rattle.gds_sound.proofs.KeptLemmas.{nil_flat, flat_nil, AllKept, kept_from_apart, kept_from_reached}
use Rattle.gds_sound.proofs.KeptLemmas.{apart_from_kept, reached_leads, none_at, clean_at, kept_at, same_use}
use Rattle.gds_sound.proofs.MapLemmas.{maps_right, right_maps, count_right, right_count}

-- ---- sound trees where nothing is wrong

-- Nothing is wrong with the blocks to which paths lead from a visit.
abbrev pub IsClean : List ℕ → Visit → Type 0
IsClean image v = (path : Steps) (w : Visit) → visit_from image v path ≡ Some w → kinds_at image w ≡ []

clean_child : (image : List ℕ) (v : Visit) (c : Child) → IsClean image v → IsIn (children_at image v) c
    → IsClean image c.visit
clean_child image v c h i path w l = h ((v.block, c.offset) ∷ path) w (step_leads image v c path w i l)

-- nor below the roots of entries
abbrev RootsClean : List ℕ → TreeRole → List Item → Type 0
RootsClean image directory items = (entry : Item) → IsIn items entry → IsClean image (root_of entry)
RootsClean image (global name) items = ⊤

both_clean : (image : List ℕ) (role : TreeRole) (xs ys : List Item) → RootsClean image role xs
    → RootsClean image role ys → RootsClean image role (xs ++ ys)
both_clean image (global name) xs ys h k = tt
both_clean image directory xs ys h k =
    λ entry i. elim (in_either xs ys entry i) [ inl j ↦ h entry j | inr j ↦ k entry j ]

none_clean : (image : List ℕ) (role : TreeRole) → RootsClean image role []
none_clean image directory = λ entry i. absurd i
none_clean image (global name) = tt

record IsBuilt (image : List ℕ) (role : TreeRole) (found : Option Tree) : Type 0 where
  tree : Tree
  there : found ≡ Some tree
  roots : RootsClean image role tree.items

build_forest : (image : List ℕ) (role : TreeRole) (tree : Visit → Option Tree) (cs : List Child)
    → ((c : Child) → IsIn cs c → IsBuilt image role (tree c.visit)) → IsBuilt image role (forest_of tree cs)
build_forest image role tree [] each =
    record { tree = record { blocks = []; items = [] }; there = refl; roots = none_clean image role }
build_forest image role tree (c ∷ cs) each =
    let first = each c (inl refl) in
    let rest = build_forest image role tree cs (λ d i. each d (inr i)) in
    record {
      tree = joined first.tree rest.tree;
      there = ap (option_and_then (λ t. option_map (joined t) (forest_of tree cs))) first.there
          ∙ ap (option_map (joined first.tree)) rest.there;
      roots = both_clean image role first.tree.items rest.tree.items first.roots rest.roots;
    }

leaf_roots : (image : List ℕ) (v : Visit) → IsClean image v → level_at image v ≡ 0 → (role : TreeRole) → v.role ≡ role
    → RootsClean image role (items_at image v)
leaf_roots image v h z (global name) e = tt
leaf_roots image v h z directory e = λ entry i.
    let there : IsIn (map (λ (c : Child). c.visit) (children_at image v)) (root_of entry) =
    subst (λ (vs : List Visit). IsIn vs (root_of entry)) (sym (leaf_visits image v (h [] v refl) z e))
    (in_map root_of (items_at image v) entry i) in
    let c = in_map_from (λ (c : Child). c.visit) (children_at image v) (root_of entry) there in
    subst (IsClean image) c.2 (clean_child image v c.0 h c.1)

build : (image : List ℕ) (level : ℕ) (v : Visit) → IsClean image v → level_at image v ≡ level
    → IsBuilt image v.role (sound_tree image level v)
build image zero v h e = record {
  tree = record { blocks = v.block ∷ []; items = items_at image v };
  there = cond-true _ _ _ (faultless_from image v 0 e (h [] v refl));
  roots = leaf_roots image v h e v.role refl;
}
build image (suc level) v h e =
    let none = h [] v refl in
    let below = build_forest image v.role (sound_tree image level) (children_at image v) (λ c i.
    let r = index_role image v c level none e i in
    let clean = clean_child image v c h i in
    let b = build image level c.visit clean (level_due image c.visit level (clean [] c.visit refl) r.1) in
    record {
      tree = b.tree;
      there = b.there;
      roots =
          subst (λ role. RootsClean image role b.tree.items) r.0 b.roots;
    }) in
    record {
      tree = joined (root_only v) below.tree;
      there = cond-true _ _ _ (faultless_from image v (suc level) e none)
          ∙ ap (option_map (joined (root_only v))) below.there;
      roots = below.roots;
    }

build_root : (image : List ℕ) (v : Visit) → IsClean image v → IsBuilt image v.role (tree_at image v)
build_root image v h = build image (level_at image v) v h refl

-- the trees of entries
abbrev pub AreTrees : List ℕ → List Item → List Tree → Type 0
AreTrees image items globals = AllZip (λ entry tree. tree_at image (root_of entry) ≡ Some tree) items globals

build_globals : (image : List ℕ) (items : List Item) → RootsClean image directory items
    → (globals : List Tree) × AreTrees image items globals
build_globals image [] h = ([], tt)
build_globals image (entry ∷ items) h =
    let first = build_root image (root_of entry) (h entry (inl refl)) in
    let rest = build_globals image items (λ e i. h e (inr i)) in
    (first.tree ∷ rest.0, (first.there, rest.1))

pub trees_sound : (image : List ℕ) (items : List Item) (globals : List Tree) → AreTrees image items globals
    → RootsSound image directory items
trees_sound image [] [] h = λ e i. absurd i
trees_sound image [] (t ∷ ts) h = absurd h
trees_sound image (entry ∷ items) [] h = absurd h
trees_sound image (entry ∷ items) (t ∷ ts) h = λ e i. elim i [
  | inl same ↦ subst (λ w. (s : Tree) × (tree_at image (root_of w) ≡ Some s)) same (t, h.0)
  | inr j ↦ trees_sound image items ts h.1 e j
]

tree_blocks : (image : List ℕ) (items : List Item) (globals : List Tree) → AreTrees image items globals
    → flat_map (entry_blocks image) items ≡ flat_map (λ tree. tree.blocks) globals
tree_blocks image [] [] h = refl
tree_blocks image [] (t ∷ ts) h = absurd h
tree_blocks image (entry ∷ items) [] h = absurd h
tree_blocks image (entry ∷ items) (t ∷ ts) h =
    let first : entry_blocks image entry ≡ t.blocks = ap (λ o. option_map_or (λ (s : Tree). s.blocks) o []) h.0 in
    λ i. first i ++ tree_blocks image items ts h.1 i

-- Each block is as often in the trees as at the ends of paths.
abbrev pub blocks_of : Tree → List Tree → List ℕ
blocks_of tree globals = tree.blocks ++ flat_map (λ t. t.blocks) globals

pub all_counted : (image : List ℕ) (tree : Tree) (globals : List Tree) → tree_at image directory_root ≡ Some tree
    → AreTrees image tree.items globals
    → (x : ℕ) → count x (all_blocks image 16 directory_root) ≡ count x (blocks_of tree globals)
all_counted image tree globals h zip x =
    let all = directory_counts image x (level_at image directory_root) 16 directory_root tree refl h
    (trees_sound image tree.items globals zip) (omega arith) in
    omega (
      arith,
      all,
      ap (count x) (tree_blocks image tree.items globals zip),
      count_append x tree.blocks (flat_map (λ (t : Tree). t.blocks) globals),
    )

-- ---- from no faults

none_read : (image : List ℕ) → AreFaults image [] → AreFaultsRead image []
none_read image h = by (ending_kind image) refl h
  where
    by : (o : Option HeaderKind) → ending_kind image ≡ o → AreFaultsAfter o image [] → AreFaultsRead image []
    by None e k = k
    by (Some kind) e k =
        let none = map_nil (λ kind. fault_of 0 (fault_kind_of kind)) (header_faults image) (sym k) in
        absurd (cc (ending_kind-none image none, e))

record AllNone (image : List ℕ) (kept reached : List Steps) : Type 0 where
  header : header_faults image ≡ []
  trees : tree_faults image kept reached ≡ []
  maps : map_faults image (is_used image kept) ≡ []
  count : count_faults image ≡ []

all_none : (image : List ℕ) (kept reached : List Steps)
    → []
    ≡ faults_of_header image ++ tree_faults image kept reached ++ map_faults image (is_used image kept)
    ++ count_faults image → AllNone image kept reached
all_none image kept reached h =
    let a = nil_parts (faults_of_header image ++ tree_faults image kept reached
    ++ map_faults image (is_used image kept)) (count_faults image) (sym h) in
    let b = nil_parts (faults_of_header image
    ++ tree_faults image kept reached) (map_faults image (is_used image kept)) a.0 in
    let c = nil_parts (faults_of_header image) (tree_faults image kept reached) b.0 in
    record {
      header = map_nil (λ kind. fault_of 0 (fault_kind_of kind)) (header_faults image) c.0;
      trees = c.1;
      maps =
          b.1;
      count = a.1;
    }

each_none : (image : List ℕ) (kept reached : List Steps) → tree_faults image kept reached ≡ [] → (path : Steps)
    → IsIn reached path → faults_at image kept path ≡ []
unfolding tree_faults
each_none image kept reached h path i = flat_nil (faults_at image kept) reached h path i

kept_reached : (image : List ℕ) (kept reached : List Steps) → AreKept image kept → AreReached image kept reached
    → (path : Steps) → Contains kept path → IsIn reached path
kept_reached image kept reached a r path c =
    in_from_Contains reached path ((r.exactly path).1
    (elim ((a.exactly path).0 c) [ inl nil ↦ inl nil | inr k ↦ inr (k.0, k.1) ]))

sound_from : (image : List ℕ) (kept reached : List Steps) → AreKept image kept → AreReached image kept reached
    → AllNone image kept reached
    → (tree : Tree) × (globals : List Tree) × IsSound image tree globals
sound_from image kept reached a r none =
    let each = each_none image kept reached none.trees in
    let all : AllKept image kept =
    kept_from_reached image kept reached a r (λ path i low. kept_at image kept path low (each path i)) in
    let ends_apart : EndsApart image directory_root = apart_from_kept image kept a all in
    let clean : IsClean image directory_root = clean_all each all in
    let tree = build_root image directory_root clean in
    let globals = build_globals image tree.tree.items tree.roots in
    let counted = all_counted image tree.tree globals.0 tree.there globals.1 in (
      tree.tree,
      globals.0,
      record {
        header = none.header;
        directory_tree = tree.there;
        global_trees = globals.1;
        distinct =
            distinct_from_counts (blocks_of tree.tree globals.0) (λ x. omega (
              arith,
              counted x,
              counts_from_apart image 16 directory_root x ends_apart,
            ));
        maps = λ group low. subst (λ used. IsRightMap image used group)
            (same_use image kept (blocks_of tree.tree globals.0) a all counted)
            (maps_right image (is_used image kept) none.maps group low);
        count = count_right image none.count;
      },
    )
  where
    clean_all : ((path : Steps) → IsIn reached path → faults_at image kept path ≡ []) → AllKept image kept
        → IsClean image directory_root
    clean_all each all path w h =
        clean_at image kept path w (all path w h) h
        (each path (kept_reached image kept reached a r path (all path w h)))

pub sound : (image : List ℕ) → AreFaults image [] → (tree : Tree) × (globals : List Tree) × IsSound image tree globals
sound image h =
    let r = none_read image h in
    sound_from image r.kept r.reached r.are_kept r.are_reached (all_none image r.kept r.reached r.whole)

-- ---- and back

abbrev pub all_rooted : (image : List ℕ) (tree : Tree) (globals : List Tree) → IsSound image tree globals
    → IsRooted image directory_root
all_rooted image tree globals s =
    record { tree = tree; sound = s.directory_tree; roots = trees_sound image tree.items globals s.global_trees }

pub sound_apart : (image : List ℕ) (tree : Tree) (globals : List Tree) → IsSound image tree globals
    → EndsApart image directory_root
sound_apart image tree globals s =
    apart_from_counts image 16 directory_root (omega arith)
    (λ x. omega (
      arith,
      all_counted image tree globals s.directory_tree s.global_trees x,
      counts_from_distinct (blocks_of tree globals) s.distinct x,
    ))

none_in_trees : (image : List ℕ) (kept reached : List Steps) → IsRooted image directory_root → AllKept image kept
    → AreReached image kept reached → tree_faults image kept reached ≡ []
unfolding tree_faults
none_in_trees image kept reached rooted all r =
    nil_flat (faults_at image kept) reached (λ path i.
    let l = reached_leads image kept path ((r.exactly path).0 (Contains-from_in reached path i)) in
    none_at image kept path l.0 (all path l.0 l.1) l.1
    (rooted_clean image l.0 (rooted_path image path directory_root l.0 rooted l.1)))

pub faultless : (image : List ℕ) (tree : Tree) (globals : List Tree) → IsSound image tree globals → AreFaults image []
faultless image tree globals s =
    let k = some_kept image in
    let r = some_reached image k.0 in
    let all : AllKept image k.0 = kept_from_apart image k.0 k.1 (sound_apart image tree globals s) in
    let used : is_used image k.0 ≡ is_in_use (blocks_of tree globals) =
    same_use image k.0 (blocks_of tree globals) k.1 all
    (all_counted image tree globals s.directory_tree s.global_trees) in
    let header : faults_of_header image ≡ [] = ap (map (λ kind. fault_of 0 (fault_kind_of kind))) s.header in
    let trees = none_in_trees image k.0 r.0 (all_rooted image tree globals s) all r.1 in
    let maps : map_faults image (is_used image k.0) ≡ [] = ap (map_faults image) used
    ∙ right_maps image (is_in_use (blocks_of tree globals)) s.maps in
    let count = right_count image s.count in
    subst (λ o. AreFaultsAfter o image []) (sym (ending_kind-none image s.header)) (record {
      kept = k.0;
      reached = r.0;
      are_kept = k.1;
      are_reached = r.1;
      whole = λ i. sym header i ++ sym trees i ++ sym maps i ++ sym count i;
    })
