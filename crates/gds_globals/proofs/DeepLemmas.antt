-- What an image is that has no room for a node's item: it is deep for the node.
use Rattle.std.proofs.Common.{◌≡◌, ℕ, zero, suc, Bool, true, false, List, [], ◌∷◌, ◌++◌, map, flat_map, None}
use Rattle.std.proofs.Common.{Some, inl, refl, sym, ap, subst, ◌∙◌, ⊎_elim, arith, ◌<◌}
use Rattle.std.specs.Prelude.{All, bytes_eq}
use Rattle.std.specs.FinMap.{entries}
use Rattle.std.proofs.lemmas.Bool.{cond-false, cond-true}
use Rattle.std.proofs.lemmas.Slice.Eq.{bytes_eq-Decides}
use Rattle.gds_ancestors.specs.Ancestors.{steps_to}
use Rattle.gds_ancestors.proofs.VisitLemmas.{same_role}
use Rattle.gds_block.specs.Block.{level_of}
use Rattle.gds_block.specs.Item.{Item}
use Rattle.gds_header.specs.Fields.{block_of, fields_of}
use Rattle.gds_law.specs.Path.{Steps, visit_at}
use Rattle.gds_law.specs.Visit.{Visit, directory, directory_root, global}
use Rattle.gds_law.proofs.MembershipLemmas.{Contains-from_in, IsIn, in_flat_map, in_from_Contains, in_left}
use Rattle.gds_law.proofs.MembershipLemmas.{in_map, in_map_from, in_right}
use Rattle.gds_shape.specs.Depth.{HoldsKey, IsDeep, has_name, target_key, target_role}
use Rattle.gds_sound.specs.Questions.{places_of}
use Rattle.gds_sound.specs.Sound.{IsSound, Tree, root_of, sound_tree, tree_at}
use Rattle.gds_sound.specs.Stands.{StandsFor}
use Rattle.gds_sound.proofs.BlockLemmas.{index_role, leaf_visits}
use Rattle.gds_sound.proofs.KeptLemmas.{any_in, in_any, kept_from_apart}
use Rattle.gds_sound.proofs.OneMapLemmas.{one_map}
use Rattle.gds_sound.proofs.PairLemmas.{key_name, readings_agree}
use Rattle.gds_sound.proofs.PathLemmas.{step_leads}
use Rattle.gds_sound.proofs.SoundLemmas.{blocks_of, faultless, sound_apart}
use Rattle.gds_sound.proofs.TreeLemmas.{index_parts, leaf_parts}
use Rattle.gds_sound.proofs.ValueLemmas.{LeadsTo, forest_item, in_under, under_in}
use Rattle.gds_splice.proofs.ImageLemmas.{image_of}
use Rattle.gds_tree.specs.Keeps.{IsImage}
use Rattle.gds_tree.specs.Lawful.{MayBeEmpty}
use Rattle.gds_tree.proofs.ItemLemmas.{items_of_tree}
use Rattle.m_key.specs.Globals.{Globals, Place}
use Rattle.m_key.specs.Key.{key_bytes}
use Rattle.m_key.specs.KeyParts.{name_part}
use Rattle.gds_globals.specs.Deep.{IsDeepForNode, IsDeepInDirectory, IsDeepInGlobal}
use Rattle.gds_globals.specs.Node.{IsRootOf, name_key}
use Rattle.gds_globals.proofs.CarryLemmas.{IsDeepBelow, deep_carried}
use Rattle.gds_globals.proofs.DeepPathLemmas.{deep_at_leaf, holds_key, path_to_leaf}
use Rattle.gds_globals.proofs.FileLemmas.{entry_key, entry_name, entry_of, entry_points}
use Rattle.gds_globals.proofs.NameLemmas.{bare, bare_key, name_of_key}
use Rattle.gds_globals.proofs.NewGlobalLemmas.{lawful_file}
use Rattle.gds_globals.proofs.SetLemmas.{parts_at}

-- a pair of the map as an item
abbrev pair_item : Place × List ℕ → Item
pair_item e = record { key = key_bytes e.0.node; rest = e.1 }

abbrev place_of_pair : Place × List ℕ → Place
place_of_pair e = e.0

no_directory : (name : List ℕ) → global name ≡ directory → ⊥
no_directory name e = cc

-- ---- the way to a global's root

entry_leads : (image : List ℕ) (level : ℕ) (v : Visit) (t : Tree) (entry : Item) → v.role ≡ directory
    → sound_tree image level v ≡ Some t → IsIn t.items entry → LeadsTo image v (λ w. w ≡ root_of entry)
entry_leads image zero v t entry e h i =
    let p = leaf_parts image v t h in
    let j = subst (λ (vs : List Visit). IsIn vs (root_of entry)) (sym (leaf_visits image v p.none p.level e))
    (in_map root_of _ entry (subst (λ (w : Tree). IsIn w.items entry) (sym p.is) i)) in
    let c = in_map_from _ _ (root_of entry) j in
    record {
      path = (v.block, c.0.offset) ∷ [];
      visit = c.0.visit;
      leads = step_leads image v c.0 [] c.0.visit c.1 refl;
      such = c.2;
    }
entry_leads image (suc level) v t entry e h i =
    let p = index_parts image level v t h in
    let o = forest_item (sound_tree image level) _ p.below entry p.forest
    (subst (λ (w : Tree). IsIn w.items entry) (sym p.is) i) in
    let l = entry_leads image level o.child.visit o.one entry
    ((index_role image v o.child level p.none p.level o.there).0 ∙ e) o.found o.item_in in
    record {
      path = (v.block, o.child.offset) ∷ l.path;
      visit = l.visit;
      leads = step_leads image v o.child l.path l.visit o.there l.leads;
      such = l.such;
    }

-- A file has the blocks of another's trees, and the limits on them.
pub record HasSameTrees (image : List ℕ) (d : Tree) (globals : List Tree) (file : List ℕ) : Type 0 where
  pub block_size : (fields_of file).block_size ≡ (fields_of image).block_size
  pub key_max : (fields_of file).key_max ≡ (fields_of image).key_max
  pub kept : (n : ℕ) → IsIn (blocks_of d globals) n → block_of file n ≡ block_of image n

module _ (image : List ℕ) (bytes : All (λ b. b < 256) image) (d : Tree) (globals : List Tree)
    (s : IsSound image d globals) (p : Place) where
  i : IsImage image
  i = image_of image (lawful_file image d globals s)

  map_is : (m : Globals) × StandsFor image m
  map_is = (one_map image bytes (faultless image d globals s)).0

  abbrev m : Globals
  m = map_is.0

  st : StandsFor image m
  st = map_is.1

  pairs : map pair_item (entries m) ≡ flat_map (λ (t : Tree). t.items) globals
  pairs = ((readings_agree image).pairs bytes d globals m s).0 st

  -- ---- which names the map has

  -- that of an item of a global
  named : (item : Item) → IsIn (flat_map (λ (t : Tree). t.items) globals) item → name_part item.key ≡ p.node.name
      → has_name m p.node.name ≡ true
  named item there name =
      let e = in_map_from pair_item (entries m) item (subst (λ (l : List Item). IsIn l item) (sym pairs) there) in
      let own : e.0.0.node.name ≡ p.node.name =
      sym (key_name e.0.0.node e.0.0.right) ∙ ap (λ (x : Item). name_part x.key) e.2 ∙ name in
      in_any (λ (q : Place). bytes_eq q.node.name p.node.name) (places_of m) e.0.0
      (in_map place_of_pair (entries m) e.0 e.1) ((bytes_eq-Decides e.0.0.node.name p.node.name).1 own)

  -- and no other
  entry_named : has_name m p.node.name ≡ true → IsRootOf d.items (name_key p.node.name) None → ⊥
  entry_named has none =
      let q = any_in (λ (q : Place). bytes_eq q.node.name p.node.name) (places_of m) has in
      let e = in_map_from place_of_pair (entries m) q.0 q.1 in
      let own : e.0.0.node.name ≡ p.node.name =
      ap (λ (r : Place). r.node.name) e.2 ∙ (bytes_eq-Decides q.0.node.name p.node.name).0 q.2 in
      let item : Item = pair_item e.0 in
      let u = in_under image d.items globals item s.global_trees
      (subst (λ (l : List Item). IsIn l item) pairs (in_map pair_item (entries m) e.0 e.1)) in
      let key : u.entry.key ≡ name_key p.node.name =
      entry_key image i d s.directory_tree u.entry u.entry_in
      ∙ ap name_key (sym (entry_name image i d s.directory_tree u.entry u.entry_in u.one u.found item u.item_in)
      ∙ key_name e.0.0.node e.0.0.right ∙ own) in
      let entry : u.entry ≡ record { key = name_key p.node.name; rest = u.entry.rest } =
      (λ j. record { key = key j; rest = u.entry.rest }) in
      none u.entry.rest (Contains-from_in d.items _ (subst (IsIn d.items) entry u.entry_in))

  not_named : IsRootOf d.items (name_key p.node.name) None → has_name m p.node.name ≡ false
  not_named none = by (has_name m p.node.name) refl
    where
      by : (t : Bool) → has_name m p.node.name ≡ t → t ≡ false
      by false e = refl
      by true e = absurd (entry_named e none)

  -- ---- the leaf

  module _ (front : Steps) (root : Visit) (to_root : visit_at image front ≡ Some root) (is_root : root.level ≡ None)
      (key : List ℕ) (deep : IsDeepBelow image root key) (role : root.role ≡ target_role m p.node)
      (own : key ≡ target_key m p.node) where
    deep_node : IsDeep image p.node
    deep_node =
        let all = kept_from_apart image st.kept st.are_kept (sound_apart image d globals s) in
        let path : Steps = front ++ steps_to deep.above in
        let leads = path_to_leaf image i st.kept st.are_kept all front root to_root is_root key deep in
        record {
          map = m;
          stands = st;
          path = path;
          is_kept = all path deep.leaf leads;
          visit = deep.leaf;
          leads = leads;
          leaf = deep.bottom;
          role = same_role image root deep.leaf deep.above 0 deep.lead ∙ role;
          holds = subst (HoldsKey deep.leaf) own (holds_key deep.leaf key deep.holds);
          deep = deep_at_leaf image i st.kept st.are_kept all front root to_root is_root key deep;
        }

  -- where the tree of its global is
  some_item : (root : Visit) (t : Tree) → root.block < (fields_of image).total → tree_at image root ≡ Some t
      → (name : List ℕ) → root.role ≡ global name → (item : Item) × IsIn t.items item
  some_item root t low found name role =
      by t.items (items_of_tree image i (level_of (block_of image root.block)) root t low found).none
    where
      by : (items : List Item) → (items ≡ [] → MayBeEmpty root 0) → (item : Item) × IsIn items item
      by [] none = absurd (no_directory name (sym role ∙ (none refl).role))
      by (x ∷ items) none = (x, inl refl)

  deep_in_global : (rest : List ℕ) → IsIn d.items (entry_of p rest)
      → IsDeepBelow image (root_of (entry_of p rest)) (key_bytes p.node) → IsDeep image p.node
  deep_in_global rest there deep =
      let entry : Item = entry_of p rest in
      let root : Visit = root_of entry in
      let parts = parts_at (λ (e : Item) (w : Tree). tree_at image (root_of e) ≡ Some w) d.items globals s.global_trees
      entry there in
      let points = entry_points image i d s.directory_tree entry there in
      let name : name_part (name_key p.node.name) ≡ p.node.name = name_of_key p.node.name p.right.name in
      let some = some_item root parts.here points.leads.within parts.related (name_part entry.key) refl in
      let has : has_name m p.node.name ≡ true =
      named some.0 (under_in image d.items globals some.0 s.global_trees (record {
        entry = entry;
        entry_in = there;
        one = parts.here;
        found = parts.related;
        item_in = some.1;
      }))
      (entry_name image i d s.directory_tree entry there parts.here parts.related some.0 some.1 ∙ name) in
      let way = entry_leads image (level_of (block_of image 1)) directory_root d entry refl s.directory_tree there in
      deep_node way.path root (way.leads ∙ ap Some way.such) refl (key_bytes p.node) deep
      (ap global name ∙ sym (cond-true (has_name m p.node.name) (global p.node.name) directory has))
      (sym (cond-true (has_name m p.node.name) (key_bytes p.node) (key_bytes (bare p.node.name)) has))

  deep_in_directory : IsRootOf d.items (name_key p.node.name) None
      → IsDeepBelow image directory_root (name_key p.node.name) → IsDeep image p.node
  deep_in_directory none deep =
      let has = not_named none in
      deep_node [] directory_root refl refl (name_key p.node.name) deep
      (sym (cond-false (has_name m p.node.name) (global p.node.name) directory has))
      (sym (cond-false (has_name m p.node.name) (key_bytes p.node) (key_bytes (bare p.node.name)) has
      ∙ bare_key p.node.name))

  -- ---- in a file with the same trees

  module _ (file : List ℕ) (same : HasSameTrees image d globals file) where
    global_carried : IsDeepInGlobal file d p.node → IsDeep image p.node
    global_carried g =
        let entry : Item = entry_of p g.rest in
        let there = in_from_Contains d.items entry g.there in
        let parts = parts_at (λ (e : Item) (w : Tree). tree_at image (root_of e) ≡ Some w) d.items globals
        s.global_trees entry there in
        let points = entry_points image i d s.directory_tree entry there in
        let among : IsIn globals parts.here =
        subst (λ ts. IsIn ts parts.here) (sym parts.seconds)
        (in_right parts.left (parts.here ∷ parts.right) parts.here (inl refl)) in
        deep_in_global g.rest there
        (deep_carried file image i same.block_size same.key_max (root_of entry) parts.here points.leads
        (λ n own. same.kept n (in_right d.blocks (flat_map (λ (t : Tree). t.blocks) globals) n
        (in_flat_map (λ (t : Tree). t.blocks) globals parts.here n among own)))
        parts.related (key_bytes p.node) g.deep)

    pub deep_in_image : IsDeepForNode file d p.node → IsDeep image p.node
    deep_in_image = ⊎_elim
        global_carried
        (λ (g : IsDeepInDirectory file d p.node).
        deep_in_directory g.none
        (deep_carried file image i same.block_size same.key_max directory_root d
        (record {
          positive = omega arith;
          within = omega (arith, i.limits.total_from);
          no_map = λ e. absurd (omega (arith, e));
        })
        (λ n own. same.kept n (in_left d.blocks (flat_map (λ (t : Tree). t.blocks) globals) n own))
        s.directory_tree (name_key p.node.name) g.deep))
