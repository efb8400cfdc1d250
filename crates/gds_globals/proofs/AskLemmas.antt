-- What is known of a node by what is found in the image with an empty draft.
use Rattle.std.proofs.Common.{◌≡◌, ℕ, ◌+◌, ◌<◌, ◌≤◌, List, [], length, Option, None, Some}
use Rattle.std.proofs.Common.{refl, sym, ap, subst, ◌∙◌, arith}
use Rattle.std.specs.Option.{ForSome, SomeIff}
use Rattle.std.proofs.lemmas.Bool.{cond-true, lt-ltb}
use Rattle.std.proofs.lemmas.List.Elements.{All-from_recursion}
use Rattle.m_key.specs.Globals.{Place}
use Rattle.m_key.specs.Key.{key_bytes}
use Rattle.m_key.specs.KeyEnd.{IsKey}
use Rattle.m_key.proofs.NodeEndLemmas.{IsKey-key_bytes}
use Rattle.gds_base.specs.Faultless.{IsFaultless}
use Rattle.gds_block.specs.Block.{level_of}
use Rattle.gds_block.specs.Fields.{u32_at}
use Rattle.gds_block.specs.Item.{Item}
use Rattle.gds_draft.specs.Draft.{DraftState}
use Rattle.gds_draft.specs.Drafted.{drafted, or_block}
use Rattle.gds_draft.specs.Laws.{IsDraftOf}
use Rattle.gds_draft.proofs.DraftLemmas.{drafted_read}
use Rattle.gds_header.specs.declared.header.Header.{Header}
use Rattle.gds_header.specs.Fields.{block_of, fields_of, file_length_of}
use Rattle.gds_header.specs.Kinds.{IsWithinLimits}
use Rattle.gds_epoch.specs.Waiting.{waiting_bytes}
use Rattle.gds_law.specs.Visit.{Visit, directory_root, global_root}
use Rattle.gds_law.proofs.MembershipLemmas.{in_from_Contains}
use Rattle.gds_sound.specs.Sound.{Tree, sound_tree, tree_at}
use Rattle.gds_tree.specs.Keeps.{IsImage, KeepsSizes}
use Rattle.gds_tree.proofs.BelowLemmas.{all_weaker}
use Rattle.gds_tree.proofs.KeptTreeLemmas.{grown}
use Rattle.gds_tree.proofs.PartLemmas.{low_blocks}
use Rattle.gds_find.specs.Found.{IsValueOf}
use Rattle.gds_find.specs.Trail.{HasTrail, HasTreeFor}
use Rattle.gds_find.specs.declared.trail.Trail.{Trail}
use Rattle.gds_globals.specs.Node.{HasValue, IsRootOf, name_key}
use Rattle.gds_globals.proofs.FileLemmas.{directory_low, entry_points, global_tree, no_global, root_low, value_is}

pub drafted_image : (image : List ℕ) (d : DraftState) → IsDraftOf image d → IsImage (drafted d image)
drafted_image image d is =
    let r = drafted_read image d is in
    record {
      limits = subst IsWithinLimits (sym r.fields) is.draft_is.limits;
      whole = omega (arith, r.len, ap file_length_of r.fields);
    }

-- An empty draft of an image.
pub record IsEmptyOf (image : List ℕ) (d : DraftState) : Type 0 where
  pub is_draft : IsDraftOf image d
  pub header : d.header ≡ fields_of image
  pub none : d.units ≡ []

pub empty_of : (told : Option (List ℕ)) (d : DraftState) (h : Header) → d.header ≡ h → d.units ≡ []
    → ForSome told (λ image. fields_of image ≡ h) → ForSome told (λ image. IsDraftOf image d)
    → ForSome told (λ image. IsEmptyOf image d)
empty_of told d h header none fields drafts image is =
    record { is_draft = drafts image is; header = header ∙ sym (fields image is); none = none }

module _ (image : List ℕ) (d : DraftState) (is : IsEmptyOf image d) where
  pub whole_image : IsImage image
  whole_image = record { limits = is.is_draft.limits; whole = omega (arith, is.is_draft.long) }

  fields_same : fields_of (drafted d image) ≡ fields_of image
  fields_same = (drafted_read image d is.is_draft).fields ∙ is.header

  undrafted_block : (n : ℕ) → n < (fields_of image).total → block_of (drafted d image) n ≡ block_of image n
  undrafted_block n low =
      let total : d.header.total ≡ (fields_of image).total = ap (λ (h : Header). h.total) is.header in
      (drafted_read image d is.is_draft).blocks n (omega (arith, total))
      ∙ ap (λ units. or_block d.header image n (waiting_bytes units (n + 1))) is.none
      ∙ cond-true _ _ _ (lt-ltb n (fields_of image).total low)

  -- A tree of the image stands in the image with it.
  pub undrafted : (v : Visit) (t : Tree) → v.block < (fields_of image).total → tree_at image v ≡ Some t
      → tree_at (drafted d image) v ≡ Some t
  undrafted v t low found =
      let new : List ℕ = drafted d image in
      let sizes : KeepsSizes image new = record {
        block_size = ap (λ (h : Header). h.block_size) fields_same;
        key_max = ap (λ (h : Header). h.key_max) fields_same;
        value_max = ap (λ (h : Header). h.value_max) fields_same;
        tn = omega (arith, ap (λ (h : Header). h.tn) fields_same);
      } in
      let level : ℕ = level_of (block_of image v.block) in
      let blocks = All-from_recursion (λ n. block_of new n ≡ block_of image n) t.blocks
      (all_weaker (λ n. n < (fields_of image).total) (λ n. block_of new n ≡ block_of image n) t.blocks undrafted_block
      (low_blocks image whole_image level v t low found)) in
      ap (λ b. sound_tree new (level_of b) v) (undrafted_block v.block low)
      ∙ grown image new v level t whole_image (drafted_image image d is.is_draft) sizes
      (omega (arith, ap (λ (h : Header). h.total) fields_same)) low found blocks

abbrev pub directory_for : (file key : List ℕ) → IsKey key → (t : Tree) → tree_at file directory_root ≡ Some t
    → HasTreeFor file directory_root 1 None key
directory_for file key is_key t found = record {
  block_is = refl;
  level_is = refl;
  tree = t;
  sound = found;
  holds = record { above = tt; below = tt };
  is_key = is_key;
}

pub no_four : (o : Option ℕ) (P : Type 0) (n : ℕ) → SomeIff o P n → o ≡ None → P → ⊥
no_four None P n h e = h
no_four (Some m) P n h e = absurd (cc)

pub the_number : (o : Option ℕ) (P : Type 0) (n m : ℕ) → SomeIff o P n → o ≡ Some m → n ≡ m
the_number None P n m h e = absurd (cc)
the_number (Some k) P n m h e = cc (h.1)

-- ---- in the image with a draft, where it is told

module _ (told : Option (List ℕ)) (d : DraftState) where
  abbrev pub With : (List ℕ → Type 0) → Type 0
  With P = ForSome told (λ image. P (drafted d image))

  -- what a search found, and the value that stands there
  pub value_there : (new : Option (List ℕ)) → new ≡ told → (root : ℕ) (key : List ℕ) (trail : Trail)
      → With (λ file. (v : Visit) → HasTreeFor file v root None key → HasTrail file v key trail)
      → (found value : Option (List ℕ)) → found ≡ value
      → ForSome new (λ image. (v : Visit) (k : List ℕ) (t : Tree) → tree_at (drafted d image) v ≡ Some t
      → HasTrail (drafted d image) v k trail → IsValueOf t.items k found)
      → With (λ file. (v : Visit) (has : HasTreeFor file v root None key) → IsValueOf has.tree.items key value)
  value_there new same root key trail leads found value e h image is v has =
      subst (IsValueOf has.tree.items key) e
      (h image (same ∙ is) v key has.tree has.sound (leads image is v has))

  pub none_there : (new : Option (List ℕ)) → new ≡ told → (root : ℕ) (key : List ℕ) (trail : Trail)
      → With (λ file. (v : Visit) → HasTreeFor file v root None key → HasTrail file v key trail)
      → ForSome new (λ image. (v : Visit) (k : List ℕ) (t : Tree) → tree_at (drafted d image) v ≡ Some t
      → HasTrail (drafted d image) v k trail → ⊥)
      → With (λ file. (v : Visit) → HasTreeFor file v root None key → ⊥)
  none_there new same root key trail leads h image is v has =
      h image (same ∙ is) v key has.tree has.sound (leads image is v has)

  -- what is found in the directory
  abbrev Holds : List ℕ → Option (List ℕ) → Type 0
  Holds key value =
      With (λ file. (v : Visit) (has : HasTreeFor file v 1 None key) → IsValueOf has.tree.items key value)

  pub no_directory : (key : List ℕ) → IsKey key
      → With (λ file. (v : Visit) → HasTreeFor file v 1 None key → ⊥)
      → With (λ file. (t : Tree) → tree_at file directory_root ≡ Some t → ⊥)
  no_directory key is_key none image is t found =
      none image is directory_root (directory_for (drafted d image) key is_key t found)

  pub no_root : (key whole : List ℕ) → key ≡ whole → IsKey key → (value : Option (List ℕ)) → value ≡ None
      → Holds key value
      → With (λ file. (t : Tree) → tree_at file directory_root ≡ Some t → IsRootOf t.items whole None)
  no_root key whole same is_key value none h image is t found =
      let has : IsValueOf t.items key value =
      h image is directory_root (directory_for (drafted d image) key is_key t found) in
      subst (λ k. IsRootOf t.items k None) same (subst (IsValueOf t.items key) none has)

  pub root_there : (key whole : List ℕ) → key ≡ whole → IsKey key → (value : Option (List ℕ)) (rest : List ℕ)
      → value ≡ Some rest → Holds key value → (root : ℕ) → u32_at rest 0 ≡ root
      → With (λ file. (t : Tree) → tree_at file directory_root ≡ Some t → IsRootOf t.items whole (Some root))
  root_there key whole same is_key value rest some h root is_root image is t found =
      let has : IsValueOf t.items key value =
      h image is directory_root (directory_for (drafted d image) key is_key t found) in
      subst (λ k. IsRootOf t.items k (Some root)) same (rest, subst (IsValueOf t.items key) some has, is_root)

  pub no_pointer : ForSome told (λ image. IsDraftOf image d) → (key : List ℕ) → IsKey key
      → (value : Option (List ℕ)) (rest : List ℕ) → value ≡ Some rest → Holds key value → (length rest ≡ 4 → ⊥)
      → With (λ file. (t : Tree) → tree_at file directory_root ≡ Some t → ⊥)
  no_pointer drafts key is_key value rest some h short image is t found =
      let file : List ℕ = drafted d image in
      let item : Item = record { key = key; rest = rest } in
      let has : IsValueOf t.items key value = h image is directory_root (directory_for file key is_key t found) in
      let there = in_from_Contains t.items item (subst (IsValueOf t.items key) some has) in
      short (entry_points file (drafted_image image d (drafts image is)) t found item there).size

-- ---- a node

module _ (told : Option (List ℕ)) (d : DraftState) (empty : ForSome told (λ image. IsEmptyOf image d))
    (faultless : ForSome told IsFaultless) (p : Place) where
  abbrev pub Directory : Option ℕ → Type 0
  Directory root =
      With told d (λ file. (t : Tree) → tree_at file directory_root ≡ Some t
      → IsRootOf t.items (name_key p.node.name) root)

  pub in_directory : (image : List ℕ) (is : told ≡ Some image) (root : Option ℕ) → Directory root
      → IsRootOf (faultless image is).directory.items (name_key p.node.name) root
  in_directory image is root h =
      let f = faultless image is in
      let e = empty image is in
      h image is f.directory
      (undrafted image d e directory_root f.directory (directory_low image (whole_image image d e))
      f.sound.directory_tree)

  pub never_changed : With told d (λ file. (t : Tree) → tree_at file directory_root ≡ Some t → ⊥) → told ≡ None
  never_changed h = by told refl
    where
      by : (o : Option (List ℕ)) → told ≡ o → o ≡ None
      by None e = refl
      by (Some image) e =
          let f = faultless image e in
          let m = empty image e in
          absurd (h image e f.directory
          (undrafted image d m directory_root f.directory (directory_low image (whole_image image d m))
          f.sound.directory_tree))

  pub no_node : Directory None → ForSome told (λ image. HasValue image p None)
  no_node h image is m st =
      let f = faultless image is in
      let whole = whole_image image d (empty image is) in
      no_global image whole f.directory f.globals f.sound m st p (in_directory image is None h)

  module _ (root : ℕ) (leads : Directory (Some root)) (key : List ℕ) (same : key ≡ key_bytes p.node)
      (short : length key ≤ 255) where
    record Found (image : List ℕ) : Type 0 where
      tree : Tree
      found : tree_at image (global_root root p.node.name) ≡ Some tree
      drafts : tree_at (drafted d image) (global_root root p.node.name) ≡ Some tree

    the_tree : (image : List ℕ) (is : told ≡ Some image) → Found image
    the_tree image is =
        let f = faultless image is in
        let m = empty image is in
        let whole = whole_image image d m in
        let own = in_directory image is (Some root) leads in
        let t = global_tree image whole f.directory f.globals f.sound p root own in
        record {
          tree = t.0;
          found = t.1;
          drafts = undrafted image d m (global_root root p.node.name) t.0
              (root_low image whole f.directory f.globals f.sound p root own) t.1;
        }

    abbrev has_tree : (image : List ℕ) (is : told ≡ Some image)
        → HasTreeFor (drafted d image) (global_root root p.node.name) root None key
    has_tree image is = record {
      block_is = refl;
      level_is = refl;
      tree = (the_tree image is).tree;
      sound = (the_tree image is).drafts;
      holds = record { above = tt; below = tt };
      is_key = subst IsKey (sym same)
          (IsKey-key_bytes p.node p.right (omega (arith, ap length same, short)));
    }

    pub node_there : (value : Option (List ℕ))
        → With told d (λ file. (v : Visit) (has : HasTreeFor file v root None key) → IsValueOf has.tree.items key value)
        → ForSome told (λ image. HasValue image p value)
    node_there value h image is m st =
        let f = faultless image is in
        let whole = whole_image image d (empty image is) in
        value_is image whole f.directory f.globals f.sound m st p root (in_directory image is (Some root) leads)
        (the_tree image is).tree (the_tree image is).found value
        (subst (λ k. IsValueOf (the_tree image is).tree.items k value) same
        (h image is (global_root root p.node.name) (has_tree image is)))

    pub never_without : With told d (λ file. (v : Visit) → HasTreeFor file v root None key → ⊥)
        → told ≡ None
    never_without h = by told refl
      where
        by : (o : Option (List ℕ)) → told ≡ o → o ≡ None
        by None e = refl
        by (Some image) e = absurd (h image e (global_root root p.node.name) (has_tree image e))
