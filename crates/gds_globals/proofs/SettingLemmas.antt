-- What SET in one tree makes of a sound file.
use Rattle.std.proofs.Common.{◌≡◌, ℕ, ◌<◌, ◌≤◌, ◌^◌, List, length, Option, None, Some, Result, inl, inr, refl}
use Rattle.std.proofs.Common.{ap, subst, ◌∙◌, arith}
use Rattle.std.specs.Prelude.{All, Contains, OnOk}
use Rattle.std.specs.Option.{ForSome}
use Rattle.std.proofs.lemmas.Result.{on_ok_weaker}
use Rattle.gds_base.specs.declared.error.BaseError.{BaseError}
use Rattle.gds_block.proofs.FieldLemmas.{length-u32_bytes}
use Rattle.gds_draft.specs.Draft.{DraftState}
use Rattle.gds_draft.specs.Drafted.{drafted}
use Rattle.gds_draft.specs.Laws.{IsDraftOf}
use Rattle.gds_file.specs.FileLaws.{IsLawful}
use Rattle.gds_header.specs.declared.header.Header.{Header}
use Rattle.gds_splice.proofs.EntriesPutLemmas.{drafted_fields}
use Rattle.gds_block.specs.Fields.{u32_at, u32_bytes}
use Rattle.gds_block.specs.Item.{Item}
use Rattle.gds_file.specs.Change.{item_at}
use Rattle.gds_header.specs.Fields.{fields_of}
use Rattle.gds_insert.specs.SetIn.{CannotSet, IsDeep, MaySet, SetsIn}
use Rattle.gds_sound.proofs.HeaderLemmas.{limits_of}
use Rattle.gds_law.specs.Visit.{directory_root}
use Rattle.gds_law.proofs.MembershipLemmas.{in_from_Contains}
use Rattle.gds_sound.specs.Sound.{IsSound, Tree, root_of, tree_at}
use Rattle.m_key.specs.Globals.{Place}
use Rattle.m_key.specs.Key.{key_bytes}
use Rattle.gds_globals.specs.Deep.{IsDeepForNode, IsDeepInDirectory, IsDeepInGlobal}
use Rattle.gds_globals.specs.Node.{IsRootOf, name_key}
use Rattle.gds_globals.specs.Planting.{IsPlanted}
use Rattle.gds_globals.specs.SetLaws.{IsSoundWith}
use Rattle.gds_globals.proofs.FileLemmas.{entry_of}
use Rattle.gds_globals.proofs.MayLemmas.{deep_before, may_in_directory, may_in_global}
use Rattle.gds_globals.proofs.NewGlobalLemmas.{free_left, lawful_file, set_in_new_global}
use Rattle.gds_globals.proofs.PlantingLemmas.{leads_back}
use Rattle.gds_globals.proofs.SetLemmas.{parts_at, set_in_global}

module _ (before : List ℕ) (d : Tree) (globals : List Tree) (s : IsSound before d globals) (p : Place)
    (value : List ℕ) (short : length (key_bytes p.node) ≤ (fields_of before).key_max)
    (small : length value ≤ (fields_of before).value_max) (bytes : All (λ b. b < 256) (key_bytes p.node)) where
  -- the tree in which an item may be set
  record MayInGlobal (root : ℕ) : Type 0 where
    rest : List ℕ
    tree : Tree
    there : Contains d.items (entry_of p rest)
    found : tree_at before (root_of (entry_of p rest)) ≡ Some tree
    leads : u32_at rest 0 ≡ root
    may : MaySet before (root_of (entry_of p rest)) tree (key_bytes p.node) value

  old_may : (root : ℕ) → IsRootOf d.items (name_key p.node.name) (Some root) → MayInGlobal root
  old_may root (rest, there, leads) =
      let entry : Item = entry_of p rest in
      let parts = parts_at (λ (e : Item) (w : Tree). tree_at before (root_of e) ≡ Some w) d.items globals
      s.global_trees entry (in_from_Contains d.items entry there) in
      record {
        rest = rest;
        tree = parts.here;
        there = there;
        found = parts.related;
        leads = leads;
        may = may_in_global before d globals s p value short small bytes rest root there leads parts.here parts.related;
      }

  pub set_in_old : (file : List ℕ) (root : ℕ) → IsRootOf d.items (name_key p.node.name) (Some root)
      → SetsIn root (key_bytes p.node) value before file → IsSoundWith file globals (item_at p.node value)
  set_in_old file root is sets =
      let old = old_may root is in
      let has = sets (root_of (entry_of p old.rest)) old.tree old.leads old.may in
      set_in_global before file d old.tree globals (entry_of p old.rest) (item_at p.node value) has.items s old.there
      old.found has.sets has.becomes

  pub cannot_in_old : (root : ℕ) → IsRootOf d.items (name_key p.node.name) (Some root)
      → CannotSet root (key_bytes p.node) value before → 15 ≤ (fields_of before).free → ⊥
  cannot_in_old root is cannot enough =
      let old = old_may root is in cannot (root_of (entry_of p old.rest)) old.tree old.leads old.may enough

  pub deep_in_old : (root : ℕ) → IsRootOf d.items (name_key p.node.name) (Some root)
      → IsDeep root (key_bytes p.node) value before → IsDeepInGlobal before d p.node
  deep_in_old root is deep =
      let old = old_may root is in
      record {
        rest = old.rest;
        there = old.there;
        deep = deep (root_of (entry_of p old.rest)) old.tree old.leads old.may;
      }

  module _ (planted pointer : List ℕ) (root : ℕ) (none : IsRootOf d.items (name_key p.node.name) None)
      (own : IsPlanted before planted root (item_at p.node value)) (size : length pointer ≡ 4)
      (leads : u32_at pointer 0 ≡ root) where
    new_may : MaySet planted directory_root d (name_key p.node.name) pointer
    new_may =
        may_in_directory before d globals s p value short small bytes planted root own.0 own.1 pointer size leads

    pub set_in_planted : (file : List ℕ) → SetsIn 1 (name_key p.node.name) pointer planted file
        → IsSoundWith file globals (item_at p.node value)
    set_in_planted file sets =
        let has = sets directory_root d refl new_may in
        set_in_new_global before planted file d globals p value pointer root own.0 has.items s none short small bytes
        own.1 leads has.sets has.becomes

    pub cannot_in_planted : CannotSet 1 (name_key p.node.name) pointer planted → 17 ≤ (fields_of before).free → ⊥
    cannot_in_planted cannot enough =
        cannot directory_root d refl new_may
        (omega (arith, enough, free_left before planted d globals s p value root own.0 short small bytes own.1))

    pub deep_in_planted : IsDeep 1 (name_key p.node.name) pointer planted → IsDeepInDirectory before d p.node
    deep_in_planted deep = record {
      none = none;
      deep = deep_before before d globals s p value short small bytes planted root own.0 own.1 pointer size leads
          (deep directory_root d refl new_may);
    }

-- ---- in the image with a draft, where it is told

module _ (told new : Option (List ℕ)) (same : new ≡ told) (old mid : DraftState) (drafts : ForSome told
    (λ image. IsDraftOf image old)) (p : Place) (key value : List ℕ) (key_is : key ≡ key_bytes p.node)
    (short : length key ≤ old.header.key_max) (small : length value ≤ old.header.value_max)
    (bytes : All (λ b. b < 256) key) where
  abbrev pub Cannot : Type 0
  Cannot =
      ForSome told (λ image. (d : Tree) (globals : List Tree) → IsSound (drafted old image) d globals
      → 17 ≤ old.header.free → ⊥)

  abbrev pub Deep : Type 0
  Deep =
      ForSome told (λ image. (d : Tree) (globals : List Tree) → IsSound (drafted old image) d globals
      → IsDeepForNode (drafted old image) d p.node)

  abbrev pub Sets : DraftState → Type 0
  Sets last =
      ForSome told (λ image. (d : Tree) (globals : List Tree) → IsSound (drafted old image) d globals
      → IsSoundWith (drafted last image) globals (item_at p.node value))

  short_in : (image : List ℕ) → told ≡ Some image → length (key_bytes p.node) ≤ (fields_of (drafted old image)).key_max
  short_in image is =
      omega (
        arith,
        short,
        ap length key_is,
        ap (λ (h : Header). h.key_max) (drafted_fields image old (drafts image is)),
      )

  small_in : (image : List ℕ) → told ≡ Some image → length value ≤ (fields_of (drafted old image)).value_max
  small_in image is =
      omega (arith, small, ap (λ (h : Header). h.value_max) (drafted_fields image old (drafts image is)))

  free_in : (image : List ℕ) → told ≡ Some image → (fields_of (drafted old image)).free ≡ old.header.free
  free_in image is = ap (λ (h : Header). h.free) (drafted_fields image old (drafts image is))

  bytes_in : All (λ b. b < 256) (key_bytes p.node)
  bytes_in = subst (All (λ b. b < 256)) key_is bytes

  pub old_set : {T : Type 0} (r : Result T BaseError) (last : DraftState) (root : ℕ) (found : Option ℕ)
      → found ≡ Some root
      → ForSome told (λ image. (t : Tree) → tree_at (drafted old image) directory_root ≡ Some t
      → IsRootOf t.items (name_key p.node.name) found)
      → OnOk r (ForSome new (λ image. SetsIn root key value (drafted old image) (drafted last image)))
      → OnOk r (Sets last)
  old_set r last root found is_found leads sets =
      on_ok_weaker r
      (λ sets image is d globals s.
      set_in_old (drafted old image) d globals s p value (short_in image is) (small_in image is) bytes_in
      (drafted last image) root
      (subst (IsRootOf d.items (name_key p.node.name)) is_found (leads image is d s.directory_tree))
      (subst (λ k. SetsIn root k value (drafted old image) (drafted last image)) key_is
      (sets image (same ∙ is)))) sets

  module _ (root : ℕ) (found : Option ℕ) (is_found : found ≡ Some root)
      (leads : ForSome told (λ image. (t : Tree) → tree_at (drafted old image) directory_root ≡ Some t
      → IsRootOf t.items (name_key p.node.name) found)) where
    root_in : (image : List ℕ) → told ≡ Some image → (d : Tree) (globals : List Tree)
        → IsSound (drafted old image) d globals → IsRootOf d.items (name_key p.node.name) (Some root)
    root_in image is d globals s =
        subst (IsRootOf d.items (name_key p.node.name)) is_found (leads image is d s.directory_tree)

    pub old_cannot : ForSome new (λ image. CannotSet root key value (drafted old image)) → Cannot
    old_cannot cannot image is d globals s enough =
        cannot_in_old (drafted old image) d globals s p value (short_in image is) (small_in image is) bytes_in root
        (root_in image is d globals s)
        (subst (λ k. CannotSet root k value (drafted old image)) key_is (cannot image (same ∙ is)))
        (omega (arith, enough, free_in image is))

    pub old_deep : ForSome new (λ image. IsDeep root key value (drafted old image)) → Deep
    old_deep deep image is d globals s =
        inl (deep_in_old (drafted old image) d globals s p value (short_in image is) (small_in image is) bytes_in root
        (root_in image is d globals s)
        (subst (λ k. IsDeep root k value (drafted old image)) key_is (deep image (same ∙ is))))

  -- the number of a free block
  low_number : (image : List ℕ) → told ≡ Some image → (d : Tree) (globals : List Tree)
      → IsSound (drafted old image) d globals → (root : ℕ) (item : Item)
      → IsPlanted (drafted old image) (drafted mid image) root item → root < 2 ^ 32
  low_number image is d globals s root item (leaf, pl) =
      let limits = limits_of (drafted old image) s.header in
      omega (arith, pl.taken.1.within, limits.total_to, limits.limit_to)

  abbrev pub SetsNew : DraftState → Type 0
  SetsNew last =
      ForSome told (λ image. (d : Tree) (globals : List Tree) → IsSound (drafted old image) d globals
      → IsRootOf d.items (name_key p.node.name) None
      → IsSoundWith (drafted last image) globals (item_at p.node value))

  abbrev pub CannotNew : Type 0
  CannotNew =
      ForSome told (λ image. (d : Tree) (globals : List Tree) → IsSound (drafted old image) d globals
      → IsRootOf d.items (name_key p.node.name) None → 17 ≤ old.header.free → ⊥)

  abbrev pub DeepNew : Type 0
  DeepNew =
      ForSome told (λ image. (d : Tree) (globals : List Tree) → IsSound (drafted old image) d globals
      → IsRootOf d.items (name_key p.node.name) None → IsDeepInDirectory (drafted old image) d p.node)

  module _ (root : ℕ) (name pointer : List ℕ) (name_is : name ≡ name_key p.node.name)
      (pointer_is : pointer ≡ u32_bytes root)
      (plants : ForSome told (λ image. IsLawful (drafted old image)
      → IsPlanted (drafted old image) (drafted mid image) root (record { key = key; rest = value }))) where
    planted_in : (image : List ℕ) → told ≡ Some image → (d : Tree) (globals : List Tree)
        → IsSound (drafted old image) d globals
        → IsPlanted (drafted old image) (drafted mid image) root (item_at p.node value)
    planted_in image is d globals s =
        subst (λ k. IsPlanted (drafted old image) (drafted mid image) root (record { key = k; rest = value })) key_is
        (plants image is (lawful_file (drafted old image) d globals s))

    leads_in : (image : List ℕ) → told ≡ Some image → (d : Tree) (globals : List Tree)
        → IsSound (drafted old image) d globals → u32_at (u32_bytes root) 0 ≡ root
    leads_in image is d globals s =
        leads_back root (low_number image is d globals s root (item_at p.node value) (planted_in image is d globals s))

    -- what is said of the directory's tree, with the name's key and the pointer
    at_name : (P : List ℕ → List ℕ → Type 0) → P name pointer → P (name_key p.node.name) (u32_bytes root)
    at_name P is = subst (λ k. P k (u32_bytes root)) name_is (subst (P name) pointer_is is)

    pub new_set : {T : Type 0} (r : Result T BaseError) (last : DraftState)
        → OnOk r (ForSome new (λ image. SetsIn 1 name pointer (drafted mid image) (drafted last image)))
        → OnOk r (SetsNew last)
    new_set r last =
        on_ok_weaker r (λ sets image is d globals s none.
        set_in_planted (drafted old image) d globals s p value (short_in image is) (small_in image is) bytes_in
        (drafted mid image) (u32_bytes root) root none (planted_in image is d globals s) (length-u32_bytes root)
        (leads_in image is d globals s) (drafted last image)
        (at_name (λ k b. SetsIn 1 k b (drafted mid image) (drafted last image)) (sets image (same ∙ is))))

    pub new_cannot : ForSome new (λ image. CannotSet 1 name pointer (drafted mid image)) → CannotNew
    new_cannot cannot image is d globals s none enough =
        cannot_in_planted (drafted old image) d globals s p value (short_in image is) (small_in image is) bytes_in
        (drafted mid image) (u32_bytes root) root none (planted_in image is d globals s) (length-u32_bytes root)
        (leads_in image is d globals s)
        (at_name (λ k b. CannotSet 1 k b (drafted mid image)) (cannot image (same ∙ is)))
        (omega (arith, enough, free_in image is))

    pub new_deep : ForSome new (λ image. IsDeep 1 name pointer (drafted mid image)) → DeepNew
    new_deep deep image is d globals s none =
        deep_in_planted (drafted old image) d globals s p value (short_in image is) (small_in image is) bytes_in
        (drafted mid image) (u32_bytes root) root none (planted_in image is d globals s) (length-u32_bytes root)
        (leads_in image is d globals s)
        (at_name (λ k b. IsDeep 1 k b (drafted mid image)) (deep image (same ∙ is)))

  -- where the directory has no entry of the name
  module _ (found : Option ℕ) (is_found : found ≡ None)
      (leads : ForSome told (λ image. (t : Tree) → tree_at (drafted old image) directory_root ≡ Some t
      → IsRootOf t.items (name_key p.node.name) found)) where
    none_in : (image : List ℕ) → told ≡ Some image → (d : Tree) (globals : List Tree)
        → IsSound (drafted old image) d globals → IsRootOf d.items (name_key p.node.name) None
    none_in image is d globals s =
        subst (IsRootOf d.items (name_key p.node.name)) is_found (leads image is d s.directory_tree)

    pub either_set : {T : Type 0} (r : Result T BaseError) (last : DraftState)
        → OnOk r (ForSome new (λ image. (d : Tree) (globals : List Tree) → IsSound (drafted old image) d globals
        → IsRootOf d.items (name_key p.node.name) None
        → IsSoundWith (drafted last image) globals (item_at p.node value))) → OnOk r (Sets last)
    either_set r last =
        on_ok_weaker r (λ sets image is d globals s.
        sets image (same ∙ is) d globals s (none_in image is d globals s))

    pub either_cannot : ForSome new (λ image. (d : Tree) (globals : List Tree) → IsSound (drafted old image) d globals
        → IsRootOf d.items (name_key p.node.name) None → 17 ≤ old.header.free → ⊥) → Cannot
    either_cannot cannot image is d globals s = cannot image (same ∙ is) d globals s (none_in image is d globals s)

    pub either_deep : ForSome new (λ image. (d : Tree) (globals : List Tree) → IsSound (drafted old image) d globals
        → IsRootOf d.items (name_key p.node.name) None → IsDeepInDirectory (drafted old image) d p.node) → Deep
    either_deep deep image is d globals s =
        inr (deep image (same ∙ is) d globals s (none_in image is d globals s))
