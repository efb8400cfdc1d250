-- A KILL in the image with a draft.
use Rattle.std.proofs.Common.{◌≡◌, ℕ, Bool, true, false, List, Option, Some, Result}
use Rattle.std.proofs.Common.{subst, ◌∙◌, refl}
use Rattle.std.specs.Prelude.{MatchBool, OnOk}
use Rattle.std.specs.Option.{ForSome}
use Rattle.std.proofs.lemmas.Bool.{ne_eqb}
use Rattle.std.proofs.lemmas.Result.{on_ok_weaker}
use Rattle.m_key.specs.Globals.{Place}
use Rattle.m_key.specs.Key.{key_bytes, past_bytes}
use Rattle.gds_base.specs.declared.error.BaseError.{BaseError}
use Rattle.gds_base.specs.Spaces.{Recycles}
use Rattle.gds_block.specs.Fields.{u32_at}
use Rattle.gds_draft.specs.Draft.{DraftState}
use Rattle.gds_draft.specs.Drafted.{drafted}
use Rattle.gds_file.specs.FileLaws.{IsLawful}
use Rattle.gds_sound.specs.Sound.{Tree, root_of}
use Rattle.gds_remove.specs.Killed.{CannotKill, HasKilled, IsEmptied, IsEmptyDirectory, KillsIn}
use Rattle.gds_globals.specs.Killing.{CannotDrop, DropsGlobal, HasTrees, IsSoundWithout, name_node}
use Rattle.gds_globals.specs.Node.{IsRootOf, name_key}
use Rattle.gds_globals.proofs.DropLemmas.{dropped, may_kill_directory}
use Rattle.gds_globals.proofs.FileLemmas.{entry_of}
use Rattle.gds_globals.proofs.KilledLemmas.{may_drop, without_global, without_some}
use Rattle.gds_globals.proofs.OwnTreeLemmas.{OwnTree, may_kill, not_directory, own_tree}

-- ---- the tree of a global

-- whichever trees the file has whose directory names the root
module _ (told : Option (List ℕ)) (old : DraftState) (p : Place) (root : ℕ) where
  abbrev pub Kills : DraftState → Type 0
  Kills last =
      ForSome told (λ image. (d : Tree) (globals : List Tree) → HasTrees (drafted old image) d globals
      → IsRootOf d.items (name_key p.node.name) (Some root)
      → IsSoundWithout (drafted last image) globals p.node)

  abbrev pub Cannot : Type 0
  Cannot =
      ForSome told (λ image. (d : Tree) (globals : List Tree) → HasTrees (drafted old image) d globals
      → IsRootOf d.items (name_key p.node.name) (Some root) → ⊥)

module _ (told : Option (List ℕ)) (old mid : DraftState) (p : Place) (root : ℕ) where
  pub cannot_there : ForSome told (λ image. CannotKill root (drafted old image)) → Cannot told old p root
  cannot_there cannot image is d globals has root_is =
      let own = own_tree (drafted old image) d globals has p root root_is in
      cannot image is (root_of (entry_of p own.rest)) own.tree own.leads
      (may_kill (drafted old image) d globals has p root own)

  module _ (key past : List ℕ) (key_is : key ≡ key_bytes p.node) (past_is : past ≡ past_bytes p.node) (empty : Bool)
      (killed : ForSome told (λ image. KillsIn root key past empty (drafted old image) (drafted mid image))) where
    left_there : (image : List ℕ) → told ≡ Some image → (d : Tree) (globals : List Tree)
        → (has : HasTrees (drafted old image) d globals)
        → (own : OwnTree (drafted old image) d globals has p root) → (b : Bool) → empty ≡ b
        → HasKilled (drafted old image) (drafted mid image) (root_of (entry_of p own.rest)) own.tree
        (key_bytes p.node) (past_bytes p.node) b
    left_there image is d globals has own b is_b =
        let v = root_of (entry_of p own.rest) in
        subst (HasKilled (drafted old image) (drafted mid image) v own.tree (key_bytes p.node) (past_bytes p.node))
        is_b
        (subst (λ k. HasKilled (drafted old image) (drafted mid image) v own.tree k (past_bytes p.node) empty) key_is
        (subst (λ h. HasKilled (drafted old image) (drafted mid image) v own.tree key h empty) past_is
        (killed image is v own.tree own.leads (may_kill (drafted old image) d globals has p root own))))

    -- some items are left
    pub some_left : empty ≡ false → Kills told old p root mid
    some_left some image is d globals has root_is =
        let own = own_tree (drafted old image) d globals has p root root_is in
        without_some (drafted old image) d globals has p root own (drafted mid image)
        (left_there image is d globals has own false some).1

    -- none is
    module _ (none : empty ≡ true) where
      emptied : (image : List ℕ) (is : told ≡ Some image) (d : Tree) (globals : List Tree)
          (has : HasTrees (drafted old image) d globals) (own : OwnTree (drafted old image) d globals has p root)
          → IsEmptied (drafted old image) (drafted mid image) (root_of (entry_of p own.rest)) own.tree
      emptied image is d globals has own =
          let v = root_of (entry_of p own.rest) in
          subst (λ b. MatchBool b (IsEmptyDirectory (drafted old image) (drafted mid image) v own.tree)
          (IsEmptied (drafted old image) (drafted mid image) v own.tree))
          (ne_eqb (u32_at own.rest 0) 1 (not_directory (drafted old image) d globals has p root own))
          (left_there image is d globals has own true none).1

      module _ (new : Option (List ℕ)) (same : new ≡ told) where
        pub cannot_drop : ForSome new (λ image. CannotDrop root (drafted mid image)) → Cannot told old p root
        cannot_drop cannot image is d globals has root_is =
            let own = own_tree (drafted old image) d globals has p root root_is in
            cannot image (same ∙ is) d
            (may_drop (drafted old image) d globals has p root own (drafted mid image)
            (emptied image is d globals has own))

        pub none_left : {T : Type 0} (r : Result T BaseError) (last : DraftState)
            → OnOk r (ForSome new (λ image. DropsGlobal root p.node.name (drafted mid image) (drafted last image)))
            → OnOk r (Kills told old p root last)
        none_left r last =
            on_ok_weaker r (λ drops image is d globals has root_is.
            let own = own_tree (drafted old image) d globals has p root root_is in
            let e = emptied image is d globals has own in
            without_global (drafted old image) d globals has p root own (drafted mid image) e
            (left_there image is d globals has own true none).0 (drafted last image)
            (drops image (same ∙ is) d
            (may_drop (drafted old image) d globals has p root own (drafted mid image) e)))

-- ---- a root that is given back

module _ (told : Option (List ℕ)) (old mid : DraftState) (root : ℕ) (name : List ℕ) where
  abbrev pub Drops : DraftState → Type 0
  Drops last = ForSome told (λ image. DropsGlobal root name (drafted old image) (drafted last image))

  abbrev pub CannotGo : Type 0
  CannotGo = ForSome told (λ image. CannotDrop root (drafted old image))

  pub not_lawful : ForSome told (λ image. IsLawful (drafted old image) → ⊥) → CannotGo
  not_lawful cannot image is d may = cannot image is may.maps

  module _ (freed : ForSome told (λ image. Recycles (drafted old image) (drafted mid image) root))
      (new : Option (List ℕ)) (same : new ≡ told) where
    pub not_directory_there : ForSome new (λ image. CannotKill 1 (drafted mid image)) → CannotGo
    not_directory_there cannot image is d may =
        cannot image (same ∙ is) _ d refl
        (may_kill_directory (drafted old image) (drafted mid image) root d may (freed image is))

    pub drops_there : (last : DraftState) (low high : List ℕ) (empty : Bool) → low ≡ name_key name
        → high ≡ past_bytes (name_node name)
        → ForSome new (λ image. KillsIn 1 low high empty (drafted mid image) (drafted last image)) → Drops last
    drops_there last low high empty low_is high_is kills image is d may =
        dropped (drafted old image) (drafted mid image) root d may (freed image is) (drafted last image) name low high
        empty low_is high_is (kills image (same ∙ is))
