-- In which tree a node or a descendant has an item, in the image with a draft.
use Rattle.std.proofs.Common.{◌≡◌, ℕ, ◌≤◌, Bool, true, false, List, length, Option, None, Some, sym, subst, ap, ◌∙◌}
use Rattle.std.proofs.Common.{refl, arith}
use Rattle.std.specs.Option.{ForSome}
use Rattle.std.specs.declared.ops.Bound.TheVariants.{Included}
use Rattle.m_key.specs.Globals.{Place}
use Rattle.m_key.specs.Key.{key_bytes}
use Rattle.m_key.specs.KeyEnd.{IsKey}
use Rattle.m_key.proofs.NodeEndLemmas.{IsKey-key_bytes}
use Rattle.gds_draft.specs.Draft.{DraftState}
use Rattle.gds_draft.specs.Drafted.{drafted}
use Rattle.gds_find.specs.Next.{HasTreeFrom}
use Rattle.gds_law.specs.Visit.{Visit, directory_root}
use Rattle.gds_sound.specs.Sound.{Tree, root_of, tree_at}
use Rattle.gds_globals.specs.Killing.{HasTrees, IsRootWithin, TellsWithin}
use Rattle.gds_globals.specs.Node.{IsRootOf, name_key}
use Rattle.gds_globals.proofs.FileLemmas.{entry_of}
use Rattle.gds_globals.proofs.FirstLemmas.{Tells}
use Rattle.gds_globals.proofs.OwnTreeLemmas.{OwnTree, no_root, none_in_tree, own_tree, some_in_tree}

module _ (told : Option (List ℕ)) (draft : DraftState) (p : Place) where
  abbrev pub Roots : Option ℕ → Type 0
  Roots root =
      ForSome told (λ image. (d : Tree) (globals : List Tree) → HasTrees (drafted draft image) d globals
      → IsRootWithin d globals p.node root)

  abbrev pub NoTrees : Type 0
  NoTrees = ForSome told (λ image. (d : Tree) (globals : List Tree) → HasTrees (drafted draft image) d globals → ⊥)

  abbrev pub Leads : Option ℕ → Type 0
  Leads found =
      ForSome told (λ image. (t : Tree) → tree_at (drafted draft image) directory_root ≡ Some t
      → IsRootOf t.items (name_key p.node.name) found)

  pub no_directory : ForSome told (λ image. (t : Tree) → tree_at (drafted draft image) directory_root ≡ Some t → ⊥)
      → NoTrees
  no_directory none image is d globals has = none image is d has.sound.directory_tree

  pub not_named : (found : Option ℕ) → found ≡ None → Leads found → Roots None
  not_named found is_none leads image is d globals has =
      no_root (drafted draft image) d globals has p
      (subst (IsRootOf d.items (name_key p.node.name)) is_none (leads image is d has.sound.directory_tree))

  module _ (new : Option (List ℕ)) (same : new ≡ told) (root : ℕ) (found : Option ℕ) (is_found : found ≡ Some root)
      (leads : Leads found) (key : List ℕ) (key_is : key ≡ key_bytes p.node) (short : length key ≤ 255) where
    own : (image : List ℕ) → told ≡ Some image → (d : Tree) (globals : List Tree)
        → (has : HasTrees (drafted draft image) d globals) → OwnTree (drafted draft image) d globals has p root
    own image is d globals has =
        own_tree (drafted draft image) d globals has p root
        (subst (IsRootOf d.items (name_key p.node.name)) is_found (leads image is d has.sound.directory_tree))

    abbrev has_from : (image : List ℕ) (is : told ≡ Some image) (d : Tree) (globals : List Tree)
        (has : HasTrees (drafted draft image) d globals)
        → HasTreeFrom (drafted draft image) (root_of (entry_of p (own image is d globals has).rest)) root None
        (Included key)
    has_from image is d globals has = record {
      block_is = (own image is d globals has).leads;
      level_is = refl;
      tree = (own image is d globals has).tree;
      sound = (own image is d globals has).found;
      within = record {
        is_key = subst IsKey (sym key_is)
            (IsKey-key_bytes p.node p.right (omega (arith, ap length key_is, short)));
        holds = record { above = tt; below = tt };
      };
    }

    pub no_tree : ForSome new (λ image. (v : Visit) → HasTreeFrom (drafted draft image) v root None (Included key) → ⊥)
        → NoTrees
    no_tree none image is d globals has =
        none image (same ∙ is) (root_of (entry_of p (own image is d globals has).rest))
        (has_from image is d globals has)

    tells_there : (r : Bool) → Tells new draft root key r → (image : List ℕ) (is : told ≡ Some image) (d : Tree)
        (globals : List Tree) (has : HasTrees (drafted draft image) d globals)
        → TellsWithin p.node (own image is d globals has).tree.items r
    tells_there r tells image is d globals has =
        tells image (same ∙ is) (root_of (entry_of p (own image is d globals has).rest))
        (has_from image is d globals has) p.node key_is

    pub none_there : (r : Bool) → r ≡ false → Tells new draft root key r → Roots None
    none_there r none tells image is d globals has =
        none_in_tree (drafted draft image) d globals has p root (own image is d globals has)
        (subst (TellsWithin p.node (own image is d globals has).tree.items) none
        (tells_there r tells image is d globals has))

    pub some_there : (r : Bool) → r ≡ true → Tells new draft root key r → Roots (Some root)
    some_there r some tells image is d globals has = (
      subst (IsRootOf d.items (name_key p.node.name)) is_found (leads image is d has.sound.directory_tree),
      some_in_tree (drafted draft image) d globals has p root (own image is d globals has)
          (subst (TellsWithin p.node (own image is d globals has).tree.items) some
          (tells_there r tells image is d globals has)),
    )
