-- A KILL in the image with a draft: what is found, and what is left.
use Rattle.std.specs.Prelude.{◌≡◌, ◌<◌, ◌^◌, ◌≤◌, ℕ, Bool, true, false, IsTrue, All, Contains, List, [], ◌∷◌, Option}
use Rattle.std.specs.Prelude.{None, Some}
use Rattle.std.specs.Option.{ForSome}
use Rattle.gds_base.specs.Faultless.{IsFaultless}
use Rattle.gds_base.specs.Spaces.{blocks_beside_maps}
use Rattle.gds_block.specs.Item.{Item}
use Rattle.gds_draft.specs.Committed.{IsCommitted}
use Rattle.gds_draft.specs.Draft.{DraftState}
use Rattle.gds_draft.specs.Drafted.{drafted}
use Rattle.gds_file.specs.Change.{is_within, items_in, items_outside}
use Rattle.gds_file.specs.FileLaws.{IsLawful, StandsAt}
use Rattle.gds_file.specs.Maps.{has_block, is_busy}
use Rattle.gds_file.specs.Rewrite.{AreAllBusy}
use Rattle.gds_header.specs.Fields.{fields_of}
use Rattle.gds_header.specs.declared.header.Header.{Header}
use Rattle.gds_law.specs.Visit.{directory_root}
use Rattle.gds_sound.specs.Sound.{IsSound, Tree}
use Rattle.gds_sound.specs.Stands.{StandsFor}
use Rattle.gds_splice.specs.Parted.{TreeBecomes}
use Rattle.gds_tree.specs.Lawful.{IsTreeNumber}
use Rattle.m_key.specs.Globals.{Globals, Place, after, kill}
use Rattle.m_key.specs.Node.{Node}
use Rattle.gds_globals.specs.Kill.{IsSomethingThere}
use Rattle.gds_globals.specs.Node.{IsRootOf, name_key}

-- A file of bytes is sound with these trees.
pub record HasTrees (file : List ℕ) (directory : Tree) (globals : List Tree) : Type 0 where
  pub sound : IsSound file directory globals
  pub bytes : All (λ b. b < 256) file

-- ---- what is found

-- One of these items is a node's or a descendant's, or none is.
pub record HasWithin (node : Node) (items : List Item) : Type 0 where
  pub item : Item
  pub there : Contains items item
  pub within : IsTrue (is_within node item.key)

abbrev pub HasNoneWithin : Node → List Item → Type 0
HasNoneWithin node items = (item : Item) → Contains items item → is_within node item.key ≡ false

abbrev pub TellsWithin : Node → List Item → Bool → Type 0
TellsWithin node items true = HasWithin node items
TellsWithin node items false = HasNoneWithin node items

-- The directory names this root for the node's global, and an item below it is the node's or a descendant's; or none is
-- anywhere.
abbrev pub IsRootWithin : Tree → List Tree → Node → Option ℕ → Type 0
IsRootWithin directory globals node (Some root) =
    IsRootOf directory.items (name_key node.name) (Some root) × HasWithin node (items_in globals)
IsRootWithin directory globals node None = HasNoneWithin node (items_in globals)

-- ---- what is left

-- The file is sound, and of the items of its globals those of the node and its descendants are gone.
pub record IsSoundWithout (file : List ℕ) (old : List Tree) (node : Node) : Type 0 where
  pub directory : Tree
  pub globals : List Tree
  pub sound : IsSound file directory globals
  pub outside : items_in globals ≡ items_outside node (items_in old)

-- the node of a global's name
abbrev pub name_node : List ℕ → Node
name_node name = record { name = name; subscripts = [] }

-- The directory stands, and a root that is busy and none of its blocks, in a file with lawful maps.
pub record MayDrop (file : List ℕ) (directory : Tree) (root : ℕ) : Type 0 where
  pub stands : StandsAt file directory_root directory
  pub busy : AreAllBusy file directory.blocks
  pub maps : IsLawful file
  pub number : IsTreeNumber (fields_of file).total root
  pub root_busy : IsTrue (is_busy file root)
  pub other : has_block directory.blocks root ≡ false

-- The root is free, and the directory has no entry of the name.
abbrev pub DropsGlobal : ℕ → List ℕ → List ℕ → List ℕ → Type 0
DropsGlobal root name before after =
    (directory : Tree) → MayDrop before directory root
    → TreeBecomes before after directory_root (root ∷ directory.blocks)
    (items_outside (name_node name) directory.items)

abbrev pub CannotDrop : ℕ → List ℕ → Type 0
CannotDrop root file = (directory : Tree) → MayDrop file directory root → ⊥

-- ---- a draft that is ready for a commit

-- What a commit of the draft makes of the image stands for the map after the KILL, for each that the image stood for.
abbrev pub LeadsToKill : DraftState → Place → List ℕ → Type 0
LeadsToKill draft p image =
    (file : List ℕ) → IsCommitted draft image file → (m : Globals) → StandsFor image m
    → StandsFor file (after m (kill p))

-- The draft of a KILL that takes something: a transaction number is left for it, few of its blocks are no maps, and
-- with it the image has no fault.
pub record IsReadyKill (told : Option (List ℕ)) (h : Header) (p : Place) (draft : DraftState) : Type 0 where
  pub unspent : h.tn < 2 ^ 63
  pub header : draft.header ≡ record h { free = draft.header.free; master = draft.header.master }
  pub few : blocks_beside_maps draft ≤ 48
  pub faultless : ForSome told (λ image. IsFaultless (drafted draft image))
  pub leads : ForSome told (LeadsToKill draft p)
  pub takes : ForSome told (IsSomethingThere p.node)
