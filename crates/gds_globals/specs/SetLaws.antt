-- What becomes of a sound file by a SET: in a global that there is, and in one that comes.
use Rattle.std.specs.Prelude.{◌≡◌, ℕ, ◌<◌, ◌≤◌, All, Contains, List, [], ◌∷◌, length, None, Some}
use Rattle.gds_block.specs.Fields.{u32_at}
use Rattle.gds_block.specs.Item.{Item}
use Rattle.gds_file.specs.Change.{SetsItem, item_at, items_in}
use Rattle.gds_file.specs.Rewrite.{Rewrites}
use Rattle.gds_header.specs.Fields.{fields_of}
use Rattle.gds_law.specs.Visit.{directory_root}
use Rattle.gds_sound.specs.Sound.{IsSound, Tree, root_of, tree_at}
use Rattle.gds_sound.specs.Stands.{StandsFor}
use Rattle.gds_splice.specs.Parted.{IsPackedAt, TakesAll, TreeBecomes}
use Rattle.m_key.specs.Globals.{Globals, Place, after, set_value}
use Rattle.m_key.specs.Key.{key_bytes}
use Rattle.gds_globals.specs.Node.{IsRootOf, name_key}

-- The file is sound, and an item is set among those that its globals had.
pub record IsSoundWith (file : List ℕ) (old : List Tree) (item : Item) : Type 0 where
  pub directory : Tree
  pub globals : List Tree
  pub sound : IsSound file directory globals
  pub sets : SetsItem (items_in old) (items_in globals) item

-- Where the item is one of a node, the file stands for the map after a SET of the node.
abbrev pub SetIsInMap : Type 0
SetIsInMap =
    (before file : List ℕ) (directory : Tree) (globals : List Tree) (m : Globals) (p : Place) (value : List ℕ)
    → IsSound before directory globals → StandsFor before m → All (λ b. b < 256) file
    → IsSoundWith file globals (item_at p.node value) → StandsFor file (after m (set_value p value))

-- An item is set in the tree that an entry of the directory leads to.
abbrev pub SetInGlobal : Type 0
SetInGlobal =
    (before file : List ℕ) (directory old : Tree) (globals : List Tree) (entry item : Item) (items : List Item)
    → IsSound before directory globals → Contains directory.items entry → tree_at before (root_of entry) ≡ Some old
    → SetsItem old.items items item → TreeBecomes before file (root_of entry) old.blocks items
    → IsSoundWith file globals item

-- Two free blocks were taken and written as a root and the leaf below it, which has one item.
pub record Plants (before file : List ℕ) (root leaf : ℕ) (item : Item) : Type 0 where
  pub mid : List ℕ
  pub taken : TakesAll before mid (root ∷ leaf ∷ [])
  pub rewrites : Rewrites mid file (root ∷ leaf ∷ [])
  pub pointer : List ℕ
  pub size : length pointer ≡ 4
  pub leads : u32_at pointer 0 ≡ leaf
  pub root_at : IsPackedAt file root 1 (record { key = []; rest = pointer } ∷ [])
  pub leaf_at : IsPackedAt file leaf 0 (item ∷ [])

-- The directory has no entry of a node's name. A tree with the node's item is planted, and then an entry that leads to
-- it is set in the directory.
abbrev pub SetInNewGlobal : Type 0
SetInNewGlobal =
    (before planted file : List ℕ) (directory : Tree) (globals : List Tree) (p : Place) (value rest : List ℕ)
    (root leaf : ℕ) (items : List Item)
    → IsSound before directory globals → IsRootOf directory.items (name_key p.node.name) None
    → length (key_bytes p.node) ≤ (fields_of before).key_max → length value ≤ (fields_of before).value_max
    → All (λ b. b < 256) (key_bytes p.node)
    → Plants before planted root leaf (item_at p.node value) → u32_at rest 0 ≡ root
    → SetsItem directory.items items (record { key = name_key p.node.name; rest = rest })
    → TreeBecomes planted file directory_root directory.blocks items
    → IsSoundWith file globals (item_at p.node value)
