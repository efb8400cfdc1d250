-- A second reading of files, by recursion on the levels of their trees: which trees and files are sound.
use Rattle.std.specs.Prelude.{◌≡◌, ◌↔◌, ℕ, zero, suc, ◌+◌, ◌<◌, ◌%◌, ◌==◌, Bool, false, ◌&&◌, ◌||◌, nat_eq, IsTrue}
use Rattle.std.specs.Prelude.{List, [], ◌∷◌, ◌++◌, length, map, flat_map, All, Option, None, Some, option_map}
use Rattle.std.specs.Prelude.{option_and_then, if◌then◌else◌}
use Rattle.std.specs.List.{list_any, AllZip, IsDistinct}
use Rattle.std.specs.FinMap.{entries}
use Rattle.m_key.specs.Key.{key_bytes}
use Rattle.m_key.specs.Globals.{Globals}
use Rattle.gds_block.specs.Fields.{u32_at}
use Rattle.gds_block.specs.Block.{version_of, reserved_of, level_of, used_of, tn_of}
use Rattle.gds_bitmap.specs.Bitmap.{pair_of, is_free_at}
use Rattle.gds_header.specs.Fields.{fields_of, block_of}
use Rattle.gds_header.specs.Kinds.{header_faults, groups_of, has_free}
use Rattle.gds_block.specs.Item.{Item}
use Rattle.gds_law.specs.Visit.{Visit, Child, directory_root, global_root}
use Rattle.gds_law.specs.BlockReading.{reading_of}
use Rattle.m_key.specs.KeyParts.{name_part}
use Rattle.gds_law.specs.Block.{kinds_of_block}
use Rattle.gds_law.specs.Path.{children_at}
use Rattle.gds_law.specs.Maps.{map_number, map_of, is_present, has_free_place, free_blocks}
use Rattle.gds_law.specs.Faults.{AreFaults}
use Rattle.gds_sound.specs.Stands.{items_of, StandsFor}

-- the blocks of a tree in reading order, and the items of its level-0 blocks
pub record Tree : Type 0 where
  pub blocks : List ℕ
  pub items : List Item

abbrev pub joined : Tree → Tree → Tree
joined a b = record { blocks = a.blocks ++ b.blocks; items = a.items ++ b.items }

-- the trees below records one after another, together
abbrev pub forest_of : (Visit → Option Tree) → List Child → Option Tree
forest_of tree [] = Some (record { blocks = []; items = [] })
forest_of tree (c ∷ cs) = option_and_then (λ t. option_map (joined t) (forest_of tree cs)) (tree c.visit)

-- The block of a visit has a level, and nothing is wrong with it.
abbrev pub is_faultless : List ℕ → Visit → ℕ → Bool
is_faultless image v level =
    let bytes = block_of image v.block in
    (level_of bytes == level) && (length (kinds_of_block (reading_of (fields_of image) v bytes) bytes) == 0)

abbrev pub items_at : List ℕ → Visit → List Item
items_at image v = let bytes = block_of image v.block in items_of (reading_of (fields_of image) v bytes) bytes

-- The sound tree of a level at a visit, which says the tree's role, the level that is due and the bounds of its keys,
-- if
-- there is one: at level 0 a block with which nothing is wrong, above it such a block and the sound trees below its
-- records.
abbrev pub sound_tree : List ℕ → ℕ → Visit → Option Tree
sound_tree image zero v =
    if is_faultless image v 0 then Some (record { blocks = v.block ∷ []; items = items_at image v }) else None
sound_tree image (suc level) v =
    if is_faultless image v (suc level)
    then option_map (joined (record { blocks = v.block ∷ []; items = [] }))
    (forest_of (sound_tree image level) (children_at image v))
    else None

-- the sound tree of a root, whose level its own block says
abbrev pub tree_at : List ℕ → Visit → Option Tree
tree_at image root = sound_tree image (level_of (block_of image root.block)) root

-- the root of the global of an entry of the directory
abbrev pub root_of : Item → Visit
root_of entry = global_root (u32_at entry.rest 0) (name_part entry.key)

-- A place in a group's map is right: busy where the block is used, free where it isn't, and 00 past the last block.
pub record IsRightPair (image : List ℕ) (used : ℕ → Bool) (group k : ℕ) : Type 0 where
  pub busy : IsTrue (is_present (fields_of image) group k) → IsTrue (used (map_number group + k))
      → pair_of (map_of image group) k ≡ 0
  pub free : IsTrue (is_present (fields_of image) group k) → used (map_number group + k) ≡ false
      → IsTrue (is_free_at (map_of image group) k)
  pub past : is_present (fields_of image) group k ≡ false → pair_of (map_of image group) k ≡ 0

-- A group's map is right: its head, its pairs, and what the master map says of the group.
pub record IsRightMap (image : List ℕ) (used : ℕ → Bool) (group : ℕ) : Type 0 where
  pub version : version_of (map_of image group) ≡ 1
  pub reserved : reserved_of (map_of image group) ≡ 0
  pub level : level_of (map_of image group) ≡ 255
  pub size : used_of (map_of image group) ≡ 144
  pub tn : tn_of (map_of image group) < (fields_of image).tn
  pub pairs : (k : ℕ) → k < 512 → IsRightPair image used group k
  pub master : has_free (fields_of image) group ≡ has_free_place image group

abbrev pub is_in_use : List ℕ → ℕ → Bool
is_in_use blocks block = (block % 512 == 0) || list_any (nat_eq block) blocks

-- A sound file: its header has no fault, so that it is within the limits and has the length that it says; the directory
-- is
-- a sound tree and has one for each of its entries; no block is in them twice; and the maps, the master map and the
-- free
-- count are right.
pub record IsSound (image : List ℕ) (directory : Tree) (globals : List Tree) : Type 0 where
  pub header : header_faults image ≡ []
  pub directory_tree : tree_at image directory_root ≡ Some directory
  pub global_trees : AllZip (λ entry tree. tree_at image (root_of entry) ≡ Some tree) directory.items globals
  pub distinct : IsDistinct nat_eq (directory.blocks ++ flat_map (λ tree. tree.blocks) globals)
  pub maps : (group : ℕ) → group < groups_of (fields_of image) →
      IsRightMap image (is_in_use (directory.blocks ++ flat_map (λ tree. tree.blocks) globals)) group
  pub count : (fields_of image).free ≡ free_blocks image

-- the law of both readings: a file has no fault exactly where it is sound, and then, made of bytes, stands for the map
-- whose
-- pairs are the items of its globals' trees
pub record ReadingsAgree (image : List ℕ) : Type 0 where
  pub sound : AreFaults image [] → (directory : Tree) × (globals : List Tree) × IsSound image directory globals
  pub faultless : (directory : Tree) (globals : List Tree) → IsSound image directory globals → AreFaults image []
  pub pairs : All (λ b. b < 256) image → (directory : Tree) (globals : List Tree) (m : Globals)
      → IsSound image directory globals →
      StandsFor image m
      ↔ (map (λ e. record { key = key_bytes e.0.node; rest = e.1 }) (entries m) ≡ flat_map (λ tree. tree.items) globals)

-- the law that a file of bytes without faults stands for exactly one map
abbrev pub HasOneMap : List ℕ → Type 0
HasOneMap image =
    ((m : Globals) × StandsFor image m) × ((a b : Globals) → StandsFor image a → StandsFor image b → a ≡ b)
