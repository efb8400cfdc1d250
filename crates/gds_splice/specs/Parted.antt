-- A block of a tree with other entries, and what comes of it: it stays one block, or goes into pieces before the index
-- block above it tells of them.
use Rattle.std.specs.Prelude.{◌≡◌, ◌≢◌, ℕ, zero, suc, ◌+◌, ◌*◌, ◌^◌, ◌-◌, ◌%◌, ◌<◌, ◌≤◌, nat_eq, IsTrue, false, All}
use Rattle.std.specs.Prelude.{List, [], ◌∷◌, ◌++◌, length, None, Some}
use Rattle.std.specs.List.{IsDistinct}
use Rattle.gds_block.specs.Item.{Item}
use Rattle.gds_header.specs.Fields.{fields_of, block_of}
use Rattle.gds_header.specs.declared.header.Header.{Header}
use Rattle.gds_law.specs.Visit.{Visit}
use Rattle.gds_pack.specs.Packed.{block_bytes, packed_size}
use Rattle.gds_sound.specs.Sound.{Tree}
use Rattle.gds_tree.specs.Below.{low_behind, trees_below}
use Rattle.gds_tree.specs.Lawful.{IsTreeNumber}
use Rattle.gds_tree.specs.Lawful as entries
use Rattle.gds_tree.specs.RightBlock.{IsDueLevel}
use Rattle.gds_file.specs.FileLaws.{IsLawful, StandsAt}
use Rattle.gds_file.specs.Maps.{has_block, is_busy}
use Rattle.gds_file.specs.Reshape.{Reshapes}
use Rattle.gds_file.specs.Rewrite.{Rewrites, AreAllBusy}
use Rattle.gds_file.specs.Take.{Takes}
use Rattle.gds_file.specs.TakeLaws.{IsFree}
use Rattle.gds_split.specs.Pieces.{AreInAnyOrder, Piece, GoInto, IsWritten, HasPieceTrees, numbers_of}
use Rattle.gds_ancestors.specs.Ancestors.{Ancestor, AreAncestors, items_before, items_behind, outer_blocks}

-- ---- a tree that changes

-- The visit of a root, whose number a tree may have.
pub record IsRoot (file : List ℕ) (root : Visit) : Type 0 where
  pub level : root.level ≡ None
  pub number : IsTreeNumber (fields_of file).total root.block

-- Of these old blocks a sound tree of a root was made, with these items. The rest of the file stays.
pub record TreeBecomes (before after : List ℕ) (root : Visit) (old : List ℕ) (items : List Item) : Type 0 where
  pub tree : Tree
  pub stands : StandsAt after root tree
  pub items_are : tree.items ≡ items
  pub reshapes : Reshapes before after old tree.blocks
  pub lawful : IsLawful after

-- the items of the whole tree around those of a block that its ancestors lead to
abbrev pub items_around : List Ancestor → List Item → List Item
items_around above items = items_before above ++ items ++ items_behind above

-- ---- a block with other entries

-- what stands below the entries of a block of a level: at level 0 the entries themselves are the items
abbrev pub HasBelow : List ℕ → Visit → ℕ → List Item → Tree → Type 0
HasBelow file v zero es below = below ≡ record { blocks = []; items = es }
HasBelow file v (suc level) es below = trees_below file v level v.low es ≡ Some below

-- the blocks of the tree: the block itself, those below, and the outer ones
abbrev pub part_blocks : List Ancestor → Visit → Tree → List ℕ
part_blocks above v below = v.block ∷ below.blocks ++ outer_blocks above

-- These entries may stand in a block of a tree, whatever stands there now: they are lawful for its level and its visit,
-- sound trees stand below them, and ancestors lead to the block. No block is in the tree twice, and all are busy.
pub record MayPart (file : List ℕ) (root : Visit) (above : List Ancestor) (v : Visit) (level : ℕ) (es : List Item)
    (below : Tree) : Type 0 where
  pub is_root : IsRoot file root
  pub lead : AreAncestors file root above v level
  pub due : IsDueLevel v.level level
  pub lawful : entries.IsLawful (fields_of file) v level es
  pub has_below : HasBelow file v level es below
  pub distinct : IsDistinct nat_eq (part_blocks above v below)
  pub busy : AreAllBusy file (part_blocks above v below)
  pub maps : IsLawful file

-- The entries themselves are the items of a level-0 block, and its tree has no other blocks than that one and the outer
-- ones.
pub record LeafParts (file : List ℕ) (root : Visit) (above : List Ancestor) (v : Visit) (es : List Item)
    (blocks : List ℕ) : Type 0 where
  pub may : MayPart file root above v 0 es (record { blocks = []; items = es })
  pub order : AreInAnyOrder (part_blocks above v (record { blocks = []; items = es })) blocks

-- A block has these entries, packed, and a transaction number of the past.
pub record IsPackedAt (file : List ℕ) (n level : ℕ) (es : List Item) : Type 0 where
  pub tn : ℕ
  pub bytes : block_of file n ≡ block_bytes es level tn (fields_of file).block_size
  pub fits : packed_size es ≤ (fields_of file).block_size
  pub past : tn < (fields_of file).tn
  pub small : tn < 2 ^ 64

-- ---- free blocks

-- These free blocks were taken, one after another.
abbrev pub TakesAll : List ℕ → List ℕ → List ℕ → Type 0
TakesAll before after [] = after ≡ before
TakesAll before after (n ∷ numbers) =
    (mid : List ℕ) × IsFree before n × Takes before mid n × IsLawful mid × TakesAll mid after numbers

-- What that leaves: so many fewer blocks are free, and the header's other fields stay, but for the master map, and all
-- blocks that are no maps. The blocks are distinct, a tree may have their numbers, none was busy and all are.
pub record TakenAll (before after : List ℕ) (numbers : List ℕ) : Type 0 where
  pub lawful : IsLawful after
  pub fields : fields_of after ≡ record (fields_of before) {
    free = (fields_of before).free - length numbers;
    master = (fields_of after).master;
  }
  pub others : (n : ℕ) → n % 512 ≢ 0 → block_of after n ≡ block_of before n
  pub distinct : IsDistinct nat_eq numbers
  pub numbered : All (IsTreeNumber (fields_of before).total) numbers
  pub were_free : (n : ℕ) → IsTrue (has_block numbers n) → is_busy before n ≡ false
  pub busy : AreAllBusy after numbers
  pub reshapes : Reshapes before after [] numbers

-- ---- pieces

-- Free blocks were taken, and then the blocks of pieces of a level were written, and no others.
pub record WritesPieces (before after : List ℕ) (fresh : List ℕ) (level : ℕ) (pieces : List Piece) : Type 0 where
  pub mid : List ℕ
  pub taken : TakesAll before mid fresh
  pub rewrites : Rewrites mid after (numbers_of pieces)
  pub each : All (IsWritten after level) pieces

-- The child of an index block has gone into pieces: they have entries that are lawful at its visit, and sound trees
-- stand below the entries that lead to them, with the items that stood below the child. The index block doesn't tell of
-- them yet and leads to the child as ever. No block of the tree with the pieces is there twice, and all are busy.
pub record IsParted (file : List ℕ) (root : Visit) (a : Ancestor) (above : List Ancestor) (child : Visit) (level : ℕ)
    (pieces : List Piece) (below : Tree) : Type 0 where
  pub is_root : IsRoot file root
  pub lead : AreAncestors file root (a ∷ above) child level
  pub child_entries : List Item
  pub lawful : entries.IsLawful (fields_of file) child level child_entries
  pub go_into : GoInto (fields_of file).total child_entries pieces
  pub over : HasPieceTrees file a.visit level (low_behind a.visit.low a.front) pieces a.entry.key below
  pub distinct : IsDistinct nat_eq (over.tree.blocks ++ outer_blocks (a ∷ above))
  pub busy : AreAllBusy file (over.tree.blocks ++ outer_blocks (a ∷ above))
  pub maps : IsLawful file

-- A block goes into pieces and leaves it to the index block above to tell of them.
pub record GoesOn (before after : List ℕ) (root : Visit) (a : Ancestor) (above : List Ancestor) (v : Visit) (level : ℕ)
    (pieces : List Piece) (below : Tree) : Type 0 where
  pub parted : IsParted after root a above v level pieces below
  pub reshapes : Reshapes before after (part_blocks (a ∷ above) v below)
      (parted.over.tree.blocks ++ outer_blocks (a ∷ above))

-- The entries of an ancestor before and behind the one that leads down fit a block each, and so do others in its place.
-- Together they need at most the room of two records more with keys of the greatest length.
pub record HasRoom (h : Header) (a : Ancestor) (put : List Item) : Type 0 where
  pub front : packed_size a.front ≤ h.block_size
  pub put_fits : packed_size put ≤ h.block_size
  pub back : packed_size a.back ≤ h.block_size
  pub more : packed_size (a.front ++ put ++ a.back)
      ≤ packed_size (a.front ++ a.entry ∷ a.back) + 2 * (8 + h.key_max)
