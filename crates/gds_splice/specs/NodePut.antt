-- One index block gets other entries, and stays one block or goes into parts.
use Rattle.std.specs.Prelude.{◌≡◌, ◌<◌, ◌≤◌, ℕ, suc, Bool, true, List, ◌∷◌, length, Option, None, Some}
use Rattle.gds_header.specs.Fields.{fields_of}
use Rattle.gds_law.specs.Visit.{Visit}
use Rattle.gds_pack.specs.Entry.{items}
use Rattle.gds_pack.specs.Packed.{packed_size}
use Rattle.gds_sound.specs.Sound.{Tree}
use Rattle.gds_split.specs.Pieces.{Piece, pieces_above}
use Rattle.gds_ancestors.specs.Ancestors.{Ancestor}
use Rattle.gds_splice.specs.OneUp.{AreNone}
use Rattle.gds_splice.specs.Parted.{GoesOn, MayPart, TreeBecomes, items_around, part_blocks}
use Rattle.gds_splice.specs.Parting.{blocks_taken}
use Rattle.gds_splice.specs.Parts.{FitInThree, above_parts}
use Rattle.gds_splice.specs.declared.node.Node.{Node}
use Rattle.gds_splice.specs.declared.parts.Parts.{Parts}

-- An index block, whose children have a level, may get the entries of this node. The block is the root, or it isn't.
pub record IsToPut (file : List ℕ) (root : Visit) (above : List Ancestor) (v : Visit) (level : ℕ) (below : Tree)
    (block : ℕ) (top : Bool) (node : Node) : Type 0 where
  pub may : MayPart file root above v (suc level) (items node.entries.items) below
  pub level_is : node.level ≡ suc level
  pub block_is : v.block ≡ block
  pub at_top : AreNone above top
  pub three : FitInThree (fields_of file).block_size (items node.entries.items)

-- It is full and goes into at most three pieces, which the parts say, and leaves it to the one above.
pub record NodeGoesUp (before after : List ℕ) (root : Visit) (b : Ancestor) (above : List Ancestor) (v : Visit)
    (level : ℕ) (below : Tree) (node : Node) (parts : Parts) : Type 0 where
  pub own : List Piece
  pub few : length own ≤ 3
  pub goes : GoesOn before after root b above v (suc level) own below
  pub told : pieces_above (suc level) own b.entry.key ≡ above_parts parts b.entry.key
  pub more : (fields_of before).block_size < packed_size (items node.entries.items)

-- Whichever block that is, the tree of the root is sound with the entries, or there is something left to tell the block
-- above.
abbrev pub PutsNode : ℕ → Bool → Node → Option Parts → List ℕ → List ℕ → Type 0
PutsNode block top node None before after =
    (root : Visit) (above : List Ancestor) (v : Visit) (level : ℕ) (below : Tree)
    → IsToPut before root above v level below block top node
    → TreeBecomes before after root (part_blocks above v below) (items_around above below.items)
PutsNode block top node (Some own) before after =
    (root : Visit) (b : Ancestor) (above : List Ancestor) (v : Visit) (level : ℕ) (below : Tree)
    → IsToPut before root (b ∷ above) v level below block top node
    → NodeGoesUp before after root b above v level below node own

-- There is no such block, or it has no room for the entries and too few blocks are free.
abbrev pub CannotPut : ℕ → Bool → Node → List ℕ → Type 0
CannotPut block top node file =
    (root : Visit) (above : List Ancestor) (v : Visit) (level : ℕ) (below : Tree)
    → IsToPut file root above v level below block top node
    → ((fields_of file).block_size < packed_size (items node.entries.items)
    → blocks_taken (suc level) above ≤ (fields_of file).free) → ⊥

-- A root of the highest level has no room for the entries.
pub record IsHighest (top : Bool) (node : Node) (file : List ℕ) : Type 0 where
  pub is_top : top ≡ true
  pub high : 7 ≤ node.level
  pub more : (fields_of file).block_size < packed_size (items node.entries.items)
