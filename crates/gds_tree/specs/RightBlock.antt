-- Which blocks are right at a visit, and what a block uses of its bytes.
use Rattle.std.specs.Prelude.{◌≡◌, ℕ, ◌<◌, ◌≤◌, List, Option, None, Some}
use Rattle.gds_block.specs.Block.{version_of, reserved_of, level_of, used_of, tn_of}
use Rattle.gds_block.specs.Item.{Item}
use Rattle.gds_block.specs.Record.{bytes_left}
use Rattle.gds_header.specs.declared.header.Header.{Header}
use Rattle.gds_law.specs.Visit.{Visit}
use Rattle.gds_pack.specs.Packed.{packed_size}
use Rattle.gds_pack.specs.Unpacked.{entries_of}
use Rattle.gds_tree.specs.Lawful.{IsLawful}

-- Two blocks use the same bytes: they have one level and one used count, and the bytes from the head's end up to there
-- are equal.
pub record UsesSame (a b : List ℕ) : Type 0 where
  pub level : level_of a ≡ level_of b
  pub used : used_of a ≡ used_of b
  pub bytes : bytes_left a 16 ≡ bytes_left b 16

-- Version, reserved byte and transaction number of a block are right under a header.
pub record IsStamped (h : Header) (block : List ℕ) : Type 0 where
  pub version : version_of block ≡ 1
  pub reserved : reserved_of block ≡ 0
  pub tn : tn_of block < h.tn

-- A root has a level from 1 to 7, and every other block the level that is due.
abbrev pub IsDueLevel : Option ℕ → ℕ → Type 0
IsDueLevel None level = (1 ≤ level) × (level ≤ 7)
IsDueLevel (Some due) level = level ≡ due

-- The head of a block is right at a visit and says that the block uses so many bytes.
pub record HasRightHead (h : Header) (v : Visit) (block : List ℕ) (size : ℕ) : Type 0 where
  pub stamped : IsStamped h block
  pub level : IsDueLevel v.level (level_of block)
  pub used : used_of block ≡ size
  pub fits : size ≤ h.block_size

-- A block is right at a visit: it has these entries, its head is right and says what they need, and they are lawful.
pub record IsRightBlock (h : Header) (v : Visit) (block : List ℕ) (entries : List Item) : Type 0 where
  pub head : HasRightHead h v block (packed_size entries)
  pub found : entries_of block ≡ Some entries
  pub lawful : IsLawful h v (level_of block) entries
