-- Blocks of a file that are packed, whatever stands behind their used bytes.
use Rattle.std.specs.Prelude.{ℕ, ◌≡◌, ◌≤◌, List, [], length}
use Rattle.gds_block.specs.Block.{IsBlock, level_of, used_of}
use Rattle.gds_block.specs.Record.{bytes_left}
use Rattle.gds_block.specs.Item.{Item}
use Rattle.gds_pack.specs.Packed.{packed_size, records_bytes}
use Rattle.gds_pack.specs.Packable.{ArePackable}

-- The used bytes behind the head of a block of this level are those of the packed records of these entries. A block has
-- at most 65,024 bytes, so that a record's size has room in its two bytes.
pub record IsPackedBlock (block : List ℕ) (height : ℕ) (es : List Item) : Type 0 where
  pub is_block : IsBlock block
  pub room : length block ≤ 65024
  pub level : level_of block ≡ height
  pub used : used_of block ≡ packed_size es
  pub records : bytes_left block 16 ≡ records_bytes [] es
  pub packable : ArePackable height es
