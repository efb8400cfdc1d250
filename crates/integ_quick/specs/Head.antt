-- The head of a level-0 block with which nothing is wrong.
use Rattle.std.specs.Prelude.{ℕ, ◌≡◌, ◌<◌, ◌≤◌, List, length, Option, Some}
use Rattle.gds_block.specs.Block.{version_of, reserved_of, level_of, used_of, tn_of}
use Rattle.gds_header.specs.declared.header.Header.{Header}

-- Nothing is wrong with the head of a level-0 block at which this level is due, and the block has a record.
pub record IsCleanHead (header : Header) (due : Option ℕ) (bytes : List ℕ) : Type 0 where
  pub due_level : due ≡ Some 0
  pub version : version_of bytes ≡ 1
  pub reserved : reserved_of bytes ≡ 0
  pub level : level_of bytes ≡ 0
  pub some : 16 < used_of bytes
  pub within : used_of bytes ≤ length bytes
  pub tn : tn_of bytes < header.tn
