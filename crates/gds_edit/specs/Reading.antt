-- What an edit tests before it writes, and the bytes of a record that it writes.
use Rattle.std.specs.Prelude.{ℕ, ◌≤◌, ◌+◌, List, ◌++◌, length}
use Rattle.gds_block.specs.Block.{IsBlock}
use Rattle.gds_block.specs.Fields.{u16_at, u16_bytes}

-- The bytes can be read as a block and are no more than a block of a file may have.
pub record IsEditable (bytes : List ℕ) : Type 0 where
  pub is_block : IsBlock bytes
  pub short : length bytes ≤ 65024

-- A record stands at this place, behind the block's head, and ends within so many bytes.
pub record StandsAt (block : List ℕ) (at used : ℕ) : Type 0 where
  pub behind_head : 16 ≤ at
  pub least : 4 ≤ u16_at block at
  pub within : at + u16_at block at ≤ used

-- a record with this count, this end of its key and this rest
abbrev pub new_bytes : ℕ → List ℕ → List ℕ → List ℕ
new_bytes count key rest = u16_bytes (4 + length key + length rest) ++ u16_bytes count ++ key ++ rest
