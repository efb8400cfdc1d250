-- Blocks of a draft that are written with packed entries.
use Rattle.std.specs.Prelude.{◌≡◌, ◌≤◌, ◌+◌, ℕ, All, List, [], ◌∷◌, length, Some}
use Rattle.gds_block.specs.Block.{IsBlock, level_of}
use Rattle.gds_block.specs.Item.{Item}
use Rattle.gds_draft.specs.Draft.{DraftState}
use Rattle.gds_file.specs.Rewrite.{Rewrites}
use Rattle.gds_header.specs.Fields.{block_of, fields_of}
use Rattle.gds_pack.specs.Entry.{items}
use Rattle.gds_pack.specs.Packed.{block_bytes, packed_size}
use Rattle.gds_pack.specs.Unpacked.{entries_of}
use Rattle.gds_split.specs.Pieces.{IsWritten, Piece, numbers_of}
use Rattle.gds_splice.specs.declared.node.Node.{Node}

-- The node has the level of a block and its entries.
pub record IsNodeAt (file : List ℕ) (n : ℕ) (node : Node) : Type 0 where
  pub level : level_of (block_of file n) ≡ node.level
  pub entries : entries_of (block_of file n) ≡ Some (items node.entries.items)

-- It isn't a block that has entries.
abbrev pub CannotRead : List ℕ → ℕ → Type 0
CannotRead file n =
    (entries : List Item) → IsBlock (block_of file n) → entries_of (block_of file n) ≡ Some entries → ⊥

-- The block has these entries, packed, with transaction number 0, which the commit replaces, and nothing else is
-- another.
pub record PutsEntries (before after : List ℕ) (n level : ℕ) (entries : List Item) : Type 0 where
  pub rewrites : Rewrites before after (n ∷ [])
  pub bytes : block_of after n ≡ block_bytes entries level 0 (fields_of after).block_size
  pub fits : packed_size entries ≤ (fields_of after).block_size

-- The blocks of the pieces are written, and nothing else is another.
pub record PutsPieces (before after : List ℕ) (level : ℕ) (pieces : List Piece) : Type 0 where
  pub rewrites : Rewrites before after (numbers_of pieces)
  pub each : All (IsWritten after level) pieces

-- A draft has at most so many blocks more than another one, and the same header.
pub record HasMore (before after : DraftState) (more : ℕ) : Type 0 where
  pub header : after.header ≡ before.header
  pub units : length after.units ≤ length before.units + more
