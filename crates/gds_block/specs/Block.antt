-- The head of a block, over the list of the block's bytes.
use Rattle.std.specs.Prelude.{ℕ, ◌≡◌, ◌≤◌, List, [], ◌∷◌, ◌++◌, length, slice_index}
use Rattle.gds_block.specs.Fields.{u16_at, u32_at, u64_at, u16_bytes, u32_bytes, u64_bytes}

abbrev pub version_of : List ℕ → ℕ
version_of block = u16_at block 0

abbrev pub reserved_of : List ℕ → ℕ
reserved_of block = slice_index block 2

abbrev pub level_of : List ℕ → ℕ
level_of block = slice_index block 3

-- how many bytes are used, the head among them
abbrev pub used_of : List ℕ → ℕ
used_of block = u32_at block 4

-- the number of the transaction that wrote the block
abbrev pub tn_of : List ℕ → ℕ
tn_of block = u64_at block 8

-- Bytes that can be read as a block: a whole head, and a used count that covers it and lies within the bytes.
pub record IsBlock (bytes : List ℕ) : Type 0 where
  pub head : 16 ≤ length bytes
  pub covered : 16 ≤ used_of bytes
  pub within : used_of bytes ≤ length bytes

-- the head of version 1 with these fields
abbrev pub head_bytes : ℕ → ℕ → ℕ → List ℕ
head_bytes level used tn = u16_bytes 1 ++ 0 ∷ level ∷ [] ++ u32_bytes used ++ u64_bytes tn

-- the head is of version 1, and its other fields read so
pub record HasHead (block : List ℕ) (height size number : ℕ) : Type 0 where
  pub version : version_of block ≡ 1
  pub reserved : reserved_of block ≡ 0
  pub level : level_of block ≡ height
  pub used : used_of block ≡ size
  pub tn : tn_of block ≡ number
