-- What a commit makes of a draft: the blocks that it changes get the header's transaction number, and the header's is
-- one more.
use Rattle.std.specs.Prelude.{◌≡◌, ◌⊎◌, ℕ, ◌+◌, ◌<◌, List, length, take}
use Rattle.gds_block.specs.Fields.{u64_bytes, with_bytes}
use Rattle.gds_header.specs.Fields.{fields_of, block_of}
use Rattle.gds_header.specs.Kinds.{reserved_bytes}

-- the block with a transaction number
abbrev pub with_number : ℕ → List ℕ → List ℕ
with_number tn block = with_bytes block 8 (u64_bytes tn)

pub record IsStamped (draft file : List ℕ) : Type 0 where
  pub len : length file ≡ length draft
  pub label : take 8 file ≡ take 8 draft
  pub reserved : reserved_bytes file ≡ reserved_bytes draft
  pub fields : fields_of file ≡ record (fields_of draft) { tn = (fields_of draft).tn + 1 }
  pub blocks : (n : ℕ) → n < (fields_of draft).total →
      (block_of file n ≡ block_of draft n) ⊎ (block_of file n ≡ with_number (fields_of draft).tn (block_of draft n))
