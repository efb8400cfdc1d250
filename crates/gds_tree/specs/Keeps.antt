-- What two images may differ in so that a tree of the first stands in the second too.
use Rattle.std.specs.Prelude.{◌≡◌, ℕ, ◌<◌, ◌≤◌, List, length, All, Option, None, Some}
use Rattle.gds_block.specs.Fields.{u32_at}
use Rattle.gds_block.specs.Item.{Item}
use Rattle.gds_header.specs.Fields.{fields_of, image_length, block_of}
use Rattle.gds_header.specs.Kinds.{IsWithinLimits}
use Rattle.gds_law.specs.Visit.{TreeRole, directory, global, Visit}
use Rattle.gds_sound.specs.Sound.{Tree}
use Rattle.m_key.specs.Key.{AtMost}

-- An image with a header within the limits, and with all blocks that the header says.
pub record IsImage (image : List ℕ) : Type 0 where
  pub limits : IsWithinLimits (fields_of image)
  pub whole : image_length image ≤ length image

-- The second image has blocks, keys and values of the sizes of the first, and a transaction number no smaller.
pub record KeepsSizes (old new : List ℕ) : Type 0 where
  pub block_size : (fields_of new).block_size ≡ (fields_of old).block_size
  pub key_max : (fields_of new).key_max ≡ (fields_of old).key_max
  pub value_max : (fields_of new).value_max ≡ (fields_of old).value_max
  pub tn : (fields_of old).tn ≤ (fields_of new).tn

-- These blocks are equal in both.
abbrev pub KeepsBlocks : List ℕ → List ℕ → List ℕ → Type 0
KeepsBlocks old new blocks = All (λ n. block_of new n ≡ block_of old n) blocks

-- The blocks of a tree are below a total, and so are the roots that its items name, where it is the directory's.
abbrev pub RootsBelow : ℕ → TreeRole → List Item → Type 0
RootsBelow total directory items = All (λ e. u32_at e.rest 0 < total) items
RootsBelow total (global name) items = Unit {0}

pub record IsWithinTotal (total : ℕ) (role : TreeRole) (t : Tree) : Type 0 where
  pub blocks : All (λ n. n < total) t.blocks
  pub roots : RootsBelow total role t.items

-- Bounds are wider where the lower one isn't above the other lower one, and the upper one not below the other upper
-- one.
abbrev pub IsLowerLow : Option (List ℕ) → Option (List ℕ) → Type 0
IsLowerLow None low = Unit {0}
IsLowerLow (Some wide) None = ⊥
IsLowerLow (Some wide) (Some low) = AtMost wide low

abbrev pub IsHigherHigh : Option (List ℕ) → Option (List ℕ) → Type 0
IsHigherHigh None high = Unit {0}
IsHigherHigh (Some wide) None = ⊥
IsHigherHigh (Some wide) (Some high) = AtMost high wide

-- The first visit is the second with bounds that are no narrower.
pub record IsWider (wide v : Visit) : Type 0 where
  pub block : wide.block ≡ v.block
  pub role : wide.role ≡ v.role
  pub level : wide.level ≡ v.level
  pub low : IsLowerLow wide.low v.low
  pub high : IsHigherHigh wide.high v.high
