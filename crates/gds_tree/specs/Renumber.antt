-- Blocks that get other numbers, and the pointers that name them.
use Rattle.std.specs.Prelude.{◌≡◌, ℕ, zero, ◌==◌, List, map, option_map, if◌then◌else◌}
use Rattle.gds_block.specs.Block.{level_of, used_of}
use Rattle.gds_block.specs.Fields.{u32_at, u32_bytes}
use Rattle.gds_block.specs.Item.{Item}
use Rattle.gds_header.specs.Fields.{fields_of, block_of}
use Rattle.gds_law.specs.Visit.{TreeRole, global, Visit}
use Rattle.gds_pack.specs.Unpacked.{entries_of}
use Rattle.gds_sound.specs.Sound.{Tree}
use Rattle.gds_tree.specs.Lawful.{IsTreeNumber}
use Rattle.gds_tree.specs.RightBlock.{IsStamped}

-- two numbers exchanged
abbrev pub exchanged : ℕ → ℕ → ℕ → ℕ
exchanged a b n = if n == a then b else (if n == b then a else n)

-- an entry whose pointer names its block by another number
abbrev pub renumbered : (ℕ → ℕ) → Item → Item
renumbered number e = record { key = e.key; rest = u32_bytes (number (u32_at e.rest 0)) }

-- the entries of a block of a level: those of a global's level-0 block have values and stay
abbrev pub renumbered_entries : (ℕ → ℕ) → TreeRole → ℕ → List Item → List Item
renumbered_entries number (global name) zero es = es
renumbered_entries number role level es = map (renumbered number) es

abbrev pub renumbered_visit : (ℕ → ℕ) → Visit → Visit
renumbered_visit number v =
    record { block = number v.block; role = v.role; level = v.level; low = v.low; high = v.high }

abbrev pub renumbered_tree : (ℕ → ℕ) → TreeRole → Tree → Tree
renumbered_tree number role t =
    record { blocks = map number t.blocks; items = renumbered_entries number role 0 t.items }

-- A block of a tree stands under its other number in the second image, with the pointers renumbered.
pub record IsRenumbered (old new : List ℕ) (number : ℕ → ℕ) (role : TreeRole) (n : ℕ) : Type 0 where
  pub stamped : IsStamped (fields_of new) (block_of new (number n))
  pub level : level_of (block_of new (number n)) ≡ level_of (block_of old n)
  pub used : used_of (block_of new (number n)) ≡ used_of (block_of old n)
  pub entries : entries_of (block_of new (number n))
      ≡ option_map (renumbered_entries number role (level_of (block_of old n))) (entries_of (block_of old n))

-- The numbers of blocks that trees of the first image may have become such numbers of the second.
abbrev pub KeepsNumbers : ℕ → ℕ → (ℕ → ℕ) → Type 0
KeepsNumbers total more number = (n : ℕ) → IsTreeNumber total n → IsTreeNumber more (number n)
