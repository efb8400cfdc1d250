-- What the maps of a file say, and whether they are right, said apart: they may be right in themselves while the trees
-- are being changed, and agree with the trees again when that is done.
use Rattle.std.specs.Prelude.{◌≡◌, ◌≢◌, ℕ, ◌/◌, ◌%◌, ◌==◌, ◌<◌, Bool, false, ◌&&◌, nat_eq, nat_lt, IsTrue, List}
use Rattle.std.specs.List.{list_any}
use Rattle.gds_block.specs.Block.{version_of, reserved_of, level_of, used_of, tn_of}
use Rattle.gds_bitmap.specs.Bitmap.{pair_of}
use Rattle.gds_header.specs.Fields.{fields_of}
use Rattle.gds_header.specs.Kinds.{groups_of, has_free}
use Rattle.gds_law.specs.Maps.{map_of, is_present, has_free_place, free_blocks}
use Rattle.gds_sound.specs.Sound.{is_in_use, IsRightMap}

-- A block is one of these.
abbrev pub has_block : List ℕ → ℕ → Bool
has_block blocks n = list_any (nat_eq n) blocks

-- The file has the block, and the maps say that it is busy.
unfoldable pub is_busy : List ℕ → ℕ → Bool
is_busy image n = nat_lt n (fields_of image).total && (pair_of (map_of image (n / 512)) (n % 512) == 0)

-- A place in a group's map is lawful: not illegal, and 00 past the last block.
pub record IsLawfulPair (image : List ℕ) (group k : ℕ) : Type 0 where
  pub legal : IsTrue (is_present (fields_of image) group k) → pair_of (map_of image group) k ≢ 2
  pub past : is_present (fields_of image) group k ≡ false → pair_of (map_of image group) k ≡ 0

-- A group's map is lawful, whatever blocks are in use: its head, its pairs, of which its own is busy, and what the
-- master map says of the group.
pub record IsLawfulMap (image : List ℕ) (group : ℕ) : Type 0 where
  pub version : version_of (map_of image group) ≡ 1
  pub reserved : reserved_of (map_of image group) ≡ 0
  pub level : level_of (map_of image group) ≡ 255
  pub size : used_of (map_of image group) ≡ 144
  pub tn : tn_of (map_of image group) < (fields_of image).tn
  pub pairs : (k : ℕ) → k < 512 → IsLawfulPair image group k
  pub own : pair_of (map_of image group) 0 ≡ 0
  pub master : has_free (fields_of image) group ≡ has_free_place image group

-- All maps are lawful, and the free count is how many blocks they call free.
pub record AreLawfulMaps (image : List ℕ) : Type 0 where
  pub maps : (group : ℕ) → group < groups_of (fields_of image) → IsLawfulMap image group
  pub count : (fields_of image).free ≡ free_blocks image

-- Of the blocks that are no maps, the maps call busy exactly these.
abbrev pub AreBusy : List ℕ → List ℕ → Type 0
AreBusy image blocks =
    (n : ℕ) → n < (fields_of image).total → n % 512 ≢ 0 → is_busy image n ≡ has_block blocks n

-- The maps and the free count are right for a file in which these blocks are those of the trees.
pub record AreRightMaps (image : List ℕ) (blocks : List ℕ) : Type 0 where
  pub maps : (group : ℕ) → group < groups_of (fields_of image) → IsRightMap image (is_in_use blocks) group
  pub count : (fields_of image).free ≡ free_blocks image
