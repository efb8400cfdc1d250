-- A file that gets more blocks: its groups go on, and new groups come with their maps.
use Rattle.std.specs.Prelude.{◌≡◌, ◌≢◌, ℕ, ◌*◌, ◌/◌, ◌%◌, ◌==◌, ◌<◌, ◌≤◌, List, take, if◌then◌else◌}
use Rattle.gds_block.specs.Block.{HasHead, tn_of}
use Rattle.gds_bitmap.specs.declared.state.State.{State}
use Rattle.gds_bitmap.specs.declared.state.State.TheVariants.{Busy, New}
use Rattle.gds_bitmap.specs.Bitmap.{state_at}
use Rattle.gds_header.specs.Fields.{fields_of, block_of}
use Rattle.gds_header.specs.Kinds.{has_free}
use Rattle.gds_law.specs.Maps.{map_of, has_free_place}
use Rattle.gds_file.specs.Room.{groups_in, grown_free}

-- what the maps say of a block, and of one that comes: a map is busy, any other was never used
abbrev pub state_of : List ℕ → ℕ → State
state_of image n = state_at (map_of image (n / 512)) (n % 512)

abbrev pub coming_state : ℕ → State
coming_state n = if n % 512 == 0 then Busy else New

-- A group's map begins as a map has to, and its transaction number is below the header's.
pub record HasMapHead (image : List ℕ) (group : ℕ) : Type 0 where
  pub head : HasHead (map_of image group) 255 144 (tn_of (map_of image group))
  pub tn : tn_of (map_of image group) < (fields_of image).tn

-- The file has so many blocks afterwards, and had fewer. What the maps said of its blocks stays, and so do the heads of
-- the maps and the blocks that are no maps. Of the blocks that come nothing is said but their states and the heads of
-- the maps among them. Free count and master map are right for that.
pub record Grows (before after : List ℕ) (total : ℕ) : Type 0 where
  pub more : (fields_of before).total < total
  pub fields : fields_of after ≡ record (fields_of before) {
    total = total;
    free = grown_free (fields_of before) total;
    master = (fields_of after).master;
  }
  pub kept : (n : ℕ) → n < (fields_of before).total → state_of after n ≡ state_of before n
  pub came : (n : ℕ) → (fields_of before).total ≤ n → n < total → state_of after n ≡ coming_state n
  pub past : (n : ℕ) → total ≤ n → n < 512 * groups_in total → state_of after n ≡ Busy
  pub heads : (group : ℕ) → group < groups_in (fields_of before).total
      → take 16 (map_of after group) ≡ take 16 (map_of before group)
  pub new_heads : (group : ℕ) → groups_in (fields_of before).total ≤ group → group < groups_in total
      → HasMapHead after group
  pub groups : (group : ℕ) → group < groups_in total → has_free (fields_of after) group ≡ has_free_place after group
  pub others : (n : ℕ) → n < (fields_of before).total → n % 512 ≢ 0 → block_of after n ≡ block_of before n
