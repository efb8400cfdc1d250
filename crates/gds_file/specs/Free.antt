-- A block that is given back to those that are free.
use Rattle.std.specs.Prelude.{◌≡◌, ◌≢◌, ℕ, ◌+◌, ◌*◌, ◌/◌, ◌%◌, IsTrue, List}
use Rattle.gds_bitmap.specs.Bitmap.{Marks}
use Rattle.gds_bitmap.specs.declared.state.State.TheVariants.{Recycled}
use Rattle.gds_header.specs.Fields.{fields_of, block_of}
use Rattle.gds_header.specs.Kinds.{has_free}
use Rattle.gds_law.specs.Maps.{map_of}

-- The block's pair says that it was used and is free, the free count is one more, and the master map says that the
-- block's group has a free block. Nothing else changes.
pub record Frees (before after : List ℕ) (n : ℕ) : Type 0 where
  pub fields : fields_of after
      ≡ record (fields_of before) { free = (fields_of before).free + 1; master = (fields_of after).master }
  pub pair : Marks (map_of before (n / 512)) (map_of after (n / 512)) (n % 512) Recycled
  pub group : IsTrue (has_free (fields_of after) (n / 512))
  pub groups : (g : ℕ) → g ≢ n / 512 → has_free (fields_of after) g ≡ has_free (fields_of before) g
  pub others : (m : ℕ) → m ≢ 512 * (n / 512) → block_of after m ≡ block_of before m
