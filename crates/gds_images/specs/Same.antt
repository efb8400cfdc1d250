-- Two database files that differ in nothing that counts: what stands in blocks that were never used.
use Rattle.std.specs.Prelude.{◌≡◌, ℕ, ◌-◌, ◌*◌, ◌/◌, ◌%◌, ◌==◌, ◌<◌, Bool, false, ◌&&◌, not, nat_le, List, length}
use Rattle.std.specs.Prelude.{slice_index}
use Rattle.gds_header.specs.Fields.{block_of, fields_of}
use Rattle.gds_bitmap.specs.Bitmap.{pair_of}

-- The maps of the file say of a block that is no map that it is new.
abbrev pub is_new_block : List ℕ → ℕ → Bool
is_new_block file block = not (block % 512 == 0) && (pair_of (block_of file (512 * (block / 512))) (block % 512) == 1)

-- The byte at a place stands in such a block.
unfoldable pub is_in_new_block : List ℕ → ℕ → Bool
is_in_new_block file i = nat_le 8192 i && is_new_block file ((i - 8192) / (fields_of file).block_size)

-- The files have one length, and the same bytes but in new blocks.
pub record IsSame (a b : List ℕ) : Type 0 where
  pub len : length a ≡ length b
  pub bytes : (i : ℕ) → i < length a → is_in_new_block a i ≡ false → slice_index a i ≡ slice_index b i
