-- What truncating leaves of a file.
use Rattle.std.specs.Prelude.{ℕ, ◌+◌, ◌*◌, ◌/◌, ◌%◌, ◌==◌, Bool, ◌&&◌, not, min, max, List, filter, fold}
use Rattle.std.specs.List.{range_with_len}
use Rattle.gds_bitmap.specs.Bitmap.{pair_of}
use Rattle.gds_header.specs.Fields.{fields_of}
use Rattle.gds_law.specs.Maps.{map_of}

-- the busy blocks that are no maps, and the greatest of them
abbrev pub is_busy : List ℕ → ℕ → Bool
is_busy image n = not (n % 512 == 0) && (pair_of (map_of image (n / 512)) (n % 512) == 0)

abbrev pub greatest_busy : List ℕ → ℕ
greatest_busy image = fold max 0 (filter (is_busy image) (range_with_len 0 (fields_of image).total))

-- how many blocks truncating leaves
unfoldable pub cut_total : List ℕ → ℕ
cut_total image = min (fields_of image).total (512 * (greatest_busy image / 512 + 1))
