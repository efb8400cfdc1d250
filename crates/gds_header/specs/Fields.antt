-- Where the fields of a header stand in the bytes of a file, and where the blocks do.
use Rattle.std.specs.Prelude.{ℕ, ◌+◌, ◌*◌, List, [], ◌∷◌, take, drop, replicate, codes}
use Rattle.std.specs.List.{concat}
use Rattle.gds_block.specs.Fields.{u32_at, u64_at, u32_bytes, u64_bytes}
use Rattle.gds_header.specs.declared.header.Header.{Header}

-- the label of each file
abbrev pub label : List ℕ
label = codes "GDSPROF1"

-- the header of a file, field by field
abbrev pub fields_of : List ℕ → Header
fields_of image = record {
  block_size = u32_at image 8;
  total = u32_at image 12;
  free = u32_at image 16;
  extension = u32_at image 20;
  limit = u32_at image 24;
  key_max = u32_at image 28;
  value_max = u32_at image 32;
  tn = u64_at image 40;
  master = take 256 (drop 4096 image);
}

-- the 8,192 bytes of a header
unfoldable pub zeros : ℕ → List ℕ
zeros n = replicate n 0

unfoldable pub header_bytes : Header → List ℕ
header_bytes h = concat (
    label
    ∷ u32_bytes h.block_size
    ∷ u32_bytes h.total
    ∷ u32_bytes h.free
    ∷ u32_bytes h.extension
    ∷ u32_bytes h.limit
    ∷ u32_bytes h.key_max
    ∷ u32_bytes h.value_max
    ∷ zeros 4
    ∷ u64_bytes h.tn
    ∷ zeros 4048
    ∷ h.master
    ∷ zeros 3840
    ∷ [])

-- where block n begins, and the bytes that a file with this header has
abbrev pub place_of : Header → ℕ → ℕ
place_of h n = 8192 + n * h.block_size

abbrev pub file_length_of : Header → ℕ
file_length_of h = place_of h h.total

-- the same of a file, and its block n
abbrev pub image_length : List ℕ → ℕ
image_length image = file_length_of (fields_of image)

abbrev pub block_of : List ℕ → ℕ → List ℕ
block_of image n = let h = fields_of image in take h.block_size (drop (place_of h n) image)
