-- Room for a draft behind the image.
use Rattle.std.specs.Prelude.{◌≡◌, ℕ, ◌<◌, ◌≤◌, List, take, drop, replicate}
use Rattle.gds_header.specs.declared.header.Header.{Header}
use Rattle.gds_header.specs.Fields.{place_of}

-- Behind the database of this header, up to a total of blocks, each block of the file is zero.
abbrev pub HasZeros : Header → ℕ → List ℕ → Type 0
HasZeros h total file =
    (n : ℕ) → h.total ≤ n → n < total → take h.block_size (drop (place_of h n) file) ≡ replicate h.block_size 0
