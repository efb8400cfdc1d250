-- The image with a draft.
use Rattle.std.specs.Prelude.{ℕ, List, ◌++◌, flat_map, nat_lt, Option, None, Some, if◌then◌else◌}
use Rattle.std.specs.List.{range_with_len}
use Rattle.gds_header.specs.Fields.{block_of, fields_of, header_bytes, zeros}
use Rattle.gds_header.specs.declared.header.Header.{Header}
use Rattle.gds_draft.specs.Draft.{DraftState, block_in}

-- a file by its header and its blocks
unfoldable pub file_by : Header → (ℕ → List ℕ) → List ℕ
file_by h block = header_bytes h ++ flat_map block (range_with_len 0 h.total)

-- a block that the draft has, or else that of the image, or zeros behind its end
abbrev pub or_block : Header → List ℕ → ℕ → Option (List ℕ) → List ℕ
or_block h image n (Some bytes) = bytes
or_block h image n None = if nat_lt n (fields_of image).total then block_of image n else zeros h.block_size

abbrev pub block_with : DraftState → List ℕ → ℕ → List ℕ
block_with draft image n = or_block draft.header image n (block_in draft n)

-- the image with the draft's header and blocks, in the length that this header gives
abbrev pub drafted : DraftState → List ℕ → List ℕ
drafted draft image = file_by draft.header (block_with draft image)
