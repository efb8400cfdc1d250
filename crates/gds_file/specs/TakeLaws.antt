-- A file of which a free block is taken.
use Rattle.std.specs.Prelude.{◌≡◌, ◌≢◌, ℕ, ◌%◌, ◌<◌, false, List, [], ◌∷◌}
use Rattle.gds_header.specs.Fields.{fields_of}
use Rattle.gds_header.specs.Kinds.{header_faults}
use Rattle.gds_file.specs.FileLaws.{IsLawful}
use Rattle.gds_file.specs.Maps.{is_busy}
use Rattle.gds_file.specs.Reshape.{Reshapes}
use Rattle.gds_file.specs.Take.{Takes}

-- The file has the block, it is no map, and the maps don't call it busy.
pub record IsFree (image : List ℕ) (n : ℕ) : Type 0 where
  pub within : n < (fields_of image).total
  pub no_map : n % 512 ≢ 0
  pub free : is_busy image n ≡ false

-- The maps stay lawful.
abbrev pub TakeStaysLawful : Type 0
TakeStaysLawful =
    (before after : List ℕ) (n : ℕ) → IsLawful before → IsFree before n → Takes before after n
    → header_faults after ≡ [] → IsLawful after

-- It is a change of no block to that one.
abbrev pub TakeReshapes : Type 0
TakeReshapes =
    (before after : List ℕ) (n : ℕ) → IsFree before n → Takes before after n → Reshapes before after [] (n ∷ [])
