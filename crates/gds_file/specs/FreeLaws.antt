-- A file of which a busy block becomes free.
use Rattle.std.specs.Prelude.{◌≡◌, ◌≢◌, ℕ, ◌%◌, IsTrue, List, [], ◌∷◌}
use Rattle.gds_header.specs.Kinds.{header_faults}
use Rattle.gds_file.specs.FileLaws.{IsLawful}
use Rattle.gds_file.specs.Maps.{is_busy}
use Rattle.gds_file.specs.Reshape.{Reshapes}
use Rattle.gds_file.specs.Free.{Frees}

-- The maps call the block busy, and it is no map.
pub record IsBusy (image : List ℕ) (n : ℕ) : Type 0 where
  pub no_map : n % 512 ≢ 0
  pub busy : IsTrue (is_busy image n)

-- The maps stay lawful.
abbrev pub FreeStaysLawful : Type 0
FreeStaysLawful =
    (before after : List ℕ) (n : ℕ) → IsLawful before → IsBusy before n → Frees before after n
    → header_faults after ≡ [] → IsLawful after

-- It is a change of that block to none.
abbrev pub FreeReshapes : Type 0
FreeReshapes = (before after : List ℕ) (n : ℕ) → Frees before after n → Reshapes before after (n ∷ []) []
