-- A file that grows.
use Rattle.std.specs.Prelude.{◌≡◌, ℕ, List, []}
use Rattle.gds_header.specs.Kinds.{header_faults}
use Rattle.gds_file.specs.FileLaws.{IsLawful}
use Rattle.gds_file.specs.Reshape.{Reshapes}
use Rattle.gds_file.specs.Grow.{Grows}

-- Its maps stay lawful, and its free count is right.
abbrev pub GrowStaysLawful : Type 0
GrowStaysLawful =
    (before after : List ℕ) (total : ℕ) → IsLawful before → Grows before after total → header_faults after ≡ []
    → IsLawful after

-- It is a change of no block to none.
abbrev pub GrowReshapes : Type 0
GrowReshapes = (before after : List ℕ) (total : ℕ) → Grows before after total → Reshapes before after [] []
