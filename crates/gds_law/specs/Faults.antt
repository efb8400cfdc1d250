-- The faults of a file, defined for every list of bytes.
use Rattle.std.specs.Prelude.{◌≡◌, ℕ, List, ◌++◌, map, Option, None, Some}
use Rattle.gds_header.specs.declared.kind.HeaderKind.{HeaderKind}
use Rattle.gds_header.specs.Kinds.{header_faults, ending_kind}
use Rattle.gds_law.specs.Kinds.{fault_kind_of}
use Rattle.gds_law.specs.declared.fault.Fault.{Fault}
use Rattle.gds_law.specs.Path.{Steps, AreKept, AreReached}
use Rattle.gds_law.specs.Tree.{tree_faults}
use Rattle.gds_law.specs.Maps.{is_used, map_faults, count_faults, fault_of}

-- the faults of the header
abbrev pub faults_of_header : List ℕ → List Fault
faults_of_header image = map (λ kind. fault_of 0 (fault_kind_of kind)) (header_faults image)

-- Where no kind ends the reading of the header: the faults of the trees on the kept paths follow, then those of the
-- maps
-- and of the free count.
pub record AreFaultsRead (image : List ℕ) (faults : List Fault) : Type 0 where
  pub kept : List Steps
  pub reached : List Steps
  pub are_kept : AreKept image kept
  pub are_reached : AreReached image kept reached
  pub whole :
      faults ≡ faults_of_header image ++ tree_faults image kept reached ++ map_faults image (is_used image kept)
      ++ count_faults image

abbrev pub AreFaultsAfter : Option HeaderKind → List ℕ → List Fault → Type 0
AreFaultsAfter (Some kind) image faults = faults ≡ faults_of_header image
AreFaultsAfter None image faults = AreFaultsRead image faults

-- these are the faults of the file, in their order
abbrev pub AreFaults : List ℕ → List Fault → Type 0
AreFaults image faults = AreFaultsAfter (ending_kind image) image faults

-- Two laws: there is one list of kept paths and one of faults.
abbrev pub HasOneReading : List ℕ → Type 0
HasOneReading image =
    ((kept : List Steps) × AreKept image kept) × ((a b : List Steps) → AreKept image a → AreKept image b → a ≡ b)

abbrev pub HasOneFaultList : List ℕ → Type 0
HasOneFaultList image =
    ((faults : List Fault) × AreFaults image faults)
    × ((a b : List Fault) → AreFaults image a → AreFaults image b → a ≡ b)
