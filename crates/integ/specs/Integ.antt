-- What a sink was told of a file.
use Rattle.std.specs.Prelude.{◌≡◌, ℕ, List, ◌++◌, length, MatchResult, Some, None, Result, take}
use Rattle.gds_header.specs.declared.header.Header.{Header}
use Rattle.gds_header.specs.declared.kind.HeaderKind.{HeaderKind}
use Rattle.gds_header.specs.Fields.{fields_of}
use Rattle.gds_header.specs.Kinds.{ending_kind}
use Rattle.gds_law.specs.declared.fault.Fault.{Fault}
use Rattle.gds_law.specs.Faults.{AreFaults}
use Rattle.gds_law.specs.Sink.{IsCut}

-- The list had the old faults and has the new ones, which are the file's. So many they are.
pub record IsToldWhole (image : List ℕ) (old new : List Fault) (count : ℕ) : Type 0 where
  pub faults : List Fault
  pub are : AreFaults image faults
  pub told : new ≡ old ++ faults
  pub counted : count ≡ length faults

-- Some of the first of the file's faults stand behind the old ones.
abbrev pub IsToldInPart : List ℕ → List Fault → List Fault → Type 0
IsToldInPart image old new = (faults : List Fault) → AreFaults image faults → IsCut old new faults

-- The file begins with these bytes, which are its header's, and no kind ends the reading.
pub record IsOpen (image bytes : List ℕ) (header : Header) : Type 0 where
  pub begins : take 8192 image ≡ bytes
  pub fields : header ≡ fields_of bytes
  pub goes_on : ending_kind image ≡ None

-- The header can be read, or the kind ends the reading.
abbrev pub Opens : List ℕ → List ℕ → Result Header HeaderKind → Type 0
Opens image bytes result = MatchResult result (IsOpen image bytes) (λ kind. ending_kind image ≡ Some kind)
