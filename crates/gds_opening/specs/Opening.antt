-- Why a database isn't opened, and what INTEG says of open units.
use Rattle.std.specs.Prelude.{◌≡◌, ◌≢◌, ◌⊎◌, ℕ, List, length, Option, None, Some, Err}
use Rattle.std.specs.Option.{ForSome}
use Rattle.host_model.specs.Failures.{Failures, Rose}
use Rattle.host_model.specs.Files.{Contents}
use Rattle.gds_images.specs.Chain.{chain_of}
use Rattle.gds_images.specs.Recovered.{recovered}
use Rattle.gds_law.specs.Faults.{AreFaults}
use Rattle.gds_law.specs.declared.fault.Fault.{Fault}
use Rattle.gds_recovery.specs.Found.{IsUnwritten}
use Rattle.gds_units.specs.Opening.{IsStable}
use Rattle.gds_units.specs.declared.error.UnitError.{UnitError}
use Rattle.gds_units.specs.declared.error.UnitError.TheVariants.{BadImages, Changed, Memory, ReadFault}
use Rattle.gds_units.specs.declared.error.UnitError.TheVariants.{Unsound, WriteFault}

-- The file has so many faults.
pub record HasFaults (n : ℕ) (file : List ℕ) : Type 0 where
  pub faults : List Fault
  pub are : AreFaults file faults
  pub counted : n ≡ length faults

-- The database that an opening finds of both files has so many.
pub record FindsFaults (n : ℕ) (c : Contents) : Type 0 where
  pub file : List ℕ
  pub found : recovered c.db c.images ≡ Some file
  pub has : HasFaults n file

-- The cause of each error, where the host told this before, and so often calls had failed before and have now. For want
-- of memory there is none that a clause could name. It is never answered that a file is there, or that an earlier call
-- could not write.
abbrev pub HasCause : Option Contents → Failures → Failures → UnitError → Type 0
HasCause told before now Memory = Unit {0}
HasCause told before now ReadFault = Rose before.read now.read
HasCause told before now WriteFault = Rose before.write now.write
HasCause told before now (BadImages at) = ForSome told (λ c. chain_of c.images (length c.db) ≡ Err at)
HasCause told before now (Unsound faults) = (faults ≢ 0) × ForSome told (FindsFaults faults)
HasCause told before now (Changed unit) = told ≡ None
HasCause told before now _ = ⊥

-- the same where no more is done than to look for the faults of an image
abbrev pub HasReadingCause : Option (List ℕ) → Failures → Failures → UnitError → Type 0
HasReadingCause image before now Memory = Unit {0}
HasReadingCause image before now ReadFault = Rose before.read now.read
HasReadingCause image before now (Unsound faults) = (faults ≢ 0) × ForSome image (HasFaults faults)
HasReadingCause image before now (Changed unit) = image ≡ None
HasReadingCause image before now _ = ⊥

-- Nothing was written; or all that an opening writes was, so that a crash leaves exactly what the host tells.
abbrev pub IsUnwrittenOrStable : {H : Type 0} → (H → Option Contents) → (H → ℕ) → (H → ℕ → Contents → Type 0) → H → H
    → Type 0
IsUnwrittenOrStable told moment left_since old new =
    IsUnwritten told moment left_since old new ⊎ IsStable told moment left_since new
