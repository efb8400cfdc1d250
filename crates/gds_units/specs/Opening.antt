-- How a database is opened, and what is known of it then.
use Rattle.std.specs.Prelude.{◌≡◌, ◌⊎◌, false, ℕ, Option, Result, Ok, Err}
use Rattle.std.specs.Option.{ForSome}
use Rattle.host_model.specs.Failures.{Failures}
use Rattle.host_model.specs.Files.{Contents}
use Rattle.host_model.specs.Moments.{EachLeft}
use Rattle.gds_header.specs.Fields.{fields_of, file_length_of}
use Rattle.gds_header.specs.declared.header.Header.{Header}
use Rattle.gds_images.specs.Outcome.{IsClosed, IsWhole}
use Rattle.gds_recovery.specs.Errors.{HasCause}
use Rattle.gds_recovery.specs.Found.{FindsSame, LeavesSinceBarrier}
use Rattle.gds_recovery.specs.declared.error.RecoveryError.{RecoveryError}
use Rattle.gds_recovery.specs.declared.error.RecoveryError.TheVariants as recovery
use Rattle.gds_units.specs.State.{UnitsState, image_of}
use Rattle.gds_units.specs.declared.error.Returned.{Returned}
use Rattle.gds_units.specs.declared.error.UnitError.{UnitError}
use Rattle.gds_units.specs.declared.error.UnitError.TheVariants as answer

-- the error that is answered where the recovery ends with this one
abbrev pub unit_error : RecoveryError → UnitError
unit_error recovery.Memory = answer.Memory
unit_error recovery.ReadFault = answer.ReadFault
unit_error recovery.WriteFault = answer.WriteFault
unit_error (recovery.BadImages at) = answer.BadImages at
unit_error (recovery.Unsound faults) = answer.Unsound faults
unit_error (recovery.Changed unit) = answer.Changed unit

-- The opening ended as the recovery does, for the same cause. It never answers that a file is there, or that an earlier
-- call could not write.
pub record HasOpeningCause (told : Option Contents) (before now : Failures) (error : UnitError) : Type 0 where
  pub why : RecoveryError
  pub is : error ≡ unit_error why
  pub cause : HasCause told before now why

-- the host as a call leaves it that was given it
abbrev pub host_after : {H : Type 0} → Result (UnitsState H) (Returned H) → H
host_after (Ok units) = units.host
host_after (Err returned) = returned.host

-- It may end before both files are stable for want of memory, or where that failed.
abbrev pub OpeningEndsEarly : {H : Type 0} → Result (UnitsState H) (Returned H) → Type 0
OpeningEndsEarly (Ok units) = ⊥
OpeningEndsEarly (Err returned) = (returned.error ≡ answer.Memory) ⊎ (returned.error ≡ answer.WriteFault)

-- At each moment since both files are stable the next opening finds the same.
abbrev pub KeepsOpening : {H : Type 0} → (H → ℕ) → (H → ℕ → Contents → Type 0) → H
    → Result (UnitsState H) (Returned H) → Contents → Type 0
KeepsOpening moment left_since host result c =
    LeavesSinceBarrier moment left_since (OpeningEndsEarly result) host (host_after result) (FindsSame c)

-- The database file is a whole database with this header, and the file of images is closed.
pub record HoldsWhole (header : Header) (c : Contents) : Type 0 where
  pub closed : IsClosed c.images
  pub whole : IsWhole c.db
  pub fields : header ≡ fields_of c.db

-- Nothing has changed and no write has failed: the file is the image, and the last epoch's database is it.
pub record AreFresh {H : Type 0} (units : UnitsState H) : Type 0 where
  pub file : units.file ≡ image_of units
  pub epoch : units.epoch ≡ file_length_of units.header
  pub extent : units.extent ≡ file_length_of units.header
  pub changed : units.changed ≡ 0
  pub going : units.stopped ≡ false

-- A crash now leaves exactly what the host tells.
abbrev pub IsStable : {H : Type 0} → (H → Option Contents) → (H → ℕ) → (H → ℕ → Contents → Type 0) → H → Type 0
IsStable told moment left_since host = ForSome (told host) (λ now. EachLeft moment left_since host (λ c. c ≡ now))
