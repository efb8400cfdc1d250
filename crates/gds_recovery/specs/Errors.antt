-- Why a recovery ends early, and what each answer is blamed on.
use Rattle.std.specs.Prelude.{◌≡◌, length, Option, None, Err}
use Rattle.std.specs.Option.{ForSome}
use Rattle.host_model.specs.Failures.{Failures, Rose}
use Rattle.host_model.specs.Files.{Contents}
use Rattle.gds_images.specs.Chain.{chain_of}
use Rattle.gds_images.specs.declared.error.ImagesError.{ImagesError}
use Rattle.gds_recovery.specs.Found.{EndsReading}
use Rattle.gds_recovery.specs.declared.error.RecoveryError.{RecoveryError}
use Rattle.gds_recovery.specs.declared.error.Trouble.{Trouble}
use Rattle.gds_images.specs.declared.error.ImagesError.TheVariants as images
use Rattle.gds_recovery.specs.declared.error.RecoveryError.TheVariants as error
use Rattle.gds_recovery.specs.declared.error.Trouble.TheVariants as trouble

-- the error that is answered where a part of the recovery had this trouble
abbrev pub error_of : Trouble → RecoveryError
error_of trouble.Read = error.ReadFault
error_of trouble.Write = error.WriteFault
error_of trouble.Changed = error.Changed 0

-- and where the chain of images could not be read
abbrev pub chain_error : ImagesError → RecoveryError
chain_error images.Memory = error.Memory
chain_error images.ReadFault = error.ReadFault
chain_error (images.BadImages at) = error.BadImages at
chain_error (images.Changed unit) = error.Changed unit

-- The cause of each error, where the host told this before, and so often calls had failed before and have now. For want
-- of memory there is none that a clause could name.
abbrev pub HasCause : Option Contents → Failures → Failures → RecoveryError → Type 0
HasCause told before now error.Memory = Unit {0}
HasCause told before now error.ReadFault = Rose before.read now.read
HasCause told before now error.WriteFault = Rose before.write now.write
HasCause told before now (error.BadImages at) = ForSome told (λ c. chain_of c.images (length c.db) ≡ Err at)
HasCause told before now (error.Unsound faults) = (faults ≡ 1) × ForSome told EndsReading
HasCause told before now (error.Changed unit) = told ≡ None
