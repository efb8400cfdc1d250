-- Why a recovery ended early.
use Rattle.std.proofs.Common.{◌≡◌, ℕ, length, Option, None, Result, Err, sym, subst, refl}
use Rattle.std.specs.Option.{ForSome}
use Rattle.std.specs.Prelude.{IfErr}
use Rattle.host_model.specs.Failures.{Failures, NeverFell, Rose}
use Rattle.host_model.specs.Files.{Contents}
use Rattle.host_model.proofs.FailureLemmas.{then-Rose}
use Rattle.gds_images.specs.Chain.{chain_of}
use Rattle.gds_images.specs.declared.error.ImagesError.{ImagesError}
use Rattle.gds_images.specs.declared.error.ImagesError.TheVariants.{BadImages, Changed, Memory, ReadFault}
use Rattle.gds_recovery.specs.declared.error.RecoveryError.{RecoveryError}
use Rattle.gds_recovery.specs.Errors.{HasCause, chain_error}

-- What is known of an error of reading the chain, beside a database file of this length.
pub record IsChainCause (n : ℕ) (told : Option Contents) (before now : Failures) (e : ImagesError) : Type 0 where
  pub bad : (at : ℕ) → e ≡ BadImages at → ForSome told (λ c. chain_of c.images n ≡ Err at)
  pub changed : (unit : ℕ) → e ≡ Changed unit → told ≡ None
  pub failed : e ≡ ReadFault → Rose before.read now.read

-- The chain couldn't be read.
pub chain_cause : (n : ℕ) (told : Option Contents) (first before now : Failures) (e : ImagesError)
    → ForSome told (λ c. n ≡ length c.db) → NeverFell first before → IsChainCause n told before now e
    → HasCause told first now (chain_error e)
chain_cause n told first before now Memory len kept cause = tt
chain_cause n told first before now ReadFault len kept cause =
    then-Rose first.read before.read now.read kept.read (cause.failed refl)
chain_cause n told first before now (BadImages at) len kept cause =
    λ c tells. subst (λ k. chain_of c.images k ≡ Err at) (len c tells) (cause.bad at refl c tells)
chain_cause n told first before now (Changed unit) len kept cause = cause.changed unit refl

-- at the exit of the call
pub error_cause : {T : Type 0} (result : Result T RecoveryError) (P : RecoveryError → Type 0) (e : RecoveryError)
    → result ≡ Err e → P e → IfErr result P
error_cause result P e is cause = subst (λ r. IfErr r P) (sym is) cause
