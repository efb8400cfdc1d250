-- Why a database isn't opened: what its opening answers, and what the look for faults after it does.
use Rattle.std.proofs.Common.{◌≡◌, ℕ, List, [], Option, None, Some, Result, Ok, Err, refl, sym, ap, subst}
use Rattle.std.proofs.Common.{◌∙◌, arith}
use Rattle.std.specs.Prelude.{IfErr, IfOk, IsSome}
use Rattle.std.specs.Option.{ForSome}
use Rattle.host_model.specs.Failures.{Failures, NeverFell}
use Rattle.host_model.specs.Files.{Contents}
use Rattle.host_model.specs.Told.{TellsOn}
use Rattle.host_model.proofs.FailureLemmas.{then-Rose}
use Rattle.host_model.proofs.FrameLemmas.{TellsOn-some}
use Rattle.gds_images.specs.Recovered.{recovered}
use Rattle.gds_recovery.specs.Errors as recovery
use Rattle.gds_recovery.specs.Found.{EndsReading, FindsSame}
use Rattle.gds_recovery.specs.declared.error.RecoveryError.{RecoveryError}
use Rattle.gds_recovery.specs.declared.error.RecoveryError.TheVariants as why
use Rattle.gds_units.specs.Opening.{HasOpeningCause, unit_error}
use Rattle.gds_units.specs.State.{UnitsState, image_of}
use Rattle.gds_units.specs.declared.error.UnitError.{UnitError}
use Rattle.gds_units.specs.declared.error.UnitError.TheVariants as answer
use Rattle.integ.proofs.IntegLemmas.{ending-told}
use Rattle.gds_opening.specs.Opening.{FindsFaults, HasCause, HasReadingCause}
use Rattle.gds_opening.proofs.CountingLemmas.{told_faults}

-- A file whose header ends the reading has one fault.
one_fault : (c : Contents) → EndsReading c → FindsFaults 1 c
one_fault c ends = record {
  file = ends.file;
  found = ends.found;
  has = told_faults ends.file [] _ 1 (ending-told ends.file ends.unreadable.kind ends.unreadable.ends [] _ refl);
}

recovery_cause : (told : Option Contents) (before now : Failures) (e : RecoveryError)
    → recovery.HasCause told before now e → HasCause told before now (unit_error e)
recovery_cause told before now why.Memory cause = tt
recovery_cause told before now why.ReadFault cause = cause
recovery_cause told before now why.WriteFault cause = cause
recovery_cause told before now (why.BadImages at) cause = cause
recovery_cause told before now (why.Unsound n) cause = (
  λ zero. absurd (omega (arith, cause.0, zero)),
  λ c tells. rw cause.0 (one_fault c (cause.1 c tells)),
)
recovery_cause told before now (why.Changed unit) cause = cause

-- Units that aren't opened
pub opening_cause : (told : Option Contents) (before now : Failures) (e : UnitError)
    → HasOpeningCause told before now e → HasCause told before now e
opening_cause told before now e has = rw has.is (recovery_cause told before now has.why has.cause)

-- Of open units the image is told where the host is. Their host tells where it told before.
module _ (told mid : Option Contents) (image : Option (List ℕ))
    (is : ForSome told (λ c. image ≡ recovered c.db c.images)) (same : TellsOn told mid FindsSame)
    (told_both : image ≡ None → mid ≡ None) where
  image_untold : image ≡ None → told ≡ None
  image_untold none = by told refl
    where
      by : (o : Option Contents) → told ≡ o → told ≡ None
      by None tells = tells
      by (Some c) tells =
          let now = TellsOn-some told mid FindsSame c tells same in absurd (cc (told_both none, now.1))

  image_there : (c : Contents) → told ≡ Some c → (file : List ℕ) × (image ≡ Some file)
  image_there c tells = by image refl
    where
      by : (o : Option (List ℕ)) → image ≡ o → (file : List ℕ) × (image ≡ Some file)
      by None none = absurd (cc (image_untold none, tells))
      by (Some file) some = (file, some)

  pub image_is_some : (c : Contents) → told ≡ Some c → IsSome image
  image_is_some c tells = rw (image_there c tells).1 refl

  -- Units that are open, and that have faults or can't be read
  pub reading_cause : (before opened now : Failures) (e : UnitError) → NeverFell before opened
      → HasReadingCause image opened now e → HasCause told before now e
  reading_cause before opened now answer.Memory fell cause = tt
  reading_cause before opened now answer.ReadFault fell cause =
      then-Rose before.read opened.read now.read fell.read cause
  reading_cause before opened now (answer.Unsound n) fell cause = (
    cause.0,
    λ c tells.
        let there = image_there c tells in
        record { file = there.0; found = sym (is c tells) ∙ there.1; has = cause.1 there.0 there.1 },
  )
  reading_cause before opened now (answer.Changed unit) fell cause = image_untold cause
  reading_cause before opened now _ fell cause = absurd cause

-- What holds of the image of units holds of that of their base.
pub of_base : {H E : Type 0} (r : Result (UnitsState H) E) (units : UnitsState H) (P : Option (List ℕ) → Type 0)
    → IfOk r (λ base. base ≡ record units { host = base.host }) → IfOk r (λ _. P (image_of units))
    → IfOk r (λ base. P (image_of base))
of_base (Ok base) units P is has = subst P (sym (ap image_of is)) has
of_base (Err e) units P is has = tt

-- What holds whatever a call answers.
pub any_ok : {T E : Type 0} (r : Result T E) (P : Type 0) → P → IfOk r (λ _. P)
any_ok (Ok value) P has = has
any_ok (Err e) P has = tt

-- at the exit of a call that failed
pub on_err : {T E : Type 0} (r : Result T E) (P : E → Type 0) (x y : E) → r ≡ Err x → x ≡ y → P y → IfErr r P
on_err r P x y is same has = subst (λ r. IfErr r P) (sym is) (subst P (sym same) has)
