-- How calls that read end behind others.
use Rattle.std.proofs.Common.{◌≡◌, Result, Ok, Err, sym, subst}
use Rattle.host_model.specs.Failures.{Failures, NeverFell}
use Rattle.host_model.proofs.FailureLemmas.{then-Rose}
use Rattle.gds_base.specs.Ending.{EndsReading}
use Rattle.gds_base.specs.declared.error.BaseError.{BaseError}
use Rattle.gds_base.specs.declared.error.BaseError.TheVariants as error
use Rattle.gds_globals.specs.Ending.{EndsAsking}

module _ (T U : Type 0) (before mid now : Failures) (P Q : Type 0) (fell : NeverFell before mid) (f : P → Q) where
  later : (e : BaseError) → EndsReading {T = T} mid now P (Err e) → EndsReading {T = U} before now Q (Err e)
  later error.Memory h = tt
  later error.ReadFault h = then-Rose before.read mid.read now.read fell.read h
  later (error.Changed unit) h = f h
  later error.WriteFault h = h
  later error.Stopped h = h
  later error.KeyTooLong h = h
  later error.ValueTooLong h = h
  later error.Full h = h
  later error.TooDeep h = h
  later error.TnSpent h = h

  -- An error of a call is passed on, for a cause that the first one explains.
  pub passed_on : (r : Result T BaseError) (s : Result U BaseError) (e : BaseError) → EndsReading mid now P r
      → r ≡ Err e → s ≡ Err e → EndsReading before now Q s
  passed_on r s e h is_r is_s =
      subst (EndsReading before now Q) (sym is_s) (later e (subst (EndsReading mid now P) is_r h))

-- A call that reads may also ask.
asks : {T : Type 0} (before now : Failures) (Q : Type 0) (r : Result T BaseError) → EndsReading before now Q r
    → EndsAsking before now Q r
asks before now Q (Ok x) h = h
asks before now Q (Err error.Memory) h = h
asks before now Q (Err error.ReadFault) h = h
asks before now Q (Err (error.Changed unit)) h = h
asks before now Q (Err error.WriteFault) h = h
asks before now Q (Err error.Stopped) h = h
asks before now Q (Err error.KeyTooLong) h = tt
asks before now Q (Err error.ValueTooLong) h = h
asks before now Q (Err error.Full) h = h
asks before now Q (Err error.TooDeep) h = h
asks before now Q (Err error.TnSpent) h = h

pub asked : (T U : Type 0) (before mid now : Failures) (P Q : Type 0) → NeverFell before mid → (P → Q)
    → (r : Result T BaseError) (s : Result U BaseError) (e : BaseError) → EndsReading mid now P r
    → r ≡ Err e → s ≡ Err e → EndsAsking before now Q s
asked T U before mid now P Q fell f r s e h is_r is_s =
    asks before now Q s (passed_on T U before mid now P Q fell f r s e h is_r is_s)

pub asked_last : {T : Type 0} (before mid now : Failures) (P Q : Type 0) → NeverFell before mid → (P → Q)
    → (r : Result T BaseError) → EndsReading mid now P r → EndsAsking before now Q r
asked_last before mid now P Q fell f (Ok x) h = tt
asked_last {T} before mid now P Q fell f (Err e) h =
    asks {T = T} before now Q (Err e) (later T T before mid now P Q fell f e h)

-- What the last call ends with is passed on.
pub read_last : {T : Type 0} (before mid now : Failures) (P Q : Type 0) → NeverFell before mid → (P → Q)
    → (r : Result T BaseError) → EndsReading mid now P r → EndsReading before now Q r
read_last before mid now P Q fell f (Ok x) h = tt
read_last {T} before mid now P Q fell f (Err e) h = later T T before mid now P Q fell f e h
