-- What a call answers, and how it ends behind another one.
use Rattle.std.proofs.Common.{◌≡◌, Bool, true, false, Result, Ok, Err, sym}
use Rattle.std.specs.Prelude.{IfOk}
use Rattle.std.specs.Bool.{OnFalse, OnTrue}
use Rattle.std.proofs.lemmas.Bool.{false≢true}
use Rattle.host_model.specs.Failures.{Failures, NeverFell}
use Rattle.host_model.proofs.FailureLemmas.{then-Rose}
use Rattle.gds_base.specs.Ending.{EndsReading}
use Rattle.gds_base.specs.declared.error.BaseError.{BaseError}
use Rattle.gds_base.specs.declared.error.BaseError.TheVariants as error

pub when_true : {P : Type 0} (b : Bool) → b ≡ true → OnTrue b P → P
when_true true is h = h
when_true false is h = absurd (false≢true is)

pub when_false : {P : Type 0} (b : Bool) → b ≡ false → OnFalse b P → P
when_false false is h = h
when_false true is h = absurd (false≢true (sym is))

pub done_weaker : {E : Type 0} (P Q : Type 0) (r : Result Bool E) → (P → Q) → IfOk r (λ done. OnTrue done P)
    → IfOk r (λ done. OnTrue done Q)
done_weaker P Q (Ok true) f h = f h
done_weaker P Q (Ok false) f h = h
done_weaker P Q (Err e) f h = h

-- A call that reads, behind another one.
pub ends_later : {T : Type 0} (before mid now : Failures) (P Q : Type 0) (r : Result T BaseError)
    → NeverFell before mid → (P → Q) → EndsReading mid now P r → EndsReading before now Q r
ends_later before mid now P Q (Ok x) fell f h = tt
ends_later before mid now P Q (Err error.Memory) fell f h = tt
ends_later before mid now P Q (Err error.ReadFault) fell f h = then-Rose before.read mid.read now.read fell.read h
ends_later before mid now P Q (Err (error.Changed unit)) fell f h = f h
ends_later before mid now P Q (Err e) fell f h = h
