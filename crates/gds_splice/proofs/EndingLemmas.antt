-- How calls end that part a block, behind others.
use Rattle.std.proofs.Common.{◌≡◌, Result, Ok, Err, sym, ap, ◌∙◌, arith, subst}
use Rattle.std.specs.Prelude.{IsErrAnd}
use Rattle.std.proofs.lemmas.Result.{err_from_is_err_and}
use Rattle.host_model.specs.Failures.{Failures, NeverFell}
use Rattle.gds_base.specs.Ending.{EndsReading}
use Rattle.gds_base.specs.declared.error.BaseError.{BaseError}
use Rattle.gds_base.specs.declared.error.BaseError.TheVariants as answer
use Rattle.gds_splice.specs.Ending.{EndsParting}

-- behind other calls, one that only reads
reading_err : (T U : Type 0) (a b c : Failures) (P Q D : Type 0) (e : BaseError) → NeverFell a b → (P → Q)
    → EndsReading {T = T} b c P (Err e) → EndsParting {T = U} a c Q D (Err e)
reading_err T U a b c P Q D answer.Memory never so ends = tt
reading_err T U a b c P Q D answer.ReadFault never so ends = omega (arith, never.read)
reading_err T U a b c P Q D (answer.Changed unit) never so ends = so ends
reading_err T U a b c P Q D answer.WriteFault never so ends = absurd ends
reading_err T U a b c P Q D answer.Stopped never so ends = absurd ends
reading_err T U a b c P Q D answer.KeyTooLong never so ends = absurd ends
reading_err T U a b c P Q D answer.ValueTooLong never so ends = absurd ends
reading_err T U a b c P Q D answer.Full never so ends = absurd ends
reading_err T U a b c P Q D answer.TooDeep never so ends = absurd ends
reading_err T U a b c P Q D answer.TnSpent never so ends = absurd ends

pub reading_ends : (T : Type 0) (a b c : Failures) (P Q D : Type 0) (result : Result T BaseError) → NeverFell a b
    → (P → Q) → EndsReading {T = T} b c P result → EndsParting {T = T} a c Q D result
reading_ends T a b c P Q D (Ok value) never so ends = tt
reading_ends T a b c P Q D (Err e) never so ends = reading_err T T a b c P Q D e never so ends

pub reading_exit : (T U : Type 0) (a b c : Failures) (P Q D : Type 0) (e : BaseError) (result : Result U BaseError)
    → NeverFell a b → (P → Q) → IsErrAnd result (λ y. y ≡ e) → EndsReading {T = T} b c P (Err e)
    → EndsParting {T = U} a c Q D result
reading_exit T U a b c P Q D e result never so exit ends =
    let x = err_from_is_err_and result exit in
    subst (EndsParting {T = U} a c Q D) (sym (x.1 ∙ ap Err x.2)) (reading_err T U a b c P Q D e never so ends)

-- and one that parts
parting_err : (T U : Type 0) (a b c : Failures) (P Q D F : Type 0) (e : BaseError) → NeverFell a b → (P → Q) → (D → F)
    → EndsParting {T = T} b c P D (Err e) → EndsParting {T = U} a c Q F (Err e)
parting_err T U a b c P Q D F answer.Memory never so too ends = tt
parting_err T U a b c P Q D F answer.ReadFault never so too ends = omega (arith, never.read)
parting_err T U a b c P Q D F (answer.Changed unit) never so too ends = so ends
parting_err T U a b c P Q D F answer.TooDeep never so too ends = too ends
parting_err T U a b c P Q D F answer.WriteFault never so too ends = absurd ends
parting_err T U a b c P Q D F answer.Stopped never so too ends = absurd ends
parting_err T U a b c P Q D F answer.KeyTooLong never so too ends = absurd ends
parting_err T U a b c P Q D F answer.ValueTooLong never so too ends = absurd ends
parting_err T U a b c P Q D F answer.Full never so too ends = absurd ends
parting_err T U a b c P Q D F answer.TnSpent never so too ends = absurd ends

pub parting_ends : (T : Type 0) (a b c : Failures) (P Q D F : Type 0) (result : Result T BaseError) → NeverFell a b
    → (P → Q) → (D → F) → EndsParting {T = T} b c P D result → EndsParting {T = T} a c Q F result
parting_ends T a b c P Q D F (Ok value) never so too ends = tt
parting_ends T a b c P Q D F (Err e) never so too ends = parting_err T T a b c P Q D F e never so too ends

pub parting_exit : (T U : Type 0) (a b c : Failures) (P Q D F : Type 0) (e : BaseError) (result : Result U BaseError)
    → NeverFell a b → (P → Q) → (D → F) → IsErrAnd result (λ y. y ≡ e) → EndsParting {T = T} b c P D (Err e)
    → EndsParting {T = U} a c Q F result
parting_exit T U a b c P Q D F e result never so too exit ends =
    let x = err_from_is_err_and result exit in
    subst (EndsParting {T = U} a c Q F) (sym (x.1 ∙ ap Err x.2)) (parting_err T U a b c P Q D F e never so too ends)
