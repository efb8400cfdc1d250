-- How a SET ends: with its draft, or with the commit of it.
use Rattle.std.proofs.Common.{◌≡◌, ℕ, ◌^◌, ◌≤◌, Option, None, Result, Ok, Err, refl, sym, ap, subst, ◌∙◌, arith}
use Rattle.std.specs.Prelude.{◌↔◌, IsErrAnd}
use Rattle.std.proofs.lemmas.Result.{err_from_is_err_and}
use Rattle.host_model.specs.Failures.{Failures, NeverFell}
use Rattle.host_model.specs.Files.{Contents}
use Rattle.gds_base.specs.Ending.{EndsCommit}
use Rattle.gds_base.specs.declared.error.BaseError.{BaseError}
use Rattle.gds_base.specs.declared.error.BaseError.TheVariants as answer
use Rattle.gds_header.specs.declared.header.Header.{Header}
use Rattle.gds_units.specs.Reading.{OnlyRead}
use Rattle.gds_units.specs.State.{UnitsState}
use Rattle.gds_globals.specs.Ending.{EndsDrafting, EndsSetting, HasRoom, OnRefusal}

pub on_refusal : {T : Type 0} (result : Result T BaseError) (P : Type 0) → P → OnRefusal result P
on_refusal (Ok value) P p = tt
on_refusal (Err answer.Memory) P p = tt
on_refusal (Err answer.ReadFault) P p = tt
on_refusal (Err answer.WriteFault) P p = tt
on_refusal (Err answer.Stopped) P p = tt
on_refusal (Err (answer.Changed unit)) P p = tt
on_refusal (Err answer.KeyTooLong) P p = p
on_refusal (Err answer.ValueTooLong) P p = p
on_refusal (Err answer.Full) P p = p
on_refusal (Err answer.TooDeep) P p = p
on_refusal (Err answer.TnSpent) P p = p

-- ---- where no draft was made

module _ {H : Type 0} (h : Header) (k v : ℕ) (C D T U : Type 0) (old new : UnitsState H) (a b : Failures)
    (stopped : new.stopped ≡ old.stopped) where
  drafting_err : (e : BaseError) → EndsDrafting h k v C D {T = T} a b (Err e)
      → EndsSetting h k v C D {T = U} a b old new (Err e)
  drafting_err answer.Memory ends = (stopped, ends)
  drafting_err answer.ReadFault ends = (stopped, ends)
  drafting_err (answer.Changed unit) ends = (stopped, ends)
  drafting_err answer.KeyTooLong ends = (stopped, ends)
  drafting_err answer.ValueTooLong ends = (stopped, ends)
  drafting_err answer.Full ends = (stopped, ends)
  drafting_err answer.TooDeep ends = (stopped, ends)
  drafting_err answer.TnSpent ends = (stopped, ends)
  drafting_err answer.WriteFault ends = absurd ends
  drafting_err answer.Stopped ends = absurd ends

  pub drafting_exit : (e : BaseError) (result : Result U BaseError) → IsErrAnd result (λ y. y ≡ e)
      → EndsDrafting h k v C D {T = T} a b (Err e) → EndsSetting h k v C D a b old new result
  drafting_exit e result exit ends =
      let x = err_from_is_err_and result exit in
      subst (EndsSetting h k v C D {T = U} a b old new) (sym (x.1 ∙ ap Err x.2)) (drafting_err e ends)

-- ---- where one was committed

module _ {H T : Type 0} (old mid new : UnitsState H) (a m b : Failures) (tells : Option Contents) where
  module _ (h : Header) (k v : ℕ) (C D : Type 0) (never : NeverFell a m) (stopped : mid.stopped ≡ old.stopped)
      (room : HasRoom h k v) (untold : tells ≡ None → C) (tn : mid.header.tn ≡ h.tn) where
    abbrev fails : BaseError → Result T BaseError
    fails e = Err e

    commit_err : (e : BaseError) → (fails e ≡ fails answer.TnSpent → 2 ^ 63 ≤ mid.header.tn)
        → EndsCommit {T = T} m b mid new tells (Err e) → EndsSetting h k v C D {T = T} a b old new (Err e)
    commit_err answer.Memory spent ends = (ends ∙ stopped, room)
    commit_err answer.ReadFault spent ends = (ends.0 ∙ stopped, (room, omega (arith, never.read, ends.1)))
    commit_err (answer.Changed unit) spent ends = (ends.0 ∙ stopped, (room, untold ends.1))
    commit_err answer.WriteFault spent ends =
        (room, sym stopped ∙ ends.0, ends.1, omega (arith, never.write, ends.2))
    commit_err answer.Stopped spent ends =
        (room, sym stopped ∙ ends.0, ap (λ (s : UnitsState H). s.stopped) ends.1 ∙ ends.0)
    commit_err answer.TnSpent spent ends = absurd (omega (arith, spent refl, tn, room.0.1))
    commit_err answer.KeyTooLong spent ends = absurd ends
    commit_err answer.ValueTooLong spent ends = absurd ends
    commit_err answer.Full spent ends = absurd ends
    commit_err answer.TooDeep spent ends = absurd ends

    pub commit_ends : (result : Result T BaseError) → (result ≡ Err answer.TnSpent) ↔ (2 ^ 63 ≤ mid.header.tn)
        → EndsCommit m b mid new tells result → EndsSetting h k v C D a b old new result
    commit_ends (Ok value) spent ends = (room, sym stopped ∙ ends.0, ends.1)
    commit_ends (Err e) spent ends = commit_err e spent.0 ends

  pub commit_refused : (told : H → Option Contents) (moment : H → ℕ) (counts : H → Failures)
      (left_since : H → ℕ → Contents → Type 0) (result : Result T BaseError)
      → OnlyRead told moment counts left_since old mid → EndsCommit m b mid new tells result
      → OnRefusal result (OnlyRead told moment counts left_since old new)
  commit_refused told moment counts left_since (Ok value) read ends = tt
  commit_refused told moment counts left_since (Err answer.Memory) read ends = tt
  commit_refused told moment counts left_since (Err answer.ReadFault) read ends = tt
  commit_refused told moment counts left_since (Err (answer.Changed unit)) read ends = tt
  commit_refused told moment counts left_since (Err answer.WriteFault) read ends = tt
  commit_refused told moment counts left_since (Err answer.Stopped) read ends = tt
  commit_refused told moment counts left_since (Err answer.TnSpent) read ends =
      subst (OnlyRead told moment counts left_since old) (sym ends) read
  commit_refused told moment counts left_since (Err answer.KeyTooLong) read ends = absurd ends
  commit_refused told moment counts left_since (Err answer.ValueTooLong) read ends = absurd ends
  commit_refused told moment counts left_since (Err answer.Full) read ends = absurd ends
  commit_refused told moment counts left_since (Err answer.TooDeep) read ends = absurd ends
