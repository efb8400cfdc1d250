-- How a draft of a SET ends that is made ready.
use Rattle.std.proofs.Common.{◌≡◌, ℕ, ◌<◌, ◌≤◌, Option, None, Some, Result, Err, refl, sym, ap, subst, ◌∙◌, arith}
use Rattle.std.proofs.Common.{⊎_elim}
use Rattle.std.specs.Prelude.{◌↔◌, IsErrAnd}
use Rattle.std.proofs.lemmas.Bool.{cases_lt}
use Rattle.std.proofs.lemmas.Result.{err_from_is_err_and}
use Rattle.host_model.specs.Failures.{Failures, NeverFell}
use Rattle.gds_base.specs.Ending.{EndsReading}
use Rattle.gds_base.specs.Reserve.{EndsReserving}
use Rattle.gds_base.specs.declared.error.BaseError.{BaseError}
use Rattle.gds_base.specs.declared.error.BaseError.TheVariants as answer
use Rattle.gds_file.specs.Room.{room_of}
use Rattle.gds_header.specs.declared.header.Header.{Header}
use Rattle.gds_splice.specs.Ending.{EndsParting}
use Rattle.gds_globals.specs.Ending.{EndsDrafting, HasRoom, MayCommit}

-- what can't be of anything that is told isn't told
pub none_from : {A : Type 0} (o : Option A) → ((x : A) → o ≡ Some x → ⊥) → o ≡ None
none_from None h = refl
none_from (Some x) h = absurd (h x refl)

module _ (h : Header) (k v : ℕ) (C D : Type 0) (may : MayCommit h k v) (T U : Type 0) (a b c : Failures) where
  -- a call finds the file full exactly where there is no room
  abbrev pub FindsFull : Result T BaseError → Type 0
  FindsFull r = (r ≡ Err answer.Full) ↔ (room_of h < 32)

  -- There is room where it isn't said that there is none.
  pub has_room : (r : Result T BaseError) → FindsFull r → (r ≡ Err answer.Full → ⊥)
      → HasRoom h k v
  has_room r full unsaid = ⊎_elim
      (λ (few : room_of h < 32). absurd (unsaid (full.1 few)))
      (λ (room : 32 ≤ room_of h). (may, room))
      (cases_lt (room_of h) 32)

  reserving_err : (P : Type 0) → (P → C) → (e : BaseError) → FindsFull (Err e) → EndsReserving a b P (Err e)
      → EndsDrafting h k v C D {T = U} a b (Err e)
  reserving_err P so answer.Full full ends = (may, full.0 refl)
  reserving_err P so answer.Memory full ends = has_room (Err answer.Memory) full (λ e. cc)
  reserving_err P so answer.ReadFault full ends = (has_room (Err answer.ReadFault) full (λ e. cc), ends)
  reserving_err P so (answer.Changed unit) full ends = (has_room (Err (answer.Changed unit)) full (λ e. cc), so ends)
  reserving_err P so answer.WriteFault full ends = absurd ends
  reserving_err P so answer.Stopped full ends = absurd ends
  reserving_err P so answer.KeyTooLong full ends = absurd ends
  reserving_err P so answer.ValueTooLong full ends = absurd ends
  reserving_err P so answer.TooDeep full ends = absurd ends
  reserving_err P so answer.TnSpent full ends = absurd ends

  pub reserving_exit : (P : Type 0) → (P → C) → (e : BaseError) (result : Result U BaseError)
      → FindsFull (Err e) → IsErrAnd result (λ y. y ≡ e)
      → EndsReserving a b P (Err e) → EndsDrafting h k v C D a b result
  reserving_exit P so e result full exit ends =
      let x = err_from_is_err_and result exit in
      subst (EndsDrafting h k v C D {T = U} a b) (sym (x.1 ∙ ap Err x.2)) (reserving_err P so e full ends)

  module _ (room : HasRoom h k v) (never : NeverFell a b) where
    parting_err : (P Q : Type 0) → (P → C) → (Q → D) → (e : BaseError) → EndsParting {T = T} b c P Q (Err e)
        → EndsDrafting h k v C D {T = U} a c (Err e)
    parting_err P Q so too answer.Memory ends = room
    parting_err P Q so too answer.ReadFault ends = (room, omega (arith, never.read, ends))
    parting_err P Q so too (answer.Changed unit) ends = (room, so ends)
    parting_err P Q so too answer.TooDeep ends = (room, too ends)
    parting_err P Q so too answer.WriteFault ends = absurd ends
    parting_err P Q so too answer.Stopped ends = absurd ends
    parting_err P Q so too answer.KeyTooLong ends = absurd ends
    parting_err P Q so too answer.ValueTooLong ends = absurd ends
    parting_err P Q so too answer.Full ends = absurd ends
    parting_err P Q so too answer.TnSpent ends = absurd ends

    pub parting_exit : (P Q : Type 0) → (P → C) → (Q → D) → (e : BaseError) (result : Result U BaseError)
        → IsErrAnd result (λ y. y ≡ e) → EndsParting {T = T} b c P Q (Err e) → EndsDrafting h k v C D a c result
    parting_exit P Q so too e result exit ends =
        let x = err_from_is_err_and result exit in
        subst (EndsDrafting h k v C D {T = U} a c) (sym (x.1 ∙ ap Err x.2)) (parting_err P Q so too e ends)

    -- A call that only reads ends as one that parts, and never finds a tree too deep.
    as_parting : (P : Type 0) (e : BaseError) → EndsReading {T = T} b c P (Err e)
        → EndsParting {T = T} b c P ⊥ (Err e)
    as_parting P answer.Memory ends = tt
    as_parting P answer.ReadFault ends = ends
    as_parting P (answer.Changed unit) ends = ends
    as_parting P answer.WriteFault ends = ends
    as_parting P answer.Stopped ends = ends
    as_parting P answer.KeyTooLong ends = ends
    as_parting P answer.ValueTooLong ends = ends
    as_parting P answer.Full ends = ends
    as_parting P answer.TooDeep ends = ends
    as_parting P answer.TnSpent ends = ends

    pub reading_exit : (P : Type 0) → (P → C) → (e : BaseError) (result : Result U BaseError)
        → IsErrAnd result (λ y. y ≡ e) → EndsReading {T = T} b c P (Err e) → EndsDrafting h k v C D a c result
    reading_exit P so e result exit ends =
        parting_exit P ⊥ so (λ no. absurd no) e result exit (as_parting P e ends)
