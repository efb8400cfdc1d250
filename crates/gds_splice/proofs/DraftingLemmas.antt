-- What calls on a base and a draft of it leave, one after another.
use Rattle.std.proofs.Common.{◌≡◌, ◌+◌, ◌≤◌, ℕ, Option, Result, Err, refl, sym, ap, ◌∙◌, subst, arith}
use Rattle.std.specs.Prelude.{IsErrAnd}
use Rattle.std.proofs.lemmas.Result.{err_from_is_err_and}
use Rattle.host_model.specs.Failures.{Failures, NeverFell}
use Rattle.host_model.specs.Files.{Contents}
use Rattle.host_model.proofs.FrameLemmas.{WasRead-refl, WasRead-then}
use Rattle.host_model.proofs.MomentLemmas.{LeavesTheSame-refl, LeavesTheSame-trans}
use Rattle.gds_base.specs.Drafting.{IsDraftFor, OnlyDrafts}
use Rattle.gds_base.specs.Ending.{EndsReading}
use Rattle.gds_base.specs.declared.error.BaseError.{BaseError}
use Rattle.gds_base.specs.declared.error.BaseError.TheVariants as answer
use Rattle.gds_draft.specs.Draft.{DraftState}
use Rattle.gds_header.specs.declared.header.Header.{Header}
use Rattle.gds_units.specs.Reading.{OnlyRead}
use Rattle.gds_units.specs.State.{UnitsState, image_of}
use Rattle.gds_splice.specs.Writing.{HasMore}

module _ {H : Type 0} (told : H → Option Contents) (moment : H → ℕ) (counts : H → Failures)
    (left_since : H → ℕ → Contents → Type 0) where
  pub OnlyRead-refl : (a : UnitsState H) → OnlyRead told moment counts left_since a a
  OnlyRead-refl a = record {
    rest = refl;
    read = WasRead-refl told counts a.host;
    crash = LeavesTheSame-refl moment left_since a.host;
  }

  pub OnlyRead-then : (a b c : UnitsState H) → OnlyRead told moment counts left_since a b
      → OnlyRead told moment counts left_since b c → OnlyRead told moment counts left_since a c
  OnlyRead-then a b c first second = record {
    rest = second.rest ∙ ap (λ (s : UnitsState H). record s { host = c.host }) first.rest;
    read = WasRead-then told counts a.host b.host c.host first.read second.read;
    crash = LeavesTheSame-trans moment left_since a.host b.host c.host first.crash second.crash;
  }

  -- the image and the header stay
  pub same_image : (a b : UnitsState H) → OnlyRead told moment counts left_since a b → image_of b ≡ image_of a
  same_image a b read = ap image_of read.rest

  pub same_header : (a b : UnitsState H) → OnlyRead told moment counts left_since a b → b.header ≡ a.header
  same_header a b read = ap (λ (s : UnitsState H). s.header) read.rest

  pub OnlyDrafts-read : (a b : UnitsState H) (draft : DraftState) → OnlyRead told moment counts left_since a b
      → OnlyDrafts told moment counts left_since a b draft draft 0
  OnlyDrafts-read a b draft read = record { read = read; header = refl; more = omega arith }

  pub OnlyDrafts-refl : (a : UnitsState H) (draft : DraftState)
      → OnlyDrafts told moment counts left_since a a draft draft 0
  OnlyDrafts-refl a draft = OnlyDrafts-read a a draft (OnlyRead-refl a)

  -- only the draft got more blocks
  pub OnlyDrafts-more : (a : UnitsState H) (x y : DraftState) (m : ℕ) → HasMore x y m
      → OnlyDrafts told moment counts left_since a a x y m
  OnlyDrafts-more a x y m more = record {
    read = OnlyRead-refl a;
    header = more.header ∙ (λ k. record x.header {
      free = ap (λ (h : Header). h.free) (sym more.header) k;
      master = ap (λ (h : Header). h.master) (sym more.header) k;
    });
    more = more.units;
  }

  pub OnlyDrafts-then : (a b c : UnitsState H) (x y z : DraftState) (m n : ℕ)
      → OnlyDrafts told moment counts left_since a b x y m → OnlyDrafts told moment counts left_since b c y z n
      → OnlyDrafts told moment counts left_since a c x z (m + n)
  OnlyDrafts-then a b c x y z m n first second = record {
    read = OnlyRead-then a b c first.read second.read;
    header = second.header
        ∙ ap (λ (h : Header). record h { free = z.header.free; master = z.header.master }) first.header;
    more = omega (arith, first.more, second.more);
  }

  pub OnlyDrafts-weaker : (a b : UnitsState H) (x y : DraftState) (m n : ℕ) → m ≤ n
      → OnlyDrafts told moment counts left_since a b x y m → OnlyDrafts told moment counts left_since a b x y n
  OnlyDrafts-weaker a b x y m n le only =
      record { read = only.read; header = only.header; more = omega (arith, only.more) }

  -- the draft may still be one of the base
  pub draft_after : (a b : UnitsState H) (x y : DraftState) (m : ℕ)
      → OnlyDrafts told moment counts left_since a b x y m → IsDraftFor a.header x → IsDraftFor b.header y
  draft_after a b x y m only is = record {
    block_size = ap (λ (h : Header). h.block_size) only.header ∙ is.block_size
        ∙ ap (λ (h : Header). h.block_size) (sym (same_header a b only.read));
    tn = ap (λ (h : Header). h.tn) only.header ∙ is.tn
        ∙ ap (λ (h : Header). h.tn) (sym (same_header a b only.read));
  }

  pub same_total : (a b : UnitsState H) (x y : DraftState) (m : ℕ)
      → OnlyDrafts told moment counts left_since a b x y m → y.header.total ≡ x.header.total
  same_total a b x y m only = ap (λ (h : Header). h.total) only.header

-- How a call ended behind others, as they ended together.
ends_err : (T U : Type 0) (a b c : Failures) (P Q : Type 0) (e : BaseError) → NeverFell a b → (P → Q)
    → EndsReading {T = T} b c P (Err e) → EndsReading {T = U} a c Q (Err e)
ends_err T U a b c P Q answer.Memory never so ends = tt
ends_err T U a b c P Q answer.ReadFault never so ends = omega (arith, never.read)
ends_err T U a b c P Q (answer.Changed unit) never so ends = so ends
ends_err T U a b c P Q answer.WriteFault never so ends = absurd ends
ends_err T U a b c P Q answer.Stopped never so ends = absurd ends
ends_err T U a b c P Q answer.KeyTooLong never so ends = absurd ends
ends_err T U a b c P Q answer.ValueTooLong never so ends = absurd ends
ends_err T U a b c P Q answer.Full never so ends = absurd ends
ends_err T U a b c P Q answer.TooDeep never so ends = absurd ends
ends_err T U a b c P Q answer.TnSpent never so ends = absurd ends

pub ends_exit : (T U : Type 0) (a b c : Failures) (P Q : Type 0) (e : BaseError) (result : Result U BaseError)
    → NeverFell a b → (P → Q) → IsErrAnd result (λ y. y ≡ e) → EndsReading {T = T} b c P (Err e)
    → EndsReading {T = U} a c Q result
ends_exit T U a b c P Q e result never so exit ends =
    let x = err_from_is_err_and result exit in
    subst (EndsReading {T = U} a c Q) (sym (x.1 ∙ ap Err x.2)) (ends_err T U a b c P Q e never so ends)
