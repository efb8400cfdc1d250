-- Calls one after another: how they end, and what a crash leaves.
use Rattle.std.proofs.Common.{◌≡◌, ◌⊎◌, ℕ, ◌≤◌, false, List, Option, None, Some, Result, Err, refl, sym, subst}
use Rattle.std.proofs.Common.{◌∙◌, inl, inr, ⊎_elim, true≢false}
use Rattle.host_model.specs.Failures.{Failures, NeverFell}
use Rattle.host_model.specs.Files.{Contents}
use Rattle.host_model.specs.Moments.{EachLeft}
use Rattle.host_model.specs.Told.{TellsOn}
use Rattle.host_model.proofs.FailureLemmas.{then-Rose}
use Rattle.host_model.proofs.FrameLemmas.{TellsOn-some}
use Rattle.host_model.proofs.MomentLemmas.{weaker}
use Rattle.gds_units.specs.Durable.{AsBefore, IsStored, KeepsOrStores, KeptAllOrStored, Stores}
use Rattle.gds_units.specs.Ending.{EndsCommit as EndsUnits}
use Rattle.gds_units.specs.State.{UnitsState, WhereTold, image_of}
use Rattle.gds_units.specs.declared.error.UnitError.{UnitError}
use Rattle.gds_units.specs.declared.error.UnitError.TheVariants as units
use Rattle.gds_units.proofs.DurableLemmas.{before_then, stores_then}
use Rattle.gds_units.proofs.ExampleLemmas.{or_or}
use Rattle.gds_base.specs.Ending.{EndsCommit}
use Rattle.gds_base.specs.Errors.{base_error}
use Rattle.gds_base.specs.declared.error.BaseError.{BaseError}

-- ---- How a commit ends, where the file has grown before.

-- what tells nothing now told nothing before
pub untold_before : {A : Type 0} (a b : Option A) (R : A → A → Type 0) → TellsOn a b R → b ≡ None → a ≡ None
untold_before None b R tells none = refl
untold_before (Some x) b R tells none =
    let at = TellsOn-some (Some x) b R x refl tells in
    absurd (let no : None ≡ Some at.0 = sym none ∙ at.1 in cc)

module _ {H : Type 0} (before between now : Failures) (old mid new : UnitsState H) (told then : Option Contents)
    (rose : NeverFell before between) (old_going : old.stopped ≡ false) (mid_going : mid.stopped ≡ false)
    (untold : then ≡ None → told ≡ None) where
  ends_as : (error : UnitError) → EndsUnits {T = Unit {0}} between now mid new then (Err error)
      → EndsCommit {T = Unit {0}} before now old new told (Err (base_error error))
  ends_as units.Memory ends = ends ∙ mid_going ∙ sym old_going
  ends_as units.ReadFault ends =
      (ends.0 ∙ mid_going ∙ sym old_going, then-Rose before.read between.read now.read rose.read ends.1)
  ends_as units.WriteFault ends =
      (old_going, ends.1, then-Rose before.write between.write now.write rose.write ends.2)
  ends_as units.Stopped ends = absurd (true≢false (sym ends.0 ∙ mid_going))
  ends_as (units.Changed unit) ends = (ends.0 ∙ mid_going ∙ sym old_going, untold ends.1)
  ends_as _ ends = absurd ends

  pub commit_ends : (error : UnitError) (result : Result (Unit {0}) BaseError)
      → EndsUnits {T = Unit {0}} between now mid new then (Err error) → result ≡ Err (base_error error)
      → EndsCommit before now old new told result
  commit_ends error result ends is = subst (EndsCommit before now old new told) (sym is) (ends_as error ends)

-- ---- What a crash leaves after two calls.

module _ {H : Type 0} (told : H → Option Contents) (moment : H → ℕ) (left_since : H → ℕ → Contents → Type 0)
    (longer : (host : H) (t u : ℕ) (c : Contents) → t ≤ u → left_since host u c → left_since host t c)
    (old mid : UnitsState H) (new : H) (same : image_of mid ≡ image_of old)
    (said : TellsOn (told old.host) (told mid.host) (λ c d. d.said ≡ c.said)) where
  -- what holds where it is told in the middle, where it was told at first
  at_first : (P : List ℕ → List ℕ → Type 0) → WhereTold told mid (λ c image. P image c.said)
      → (c : Contents) → told old.host ≡ Some c → (image : List ℕ) → image_of old ≡ Some image → P image c.said
  at_first P holds c tells image is =
      let at = TellsOn-some (told old.host) (told mid.host) (λ x y. y.said ≡ x.said) c tells said in
      subst (P image) at.2 (holds at.0 at.1 image (same ∙ is))

  pub moments_then : WhereTold told old (λ c image. KeepsOrStores moment left_since image c.said old.host mid.host)
      → WhereTold told mid (λ c image. KeepsOrStores moment left_since image c.said mid.host new)
      → WhereTold told old (λ c image. KeepsOrStores moment left_since image c.said old.host new)
  moments_then first second c tells image is =
      let P : Contents → Type 0 = λ d. AsBefore moment left_since old.host d ⊎ Stores image c.said d in
      let both = or_or told moment left_since longer old.host mid.host new image image c.said
      (first c tells image is)
      (at_first (λ x text. KeepsOrStores moment left_since x text mid.host new) second c tells image is) in
      weaker moment left_since old.host new
      (λ d. AsBefore moment left_since old.host d ⊎ Stores image c.said d ⊎ Stores image c.said d) P
      (λ d. ⊎_elim (λ (kept : AsBefore moment left_since old.host d). inl kept)
      (⊎_elim (λ (own : Stores image c.said d). inr own) (λ (own : Stores image c.said d). inr own))) both

  pub kept_then : WhereTold told old (λ c image. KeptAllOrStored moment left_since image c.said old.host mid.host)
      → WhereTold told mid (λ c image. KeptAllOrStored moment left_since image c.said mid.host new)
      → WhereTold told old (λ c image. KeptAllOrStored moment left_since image c.said old.host new)
  kept_then first second c tells image is =
      let left = left_since mid.host (moment mid.host) in
      ⊎_elim
      (λ (kept : EachLeft moment left_since new (AsBefore moment left_since mid.host)).
      ⊎_elim
      (λ (earlier : EachLeft moment left_since mid.host (AsBefore moment left_since old.host)).
      inl (λ d now. before_then moment left_since longer old.host left d earlier (kept d now)))
      (λ (stored : IsStored moment left_since image c.said mid.host).
      inr (λ d now. stores_then moment left_since longer image c.said left d stored (kept d now)))
      (first c tells image is))
      (λ (stored : IsStored moment left_since image c.said new). inr stored)
      (at_first (λ x text. KeptAllOrStored moment left_since x text mid.host new) second c tells image is)
