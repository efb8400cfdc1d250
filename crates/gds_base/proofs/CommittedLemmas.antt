-- What a commit leaves of what is told.
use Rattle.std.proofs.Common.{◌≡◌, ℕ, ◌+◌, ◌<◌, ◌^◌, List, length, Option, None, Some, Result, Ok, Err, refl}
use Rattle.std.proofs.Common.{sym, ap, subst, ◌∙◌, arith}
use Rattle.std.specs.Prelude.{All, OnErr, OnOk, option_map}
use Rattle.std.specs.Option.{ForSome}
use Rattle.std.proofs.lemmas.List.{length-map}
use Rattle.host_model.specs.Told.{TellsOn}
use Rattle.host_model.proofs.FrameLemmas.{TellsOn-some}
use Rattle.gds_header.specs.declared.header.Header.{Header}
use Rattle.gds_header.specs.Fields.{fields_of}
use Rattle.gds_images.specs.Outcome.{IsWhole}
use Rattle.gds_epoch.specs.Epoch.{database_of}
use Rattle.gds_epoch.specs.Waiting.{WaitingUnit}
use Rattle.gds_epoch.specs.WaitingView.{unit_of, units_of}
use Rattle.gds_epoch.specs.declared.waiting.UnitBytes.{UnitBytes}
use Rattle.gds_draft.specs.Committed.{IsCommitted, next_header}
use Rattle.gds_draft.specs.Draft.{DraftState, HoldsBytes}
use Rattle.gds_draft.specs.Drafted.{drafted}
use Rattle.gds_draft.specs.Laws.{IsDraftOf}
use Rattle.gds_draft.proofs.BytesLemmas.{committed_is_bytes}
use Rattle.gds_draft.proofs.CommitLemmas.{committed_is_stamped}
use Rattle.gds_draft.proofs.DraftLemmas.{drafted_read}
use Rattle.gds_file.proofs.StampLemmas.{stamp_keeps_trees}
use Rattle.gds_units.specs.Plan.{IsCarriedOut}
use Rattle.gds_units.specs.State.{UnitsState, image_of}
use Rattle.gds_units.proofs.DurableLemmas.{some_same}
use Rattle.gds_base.specs.Commit.{IsPlanOf, stamped}
use Rattle.gds_base.specs.Drafting.{IsDraftFor}
use Rattle.gds_base.specs.Faultless.{IsFaultless}
use Rattle.gds_base.specs.Held.{IsBase}
use Rattle.gds_base.specs.Room.{HasZeros}
use Rattle.gds_base.proofs.CommitLemmas.{is_committed}
use Rattle.gds_base.proofs.RoomLemmas.{file_of_image}

-- how many units there are
pub plan_long : (draft : DraftState) (items : List UnitBytes) → IsPlanOf draft (units_of items)
    → length items ≡ length draft.units + 1
plan_long draft items planned =
    omega (
      arith,
      length-map items unit_of,
      ap length planned.units_are,
      length-map draft.units (stamped draft.header.tn),
    )

told_on : {A : Type 0} (a b : Option A) (R : A → A → Type 0)
    → ((x : A) → a ≡ Some x → (y : A) × (b ≡ Some y) × R x y) → TellsOn a b R
told_on None b R so = tt
told_on (Some x) b R so = let at = so x refl in rw at.1 at.2

module _ {H : Type 0} (old mid new : UnitsState H) (draft : DraftState) (plan : List WaitingUnit)
    (planned : IsPlanOf draft plan) (fits : IsDraftFor old.header draft)
    (is : ForSome (image_of old) (λ image. IsDraftOf image draft)) (whole : ForSome (image_of old) IsWhole)
    (fields : ForSome (image_of old) (λ image. fields_of image ≡ old.header))
    (mid_header : mid.header ≡ old.header) (same : image_of mid ≡ image_of old)
    (zero : ForSome mid.file (HasZeros old.header draft.header.total))
    (carried : TellsOn mid.file new.file (IsCarriedOut mid.header plan))
    (new_header : new.header ≡ next_header draft.header)
    (new_whole : ForSome (image_of new) IsWhole)
    (new_fields : ForSome (image_of new) (λ image. fields_of image ≡ new.header)) where
  each_committed : (image : List ℕ) → image_of old ≡ Some image
      → (file : List ℕ) × (image_of new ≡ Some file) × IsCommitted draft image file
  each_committed image told =
      let at = file_of_image mid.file image (same ∙ told) in
      let next = TellsOn-some mid.file new.file (IsCarriedOut mid.header plan) at.0 at.1 carried in
      let told_new : image_of new ≡ Some (database_of next.0) = ap (option_map database_of) next.1 in (
        database_of next.0,
        told_new,
        is_committed image draft (is image told) old.header (fields image told) (whole image told) plan planned fits
            at.0 next.0 (database_of next.0) at.2 (zero at.0 at.1)
            (subst (λ (h : Header). IsCarriedOut h plan at.0 next.0) mid_header next.2) refl
            (new_whole (database_of next.0) told_new) (new_fields (database_of next.0) told_new ∙ new_header),
      )

  pub committed : TellsOn (image_of old) (image_of new) (IsCommitted draft)
  committed = told_on (image_of old) (image_of new) (IsCommitted draft) each_committed

-- ---- The file has no fault again.

-- A file that a commit makes of an image that has no fault with the draft has none.
committed_faultless : (image : List ℕ) (draft : DraftState) (file : List ℕ) → IsDraftOf image draft
    → draft.header.tn < 2 ^ 63 → IsFaultless (drafted draft image) → IsCommitted draft image file → IsFaultless file
committed_faultless image draft file is few faultless made =
    let fields = (drafted_read image draft is).fields in
    record {
      directory = faultless.directory;
      globals = faultless.globals;
      sound = stamp_keeps_trees (drafted draft image) file faultless.directory faultless.globals faultless.sound
          (committed_is_stamped image draft file is few made)
          (omega (arith, few, ap (λ (h : Header). h.tn) fields));
    }

module _ (draft : DraftState) (P : List ℕ → Type 0) where
  -- What a commit makes of each image has P where it is told.
  after_ok : (old new : Option (List ℕ))
      → ((image file : List ℕ) → old ≡ Some image → IsCommitted draft image file → P file)
      → TellsOn old new (IsCommitted draft) → (old ≡ None → new ≡ None) → ForSome new P
  after_ok None new each made none file told =
      absurd (let no : None ≡ Some file = sym (none refl) ∙ told in cc)
  after_ok (Some image) new each made none file told =
      let at = TellsOn-some (Some image) new (IsCommitted draft) image refl made in
      let here : at.0 ≡ file = some_same at.0 file (sym at.1 ∙ told) in
      each image file refl (subst (IsCommitted draft image) here at.2)

-- The base is one again, whether the commit was done or not.
pub stays_base : {H T E : Type 0} (draft : DraftState) (old new : UnitsState H) (room : List ℕ) (result : Result T E)
    → draft.header.tn < 2 ^ 63 → HoldsBytes draft → IsBase old room → IsDraftFor old.header draft
    → ForSome (image_of old) (λ image. IsDraftOf image draft)
    → ForSome (image_of old) (λ image. IsFaultless (drafted draft image))
    → OnOk result (new.header ≡ next_header draft.header)
    → OnOk result (TellsOn (image_of old) (image_of new) (IsCommitted draft))
    → OnErr result ((image_of new ≡ image_of old) × (new.header ≡ old.header))
    → (image_of old ≡ None → image_of new ≡ None) → IsBase new room
stays_base draft old new room (Ok value) few holds held fits is faultless header made err none = record {
  faultless = after_ok draft IsFaultless (image_of old) (image_of new)
      (λ image file told done. committed_faultless image draft file (is image told) few (faultless image told) done)
      made none;
  bytes = after_ok draft (All (λ b. b < 256)) (image_of old) (image_of new)
      (λ image file told done. committed_is_bytes image draft file (is image told) few holds (held.bytes image told)
      done) made none;
  size = held.size ∙ sym fits.block_size ∙ ap (λ (h : Header). h.block_size) (sym header);
}
stays_base draft old new room (Err error) few holds held fits is faultless header made err none = record {
  faultless = subst (λ told. ForSome told IsFaultless) (sym err.0) held.faultless;
  bytes = subst (λ told. ForSome told (All (λ b. b < 256))) (sym err.0) held.bytes;
  size = held.size ∙ ap (λ (h : Header). h.block_size) (sym err.1);
}
