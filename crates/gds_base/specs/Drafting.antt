-- A base and a draft of it, and what a call on both leaves.
use Rattle.std.specs.Prelude.{◌≡◌, ◌+◌, ◌≤◌, ℕ, List, Option, length}
use Rattle.std.specs.Option.{ForSome}
use Rattle.host_model.specs.Failures.{Failures}
use Rattle.host_model.specs.Files.{Contents}
use Rattle.gds_header.specs.declared.header.Header.{Header}
use Rattle.gds_units.specs.Reading.{OnlyRead}
use Rattle.gds_units.specs.State.{UnitsState, image_of}
use Rattle.gds_draft.specs.Draft.{DraftState}
use Rattle.gds_draft.specs.Drafted.{drafted}

-- A draft may be one of a database with this header: its blocks have the same size, and its transaction number is that
-- of now.
pub record IsDraftFor (h : Header) (draft : DraftState) : Type 0 where
  pub block_size : draft.header.block_size ≡ h.block_size
  pub tn : draft.header.tn ≡ h.tn

module _ {H : Type 0} (base : UnitsState H) where
  -- what holds of the image with a draft, where it is told
  abbrev pub WithDraft : DraftState → (List ℕ → Type 0) → Type 0
  WithDraft draft P = ForSome (image_of base) (λ image. P (drafted draft image))

  -- what holds of it before a change of the draft and afterwards
  abbrev pub Drafts : DraftState → DraftState → (List ℕ → List ℕ → Type 0) → Type 0
  Drafts old new R = ForSome (image_of base) (λ image. R (drafted old image) (drafted new image))

-- A call changed the draft alone: the base was only read, and of the draft's header no more than the free count and the
-- master map are others. The draft has at most so many blocks that it hadn't.
pub record OnlyDrafts {H : Type 0} (told : H → Option Contents) (moment : H → ℕ) (counts : H → Failures)
    (left_since : H → ℕ → Contents → Type 0) (old new : UnitsState H) (before after : DraftState) (most : ℕ)
    : Type 0 where
  pub read : OnlyRead told moment counts left_since old new
  pub header : after.header ≡ record before.header { free = after.header.free; master = after.header.master }
  pub more : length after.units ≤ length before.units + most
