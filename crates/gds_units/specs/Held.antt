-- What is known of the units of an open database.
use Rattle.std.specs.Prelude.{◌≡◌, ℕ, ◌^◌, ◌<◌, ◌≤◌, All, Bool, false, List, [], length, take, Option, Some}
use Rattle.std.specs.Option.{ForSome}
use Rattle.host_model.specs.Files.{Contents}
use Rattle.host_model.specs.Moments.{EachLeft}
use Rattle.gds_header.specs.Fields.{fields_of, file_length_of}
use Rattle.gds_header.specs.Kinds.{IsWithinLimits}
use Rattle.gds_header.specs.declared.header.Header.{Header}
use Rattle.gds_images.specs.Group.{Image}
use Rattle.gds_images.specs.Outcome.{IsWhole}
use Rattle.gds_images.specs.Recovered.{recovered}
use Rattle.gds_epoch.specs.Epoch.{IsImageOf, IsKept, database_of}
use Rattle.gds_epoch.specs.State.{Rests}
use Rattle.gds_epoch.specs.Waiting.{LiesWithin, WaitingUnit, patched}
use Rattle.gds_units.specs.Keeping.{EndsAtBlock}

-- Whatever the host tells: the header keeps its limits, the file reaches as far as the last epoch's database and this
-- one do, the former ends where a block does, the units that wait lie within this one, and their old bytes are kept.
pub record AreInPlace (h : Header) (epoch_length extent : ℕ) (images : List Image) (units : List WaitingUnit)
    : Type 0 where
  pub limits : IsWithinLimits h
  pub epoch : epoch_length ≤ extent
  pub blocks : EndsAtBlock h.block_size epoch_length
  pub now : file_length_of h ≤ extent
  pub short : extent < 2 ^ 63
  pub inside : All (LiesWithin h.block_size (file_length_of h)) units
  pub kept : All (IsKept h.block_size epoch_length images) units
  pub none : units ≡ [] → epoch_length ≡ file_length_of h

-- What the host holds has a database of this header in front, with the units that wait in their places.
pub record IsHeld (h : Header) (extent : ℕ) (units : List WaitingUnit) (c : Contents) : Type 0 where
  pub long : extent ≤ length c.db
  pub whole : IsWhole (database_of (patched h.block_size units c.db))
  pub fields : fields_of (patched h.block_size units c.db) ≡ h

-- An opening finds some database of it.
pub record IsRecoverable (c : Contents) : Type 0 where
  pub image : List ℕ
  pub recovers : recovered c.db c.images ≡ Some image

module _ {H : Type 0} (told : H → Option Contents) (moment : H → ℕ) (left_since : H → ℕ → Contents → Type 0) where
  -- The database of the last epoch is at rest, in what the host holds and in each thing that a crash now leaves. The
  -- images have bytes of it.
  pub record IsResting (host : H) (epoch_length : ℕ) (images : List Image) (c : Contents) : Type 0 where
    pub each : EachLeft moment left_since host (Rests (take epoch_length c.db) c)
    pub old : All (IsImageOf (take epoch_length c.db)) images

  pub record AreUnits (host : H) (h : Header) (units : List WaitingUnit) (images : List Image)
      (epoch_length extent : ℕ) (stopped : Bool) : Type 0 where
    pub places : AreInPlace h epoch_length extent images units
    pub held : ForSome (told host) (IsHeld h extent units)
    pub found : ForSome (told host) (λ c. EachLeft moment left_since host IsRecoverable)
    pub resting : stopped ≡ false → ForSome (told host) (IsResting host epoch_length images)
