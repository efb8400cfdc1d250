-- What the parts of a recovery do to the two files.
use Rattle.std.specs.Prelude.{◌≡◌, ℕ, ◌+◌, ◌<◌, ◌≤◌, ◌^◌, List, length, take, slice_index, slice_set, Option, None}
use Rattle.std.specs.Option.{ForSome}
use Rattle.host_model.specs.Failures.{Failures, NeverFell}
use Rattle.host_model.specs.Files.{Contents}
use Rattle.host_model.specs.Moments.{LeavesBy, LeavesOnly}
use Rattle.host_model.specs.Told.{TellsOn}
use Rattle.gds_header.specs.Fields.{fields_of, file_length_of}
use Rattle.gds_header.specs.Kinds.{ending_kind}
use Rattle.gds_header.specs.declared.header.Header.{Header}
use Rattle.gds_images.specs.Chain.{first_gate}
use Rattle.gds_images.specs.Laws.{IsCovered}
use Rattle.gds_images.specs.Outcome.{IsClosed}
use Rattle.gds_images.specs.Recovered.{laid_back}
use Rattle.gds_images.specs.declared.chain.Chain.{Chain}
use Rattle.gds_images.specs.declared.chain.Place.{Place}
use Rattle.gds_recovery.specs.Found.{FindsSame}

-- A stretch of calls changed what the host holds by a step: so it tells, and so is what a crash at any moment of it
-- leaves, from something that one before it could have left.
pub record WasChangedBy {H : Type 0} (contents : H → Option Contents) (moment : H → ℕ) (counts : H → Failures)
    (left_since : H → ℕ → Contents → Type 0) (step : Contents → Contents → Type 0) (old new : H) : Type 0 where
  pub told : TellsOn (contents old) (contents new) step
  pub untold : contents old ≡ None → contents new ≡ None
  pub crash : LeavesBy moment left_since step old new
  pub failures : NeverFell (counts old) (counts new)

-- A stretch of calls over a stable host: the next opening finds of what it tells, and of what a crash at any moment of
-- it leaves, what one before it would have found.
pub record StaysFound {H : Type 0} (contents : H → Option Contents) (moment : H → ℕ) (counts : H → Failures)
    (left_since : H → ℕ → Contents → Type 0) (old new : H) : Type 0 where
  pub told : TellsOn (contents old) (contents new) FindsSame
  pub untold : contents old ≡ None → contents new ≡ None
  pub crash : ForSome (contents old) (λ c. LeavesOnly moment left_since old new (FindsSame c))
  pub failures : NeverFell (counts old) (counts new)

-- The image's bytes stand at numbers of 64 bits, in both files.
pub record IsReachable (place : Place) : Type 0 where
  pub ends : place.at + place.len < 2 ^ 64
  pub stands : place.from + place.len < 2 ^ 64

-- They lie within both files.
pub record IsWithin (c : Contents) (place : Place) : Type 0 where
  pub db : place.at + place.len ≤ length c.db
  pub images : place.from + place.len ≤ length c.images

-- Images were laid over a database file, perhaps some of them, and in part: what stands outside their ranges stays.
pub record LaysOver (places : List Place) (old new : List ℕ) : Type 0 where
  pub no_shorter : length old ≤ length new
  pub outside : (i : ℕ) → i < length old → (IsCovered places i → ⊥) → slice_index new i ≡ slice_index old i

-- The database file is that of the epoch, and the file of images is as before, with gate 0 closed.
pub record IsAtEpoch (chain : Chain) (c now : Contents) : Type 0 where
  pub db : now.db ≡ laid_back c.images chain c.db
  pub images : now.images ≡ slice_set c.images first_gate 0
  pub closed : IsClosed now.images

-- Nothing ends the reading of the file's header, and the file is as long as it says, or longer.
pub record IsReadable (header : Header) (file : List ℕ) : Type 0 where
  pub none : ending_kind file ≡ None
  pub fields : header ≡ fields_of file
  pub long : file_length_of header ≤ length file

-- so it is with each file of this length that begins with these bytes
abbrev pub EachFile : List ℕ → ℕ → (List ℕ → Type 0) → Type 0
EachFile front n P = (file : List ℕ) → take 8192 file ≡ front → length file ≡ n → P file
