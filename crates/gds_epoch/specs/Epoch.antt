-- An epoch: what has to be there for it, what a crash in it leaves, and what it leaves when it is done.
use Rattle.std.specs.Prelude.{◌≡◌, ◌⊎◌, ◌≤◌, ℕ, List, length, take, drop, All, Any}
use Rattle.host_model.specs.Files.{Contents}
use Rattle.gds_header.specs.Fields.{image_length}
use Rattle.gds_images.specs.Group.{Image}
use Rattle.gds_images.specs.Laws.{FitsEpoch}
use Rattle.gds_images.specs.Outcome.{IsAtRest, IsClosed, IsWhole}
use Rattle.gds_epoch.specs.State.{Finds}
use Rattle.gds_epoch.specs.Waiting.{LiesWithin, WaitingUnit, patched, place_of}

-- the database that a file begins with, as long as its header says
abbrev pub database_of : List ℕ → List ℕ
database_of file = take (image_length file) file

-- The image has bytes of the epoch's database, in the place where they stand there.
pub record IsImageOf (epoch : List ℕ) (image : Image) : Type 0 where
  pub fits : FitsEpoch (length epoch) image
  pub old : image.bytes ≡ take (length image.bytes) (drop image.at epoch)

-- The image has a range of n bytes from a place on.
pub record IsImageAt (at n : ℕ) (image : Image) : Type 0 where
  pub place : image.at ≡ at
  pub len : length image.bytes ≡ n

-- The old bytes of a unit that waits are kept in an image, or the epoch's database ends before it.
abbrev pub IsKept : ℕ → ℕ → List Image → WaitingUnit → Type 0
IsKept block_size epoch_length images waiting =
    Any (IsImageAt (place_of block_size waiting.unit) (length waiting.bytes)) images
    ⊎ (epoch_length ≤ place_of block_size waiting.unit)

-- What a host holds is ready for an epoch: its database file begins with the last epoch's database, of this length,
-- the images are that database's, they keep all that the units which wait will go over, and with these units in place
-- the file begins with a whole database.
pub record IsReady (block_size epoch_length : ℕ) (images : List Image) (units : List WaitingUnit) (c : Contents)
    : Type 0 where
  pub long : epoch_length ≤ length c.db
  pub rest : IsAtRest (take epoch_length c.db) c
  pub old : All (IsImageOf (take epoch_length c.db)) images
  pub inside : All (LiesWithin block_size (length c.db)) units
  pub kept : All (IsKept block_size epoch_length images) units
  pub whole : IsWhole (database_of (patched block_size units c.db))

-- In an epoch an opening finds the last epoch's database, or the next one.
abbrev pub FindsEither : ℕ → ℕ → List WaitingUnit → Contents → Contents → Type 0
FindsEither block_size epoch_length units before c =
    Finds (take epoch_length before.db) before c ⊎ Finds (database_of (patched block_size units before.db)) before c

-- The epoch is done.
pub record IsDone (block_size : ℕ) (units : List WaitingUnit) (before c : Contents) : Type 0 where
  pub db : c.db ≡ patched block_size units before.db
  pub closed : IsClosed c.images
  pub said : c.said ≡ before.said

-- With the units that wait in their places the file is as it was.
pub record StaysPatched (block_size : ℕ) (units : List WaitingUnit) (before c : Contents) : Type 0 where
  pub len : length c.db ≡ length before.db
  pub db : patched block_size units c.db ≡ patched block_size units before.db
  pub said : c.said ≡ before.said
