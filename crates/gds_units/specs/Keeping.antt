-- Keeping the old bytes of units that are to change.
use Rattle.std.specs.Prelude.{◌≡◌, ℕ, ◌+◌, ◌*◌, ◌<◌, ◌≤◌, All, List, [], ◌∷◌, ◌++◌, length, take, drop, Option}
use Rattle.std.specs.Option.{ForSome}
use Rattle.host_model.specs.Files.{Contents}
use Rattle.gds_images.specs.Group.{Image}
use Rattle.gds_epoch.specs.Epoch.{IsImageAt, IsImageOf, IsKept}
use Rattle.gds_epoch.specs.Waiting.{WaitingUnit, size_of}

-- The database of the last epoch ends where a block does.
pub record EndsAtBlock (block_size epoch_length : ℕ) : Type 0 where
  pub blocks : ℕ
  pub ends : epoch_length ≡ 8192 + blocks * block_size

-- The unit has as many bytes as it should.
abbrev pub HasSize : ℕ → WaitingUnit → Type 0
HasSize block_size w = length w.bytes ≡ size_of block_size w.unit

-- The images have bytes of the last epoch's database, with which the file begins.
pub record AreOld (epoch_length : ℕ) (images : List Image) (c : Contents) : Type 0 where
  pub long : epoch_length ≤ length c.db
  pub old : All (IsImageOf (take epoch_length c.db)) images

-- Units wait whose old bytes are kept, within a database of the last epoch that ends where a block does.
pub record AreKept (block_size epoch_length : ℕ) (images : List Image) (units : List WaitingUnit) : Type 0 where
  pub some : 0 < block_size
  pub short : block_size ≤ 65024
  pub blocks : EndsAtBlock block_size epoch_length
  pub sizes : All (HasSize block_size) units
  pub kept : All (IsKept block_size epoch_length images) units

-- Images came behind those that were there.
pub record AddsTo (old new : List Image) : Type 0 where
  pub more : List Image
  pub is : new ≡ old ++ more

-- One image came, of n bytes from a place on: those that the file has there, where it is told.
pub record AddsImage (told : Option Contents) (at n : ℕ) (old new : List Image) : Type 0 where
  pub image : Image
  pub is : new ≡ old ++ image ∷ []
  pub place : IsImageAt at n image
  pub bytes : All (λ b. b < 256) image.bytes
  pub read : ForSome told (λ c. image.bytes ≡ take n (drop at c.db))
