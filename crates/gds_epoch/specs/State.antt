-- The states of an epoch, as properties of what a crash leaves. In each nothing more was said than before.
use Rattle.std.specs.Prelude.{◌≡◌, ℕ, ◌+◌, ◌<◌, ◌≤◌, List, length, take, drop, slice_index, Any, Some}
use Rattle.host_model.specs.Files.{Contents}
use Rattle.gds_images.specs.Chain.{first_gate, label}
use Rattle.gds_images.specs.Group.{Image, group_bytes}
use Rattle.gds_images.specs.Outcome.{IsAtRest}
use Rattle.gds_images.specs.Recovered.{recovered}

-- An opening finds this file, exactly.
pub record Finds (image : List ℕ) (before c : Contents) : Type 0 where
  pub recovers : recovered c.db c.images ≡ Some image
  pub said : c.said ≡ before.said

-- It finds this database at rest.
pub record Rests (image : List ℕ) (before c : Contents) : Type 0 where
  pub rest : IsAtRest image c
  pub said : c.said ≡ before.said

-- The group of images stands behind gate 0, be the gate open or closed.
pub record HasGroup (epoch_length : ℕ) (images : List Image) (file : List ℕ) : Type 0 where
  pub begins : take first_gate file ≡ label
  pub group : let group = group_bytes first_gate epoch_length images in
      take (length group) (drop (first_gate + 1) file) ≡ group

-- The byte of the database file at a place lies in the range of an image.
abbrev pub IsImaged : List Image → ℕ → Type 0
IsImaged images i = Any (λ image. (image.at ≤ i) × (i < image.at + length image.bytes)) images

-- But for the ranges of the images the file begins as the epoch's database.
pub record IsOutside (epoch : List ℕ) (images : List Image) (file : List ℕ) : Type 0 where
  pub long : length epoch ≤ length file
  pub same : (i : ℕ) → i < length epoch → (IsImaged images i → ⊥) → slice_index file i ≡ slice_index epoch i

-- Images of the epoch's database are there, and have all that was changed of it. Where gate 0 is open, laying them
-- back leads to it.
pub record LeadsBack (epoch : List ℕ) (images : List Image) (before c : Contents) : Type 0 where
  pub group : HasGroup (length epoch) images c.images
  pub outside : IsOutside epoch images c.db
  pub said : c.said ≡ before.said
