-- What the next opening finds of what a crash left.
use Rattle.std.specs.Prelude.{◌≡◌, List, [], ◌∷◌, ◌++◌, ℕ, None, Some, length, take}
use Rattle.host_model.specs.Files.{Contents}
use Rattle.gds_header.specs.Fields.{image_length}
use Rattle.gds_header.specs.Kinds.{ending_kind}
use Rattle.gds_images.specs.Chain.{label}
use Rattle.gds_images.specs.Recovered.{recovered}
use Rattle.gds_images.specs.Same.{IsSame}

-- It finds this file, or one that is the same.
pub record RecoversTo (image : List ℕ) (c : Contents) : Type 0 where
  pub found : List ℕ
  pub recovers : recovered c.db c.images ≡ Some found
  pub same : IsSame image found

-- It finds what it would have found of an earlier outcome, or the same, and nothing more was said.
pub record RecoversAsBefore (before : Contents → Type 0) (c : Contents) : Type 0 where
  pub earlier : Contents
  pub was_left : before earlier
  pub found : List ℕ
  pub recovered_then : recovered earlier.db earlier.images ≡ Some found
  pub recovers : RecoversTo found c
  pub said : c.said ≡ earlier.said

-- The file of images begins with its label and a closed gate.
abbrev pub IsClosed : List ℕ → Type 0
IsClosed images = take 9 images ≡ label ++ 0 ∷ []

-- A whole database: nothing ends the reading of its header, and it has the length that the header says.
pub record IsWhole (image : List ℕ) : Type 0 where
  pub readable : ending_kind image ≡ None
  pub len : image_length image ≡ length image

-- At rest gate 0 is closed, and the database file is a whole one, behind which anything may stand.
pub record IsAtRest (image : List ℕ) (c : Contents) : Type 0 where
  pub closed : IsClosed c.images
  pub whole : IsWhole image
  pub front : take (length image) c.db ≡ image
