-- Two files that become a new database: what they are before and after, and what an opening makes of them in between.
use Rattle.std.specs.Prelude.{◌≡◌, ◌⊎◌, ◌<◌, ℕ, List, [], ◌∷◌, ◌++◌, length, None, Some}
use Rattle.host_model.specs.Files.{Contents}
use Rattle.gds_header.specs.declared.header.Header.{Header}
use Rattle.gds_images.specs.Chain.{label}
use Rattle.gds_images.specs.Recovered.{recovered}
use Rattle.gds_new.specs.NewDatabase.{new_database}
use Rattle.gds_recovery.specs.Found.{EndsReading}

-- Both files are empty.
pub record IsEmpty (c : Contents) : Type 0 where
  pub db : c.db ≡ []
  pub images : c.images ≡ []

-- One of them isn't.
abbrev pub HasBytes : Contents → Type 0
HasBytes c = (0 < length c.db) ⊎ (0 < length c.images)

-- the file of images of a new database: its label and a closed gate
abbrev pub closed_images : List ℕ
closed_images = label ++ 0 ∷ []

-- They were empty, and are a new database with this header's numbers.
pub record IsMade (h : Header) (before c : Contents) : Type 0 where
  pub empty : IsEmpty before
  pub db : c.db ≡ new_database h
  pub images : c.images ≡ closed_images
  pub said : c.said ≡ before.said

-- An opening refuses the files: the file of images is damaged, or a fault ends the reading of the header.
abbrev pub IsRefused : Contents → Type 0
IsRefused c = (recovered c.db c.images ≡ None) ⊎ EndsReading c

-- An opening refuses the files, or finds the new database, byte for byte; and nothing more was said than before.
pub record IsNewborn (h : Header) (before c : Contents) : Type 0 where
  pub finds : IsRefused c ⊎ (recovered c.db c.images ≡ Some (new_database h))
  pub said : c.said ≡ before.said
