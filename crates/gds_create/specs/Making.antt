-- The steps in which the files are made.
use Rattle.std.specs.Prelude.{◌≡◌, ◌⊎◌, ◌<◌, ◌≤◌, ℕ, List, length, slice_index}
use Rattle.host_model.specs.Files.{Contents}
use Rattle.gds_header.specs.declared.header.Header.{Header}
use Rattle.gds_new.specs.NewDatabase.{new_database}
use Rattle.gds_recovery.specs.Found.{IsUnreadable}

-- A file that may have any bytes afterwards.
abbrev pub AnyBytes : List ℕ → List ℕ → Type 0
AnyBytes old new = Unit {0}

-- A file stays in its first n bytes, and is no shorter.
pub record KeepsFirst (n : ℕ) (old new : List ℕ) : Type 0 where
  pub no_shorter : length old ≤ length new
  pub same : (i : ℕ) → i < n → i < length old → slice_index new i ≡ slice_index old i

-- A fault ends the reading of the file's header, or the file is the new database.
abbrev pub IsUnderWay : Header → List ℕ → Type 0
IsUnderWay h file = IsUnreadable file ⊎ (file ≡ new_database h)

-- The database file is under way, and nothing else has changed.
pub record IsBeingMade (h : Header) (before c : Contents) : Type 0 where
  pub db : IsUnderWay h c.db
  pub images : c.images ≡ before.images
  pub said : c.said ≡ before.said
