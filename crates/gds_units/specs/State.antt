-- What clauses see of the units of an open database.
use Rattle.std.specs.Prelude.{ℕ, Bool, List, Option, option_map}
use Rattle.std.specs.Option.{ForSome}
use Rattle.host_model.specs.Files.{Contents}
use Rattle.gds_header.specs.declared.header.Header.{Header}
use Rattle.gds_epoch.specs.Epoch.{database_of}
use Rattle.gds_epoch.specs.Waiting.{WaitingUnit, patched}

-- The host; the database file with all changed units in their places, where the host tells it; the header of the
-- database that this file begins with; how long the database of the last epoch was; how many bytes the file has for
-- sure; how many units changed since the last epoch; and whether a write has failed.
pub record UnitsState (H : Type 0) : Type 0 where
  pub host : H
  pub file : Option (List ℕ)
  pub header : Header
  pub epoch : ℕ
  pub extent : ℕ
  pub changed : ℕ
  pub stopped : Bool

-- the database file of what is told, with the units that wait in their places
abbrev pub file_with : ℕ → List WaitingUnit → Option Contents → Option (List ℕ)
file_with block_size units told = option_map (λ c. patched block_size units c.db) told

-- the image: the database that the file begins with
abbrev pub image_of : {H : Type 0} → UnitsState H → Option (List ℕ)
image_of state = option_map database_of state.file

-- what holds of that which the host tells and of the image, where it tells
abbrev pub WhereTold : {H : Type 0} → (H → Option Contents) → UnitsState H → (Contents → List ℕ → Type 0) → Type 0
WhereTold told state P = ForSome (told state.host) (λ c. ForSome (image_of state) (P c))
