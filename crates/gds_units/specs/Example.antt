-- What a crash leaves while changes are made, become durable, and are told.
use Rattle.std.specs.Prelude.{◌⊎◌, ℕ, List}
use Rattle.std.specs.Option.{ForSome}
use Rattle.host_model.specs.Disk.{SaysSome, during}
use Rattle.host_model.specs.Files.{Contents}
use Rattle.gds_epoch.specs.Epoch.{database_of}
use Rattle.gds_units.specs.Durable.{AsBefore, Stores}
use Rattle.gds_units.specs.State.{UnitsState}
use Rattle.std.specs.Prelude.{Option}

-- what holds of that which the host tells and of the file, where it tells
abbrev pub WhereFileTold : {H : Type 0} → (H → Option Contents) → UnitsState H → (Contents → List ℕ → Type 0) → Type 0
WhereFileTold told state P = ForSome (told state.host) (λ c. ForSome state.file (P c))

module _ {H : Type 0} (moment : H → ℕ) (left_since : H → ℕ → Contents → Type 0) where
  -- The next opening finds what it would have found before, or the image of then, and nothing more was said; or it
  -- finds
  -- the next image, and some of the bytes were said.
  abbrev pub IsOnTheWay : H → Contents → List ℕ → List ℕ → List ℕ → Contents → Type 0
  IsOnTheWay old before file next bytes c =
      AsBefore moment left_since old c ⊎ Stores (database_of file) before.said c
      ⊎ during (SaysSome bytes) (Stores next before.said) c
