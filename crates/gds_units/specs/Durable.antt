-- What a crash leaves of an open database, as its callers say it.
use Rattle.std.specs.Prelude.{◌≡◌, ◌⊎◌, ℕ, List}
use Rattle.host_model.specs.Disk.{SaysSome, during}
use Rattle.host_model.specs.Files.{Contents}
use Rattle.host_model.specs.Moments.{EachLeft, LeavesOnly}
use Rattle.gds_images.specs.Outcome.{RecoversAsBefore, RecoversTo}

-- The next opening finds this image of it, or one that is the same, and so much was said.
pub record Stores (image text : List ℕ) (c : Contents) : Type 0 where
  pub recovers : RecoversTo image c
  pub said : c.said ≡ text

module _ {H : Type 0} (moment : H → ℕ) (left_since : H → ℕ → Contents → Type 0) where
  -- of what a crash leaves the next opening finds what it would have found of one at an earlier host
  abbrev pub AsBefore : H → Contents → Type 0
  AsBefore old = RecoversAsBefore (left_since old (moment old))

  -- At each moment from old to new a crash leaves what was found before.
  abbrev pub Keeps : H → H → Type 0
  Keeps old new = LeavesOnly moment left_since old new (AsBefore old)

  -- It leaves that, with some of the bytes said.
  abbrev pub KeepsSaying : List ℕ → H → H → Type 0
  KeepsSaying bytes old new = LeavesOnly moment left_since old new (during (SaysSome bytes) (AsBefore old))

  -- It leaves what was found before, or the image.
  abbrev pub KeepsOrStores : List ℕ → List ℕ → H → H → Type 0
  KeepsOrStores image text old new =
      LeavesOnly moment left_since old new (λ c. AsBefore old c ⊎ Stores image text c)

  -- Each crash now leaves the image.
  abbrev pub IsStored : List ℕ → List ℕ → H → Type 0
  IsStored image text host = EachLeft moment left_since host (Stores image text)

  -- Each crash now leaves what was found before, or each leaves the image.
  abbrev pub KeptAllOrStored : List ℕ → List ℕ → H → H → Type 0
  KeptAllOrStored image text old new =
      EachLeft moment left_since new (AsBefore old) ⊎ IsStored image text new
