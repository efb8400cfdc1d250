-- Which map of globals the next opening finds.
use Rattle.std.specs.Prelude.{◌≡◌, ◌⊎◌, ℕ, List, Some}
use Rattle.host_model.specs.Files.{Contents}
use Rattle.host_model.specs.Moments.{EachLeft, LeavesOnly}
use Rattle.m_key.specs.Globals.{Globals}
use Rattle.gds_images.specs.Recovered.{recovered}
use Rattle.gds_sound.specs.Stands.{StandsFor}
use Rattle.gds_units.specs.Durable.{IsStored, Keeps, KeepsOrStores, KeptAllOrStored}

-- It finds a file that stands for this map, and so much was said.
pub record Finds (m : Globals) (text : List ℕ) (c : Contents) : Type 0 where
  pub image : List ℕ
  pub recovers : recovered c.db c.images ≡ Some image
  pub stands : StandsFor image m
  pub said : c.said ≡ text

module _ {H : Type 0} (moment : H → ℕ) (left_since : H → ℕ → Contents → Type 0) (old new : H) where
  -- Where each crash found one map, it goes on finding it through a call that keeps.
  abbrev pub FindsStill : Type 0
  FindsStill =
      (m : Globals) (text : List ℕ) → EachLeft moment left_since old (Finds m text)
      → Keeps moment left_since old new → LeavesOnly moment left_since old new (Finds m text)

  -- Through one that keeps or stores an image it finds it, or the map that this image stands for.
  abbrev pub FindsOneOfTwo : Type 0
  FindsOneOfTwo =
      (m next : Globals) (image text : List ℕ) → EachLeft moment left_since old (Finds m text)
      → StandsFor image next → KeepsOrStores moment left_since image text old new
      → LeavesOnly moment left_since old new (λ c. Finds m text c ⊎ Finds next text c)

  -- And where all was kept or stored, each crash then finds the one, or each finds the other.
  abbrev pub FindsTheSame : Type 0
  FindsTheSame =
      (m next : Globals) (image text : List ℕ) → EachLeft moment left_since old (Finds m text)
      → StandsFor image next → KeptAllOrStored moment left_since image text old new
      → EachLeft moment left_since new (Finds m text) ⊎ EachLeft moment left_since new (Finds next text)

  -- Where the image is stored each finds its map.
  abbrev pub FindsStored : Type 0
  FindsStored =
      (next : Globals) (image text : List ℕ) → StandsFor image next → IsStored moment left_since image text new
      → EachLeft moment left_since new (Finds next text)
