-- What is known of a base.
use Rattle.std.specs.Prelude.{◌≡◌, ◌<◌, ℕ, All, List, length}
use Rattle.std.specs.Option.{ForSome}
use Rattle.gds_base.specs.Faultless.{IsFaultless}
use Rattle.gds_units.specs.State.{UnitsState, image_of}

-- The image has no fault and is made of bytes, where it is told, and there is room for one block.
pub record IsBase {H : Type 0} (units : UnitsState H) (room : List ℕ) : Type 0 where
  pub faultless : ForSome (image_of units) IsFaultless
  pub bytes : ForSome (image_of units) (All (λ b. b < 256))
  pub size : length room ≡ units.header.block_size
