-- Images without any fault.
use Rattle.std.specs.Prelude.{ℕ, List}
use Rattle.gds_sound.specs.Sound.{Tree, IsSound}

-- It is sound, with some trees.
pub record IsFaultless (image : List ℕ) : Type 0 where
  pub directory : Tree
  pub globals : List Tree
  pub sound : IsSound image directory globals
