-- Which maps the next opening may find.
use Rattle.std.specs.Prelude.{ℕ, List}
use Rattle.host_model.specs.Files.{Contents}
use Rattle.m_key.specs.Globals.{Globals}
use Rattle.gds_base.specs.Finds.{Finds}

-- It finds a map of this kind, and so much was said.
pub record FindsOne (P : Globals → Type 0) (text : List ℕ) (c : Contents) : Type 0 where
  pub map : Globals
  pub has : P map
  pub finds : Finds map text c
