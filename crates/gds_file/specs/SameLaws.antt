-- Files that are the same but for blocks that were never used stand for the same.
use Rattle.std.specs.Prelude.{List, [], ℕ}
use Rattle.m_key.specs.Globals.{Globals}
use Rattle.gds_images.specs.Same.{IsSame}
use Rattle.gds_law.specs.Faults.{AreFaults}
use Rattle.gds_sound.specs.Stands.{StandsFor}
use Rattle.gds_sound.specs.Sound.{Tree, IsSound}

-- What carries over from a file to one that is the same: that it has no fault, its trees, and the map that it stands
-- for.
pub record CarriesOver (a b : List ℕ) : Type 0 where
  pub faultless : AreFaults a [] → AreFaults b []
  pub sound : (directory : Tree) (globals : List Tree) → IsSound a directory globals → IsSound b directory globals
  pub stands : (m : Globals) → StandsFor a m → StandsFor b m

abbrev pub SameCarriesOver : Type 0
SameCarriesOver = (a b : List ℕ) → IsSame a b → CarriesOver a b
