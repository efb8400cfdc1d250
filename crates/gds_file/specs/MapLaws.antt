-- The two parts of right maps: lawful maps, and busy blocks that are those of the trees.
use Rattle.std.specs.Prelude.{◌↔◌, ℕ, List}
use Rattle.gds_file.specs.Maps.{AreLawfulMaps, AreBusy, AreRightMaps}

-- Maps are right exactly where they are lawful and call busy what is in use.
abbrev pub MapsAreRightInTwoParts : Type 0
MapsAreRightInTwoParts =
    (image blocks : List ℕ) → AreRightMaps image blocks ↔ (AreLawfulMaps image × AreBusy image blocks)
