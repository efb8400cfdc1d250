-- A directory without entries.
use Rattle.std.specs.Prelude.{◌≢◌, ◌<◌, ℕ, List, [], ◌∷◌}
use Rattle.gds_file.specs.FileLaws.{IsLawful}
use Rattle.gds_file.specs.FreeLaws.{IsBusy}
use Rattle.gds_file.specs.Reshape.{Reshapes}
use Rattle.gds_header.specs.Fields.{fields_of}
use Rattle.gds_law.specs.Visit.{directory_root}
use Rattle.gds_split.specs.Pieces.{entry_to}
use Rattle.gds_tree.specs.Below.{HasEntries, visit_below}
use Rattle.gds_tree.specs.Lawful.{IsTreeNumber}

-- The directory's root, of level 1, leads to a block without entries, which wasn't busy. Nothing else that is busy
-- changed.
pub record HasEmptyDirectory (before after : List ℕ) : Type 0 where
  pub leaf : ℕ
  pub number : IsTreeNumber (fields_of after).total leaf
  pub other : leaf ≢ directory_root.block
  pub root_has : HasEntries after directory_root 1 (entry_to leaf [] ∷ [])
  pub leaf_has : HasEntries after (visit_below directory_root 0 directory_root.low (entry_to leaf [])) 0 []
  pub reshapes : Reshapes before after (directory_root.block ∷ []) (directory_root.block ∷ leaf ∷ [])
  pub lawful : IsLawful after

-- It does so in a file with lawful maps in which the root's block is busy.
abbrev pub PutsEmptyDirectory : List ℕ → List ℕ → Type 0
PutsEmptyDirectory before after =
    IsLawful before → IsBusy before directory_root.block → HasEmptyDirectory before after

-- The maps aren't lawful or no block is free.
abbrev pub CannotPutEmpty : List ℕ → Type 0
CannotPutEmpty file = IsLawful file → 0 < (fields_of file).free → ⊥
