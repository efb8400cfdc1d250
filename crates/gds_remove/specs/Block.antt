-- Blocks of a tree that are read, written and freed.
use Rattle.std.specs.Prelude.{◌≡◌, ◌≤◌, ◌+◌, ℕ, List, [], ◌∷◌}
use Rattle.gds_base.specs.declared.error.BaseError.{BaseError}
use Rattle.gds_base.specs.declared.error.BaseError.TheVariants.{Changed}
use Rattle.gds_base.specs.Spaces.{blocks_beside_maps}
use Rattle.gds_block.specs.Item.{Item}
use Rattle.gds_draft.specs.Draft.{DraftState}
use Rattle.gds_file.specs.FileLaws.{IsLawful}
use Rattle.gds_file.specs.FreeLaws.{IsBusy}
use Rattle.gds_law.specs.Visit.{Visit}
use Rattle.gds_sound.specs.Sound.{Tree}
use Rattle.gds_tree.specs.Below.{HasEntries}
use Rattle.gds_tree.specs.Keeps.{IsImage}
use Rattle.gds_tree.specs.Lawful.{IsTreeNumber}
use Rattle.gds_header.specs.Fields.{fields_of}
use Rattle.gds_remove.specs.Cut.{Leaves, StandsBelow}

-- Whichever visit it is of, the block has these entries.
abbrev pub AreEntriesAt : ℕ → ℕ → List Item → List ℕ → Type 0
AreEntriesAt block level es file =
    (v : Visit) (has : List Item) → v.block ≡ block → IsImage file → HasEntries file v level has → es ≡ has

-- It is no such block.
abbrev pub HasNoEntries : ℕ → ℕ → List ℕ → Type 0
HasNoEntries block level file =
    (v : Visit) (has : List Item) → v.block ≡ block → IsImage file → HasEntries file v level has → ⊥

-- The file isn't what it was.
abbrev pub IsChanged : BaseError → Type 0
IsChanged (Changed unit) = Unit {0}
IsChanged error = ⊥

-- A draft has one block more at most that is no map, and the same header.
pub record WritesOne (before after : DraftState) : Type 0 where
  pub header : after.header ≡ before.header
  pub more : blocks_beside_maps after ≤ blocks_beside_maps before + 1

-- Whichever tree of a level stands at a block, all its other blocks are free now.
abbrev pub FreesBelow : ℕ → ℕ → List ℕ → List ℕ → Type 0
FreesBelow block level before after =
    (v : Visit) (t : Tree) → v.block ≡ block → StandsBelow before v level t → Leaves before after t.blocks (block ∷ [])

-- A busy block of a tree is free now, as a used one.
abbrev pub FreesOne : ℕ → List ℕ → List ℕ → Type 0
FreesOne block before after =
    IsLawful before → IsTreeNumber (fields_of before).total block → IsBusy before block
    → Leaves before after (block ∷ []) []

-- It is no block that a tree may have in a file with lawful maps.
abbrev pub CannotFree : ℕ → List ℕ → Type 0
CannotFree block file = IsLawful file → IsTreeNumber (fields_of file).total block → ⊥
