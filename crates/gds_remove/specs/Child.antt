-- A range that is cut out of the trees below the entries of an index block, one after another.
use Rattle.std.specs.Prelude.{◌≡◌, ◌≢◌, ◌<◌, ◌≤◌, ℕ, Bool, true, false, List, [], Option, length}
use Rattle.gds_block.specs.Item.{Item}
use Rattle.gds_header.specs.declared.header.Header.{Header}
use Rattle.gds_law.specs.Visit.{Visit}
use Rattle.gds_sound.specs.Sound.{Tree}
use Rattle.gds_split.specs.Pieces.{starred}
use Rattle.gds_splice.specs.Divided.{MayPut}
use Rattle.gds_splice.specs.Writing.{PutsEntries}
use Rattle.gds_tree.specs.Below.{visit_below}
use Rattle.gds_remove.specs.Cut.{HasPruned, StandsBelow}
use Rattle.gds_remove.specs.Range.{IsLeft, Left, Range}

-- A sound tree stands below an entry, behind a lower bound, and this is left of a range there.
pub record MayPrune (file : List ℕ) (v : Visit) (level : ℕ) (from : Option (List ℕ)) (e : Item) (t : Tree)
    (range : Range) (left : Left) : Type 0 where
  pub size : length e.rest ≡ 4
  pub stands : StandsBelow file (visit_below v level from e) level t
  pub left_is : IsLeft range from left

-- Whichever tree stands below the entry, the range is cut out of it.
abbrev pub PrunesChild : ℕ → Item → Left → Bool → List ℕ → List ℕ → Type 0
PrunesChild level e left empty before after =
    (v : Visit) (from : Option (List ℕ)) (t : Tree) (range : Range) → MayPrune before v level from e t range left
    → HasPruned before after (visit_below v level from e) level t range empty

-- None stands there.
abbrev pub CannotPrune : ℕ → Item → Left → List ℕ → Type 0
CannotPrune level e left file =
    (v : Visit) (from : Option (List ℕ)) (t : Tree) (range : Range) → MayPrune file v level from e t range left → ⊥

-- ---- the index block itself

-- Of so many entries of an index block these are kept: none, or some of which the last becomes the star where any went.
-- Where none went the block stays as it is.
abbrev pub PutsKept : ℕ → ℕ → ℕ → List Item → Bool → List ℕ → List ℕ → Type 0
PutsKept block level count kept true before after = (kept ≡ []) × (after ≡ before)
PutsKept block level count kept false before after =
    (kept ≢ []) × (length kept < count → PutsEntries before after block level (starred kept))
    × (count ≤ length kept → after ≡ before)

-- Some went and some are kept, and a block can't have these.
pub record CannotPutKept (h : Header) (level count : ℕ) (kept : List Item) : Type 0 where
  pub some : kept ≢ []
  pub fewer : length kept < count
  pub cannot : MayPut h level (starred kept) → ⊥
