-- An index block that is read and gets entries in the place of neighbouring ones.
use Rattle.std.specs.Prelude.{◌≡◌, ◌≢◌, ◌<◌, ℕ, suc, List, [], ◌++◌, length}
use Rattle.gds_block.specs.Item.{Item}
use Rattle.gds_law.specs.Visit.{Visit}
use Rattle.gds_pack.specs.Entry.{items}
use Rattle.gds_pack.specs.Packable.{ArePackable}
use Rattle.gds_pack.specs.Packed.{packed_size}
use Rattle.gds_split.specs.Pieces.{starred}
use Rattle.gds_tree.specs.Below.{HasEntries}
use Rattle.gds_tree.specs.Keeps.{IsImage}
use Rattle.gds_splice.specs.declared.node.Node.{Node}
use Rattle.gds_find.specs.declared.trail.Step.{Step}

-- Of these entries so many go, from the one on whose record begins at an offset.
pub record AreGone (offset taken : ℕ) (front gone : List Item) : Type 0 where
  pub place : packed_size front ≡ offset
  pub count : length gone ≡ taken
  pub some : gone ≢ []

-- A step is to the first of so many entries of an index block, whose children have this level.
pub record IsStepToSpan (file : List ℕ) (step : Step) (taken : ℕ) (v : Visit) (level : ℕ) (front gone back : List Item)
    : Type 0 where
  pub image : IsImage file
  pub block : v.block ≡ step.block
  pub has : HasEntries file v (suc level) (front ++ gone ++ back)
  pub gone_are : AreGone step.offset taken front gone

-- The node is that block with others in their place.
pub record IsSpliced (put : List Item) (level : ℕ) (front back : List Item) (node : Node) : Type 0 where
  pub level_is : node.level ≡ suc level
  pub entries_are : items node.entries.items ≡ starred (front ++ put ++ back)

-- Wherever the step is to, the node is that block.
abbrev pub IsSplicedAt : Step → ℕ → List Item → Node → List ℕ → Type 0
IsSplicedAt step taken put node file =
    (v : Visit) (level : ℕ) (front gone back : List Item) → IsStepToSpan file step taken v level front gone back
    → IsSpliced put level front back node

-- The step is to no entries in whose place these may stand.
abbrev pub CannotSpliceAt : Step → ℕ → List Item → List ℕ → Type 0
CannotSpliceAt step taken put file =
    (v : Visit) (level : ℕ) (front gone back : List Item) → IsStepToSpan file step taken v level front gone back
    → ArePackable (suc level) (starred (front ++ put ++ back)) → ⊥

-- An index block gets others in the place of so many entries from an offset on, and may have those.
pub record SplicesOf (offset taken : ℕ) (put : List Item) (old new : Node) : Type 0 where
  pub level : new.level ≡ old.level
  pub index : 0 < new.level
  pub packable : ArePackable new.level (items new.entries.items)
  pub spliced : (front gone back : List Item) → items old.entries.items ≡ front ++ gone ++ back
      → AreGone offset taken front gone → items new.entries.items ≡ starred (front ++ put ++ back)
