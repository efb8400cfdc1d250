-- A tree inside another, of which a range of keys is cut out.
use Rattle.std.specs.Prelude.{◌≡◌, ◌≢◌, ◌≤◌, ℕ, Bool, true, false, IsTrue, List, [], ◌∷◌, nat_eq, Some}
use Rattle.std.specs.List.{IsDistinct}
use Rattle.gds_bitmap.specs.declared.state.State.TheVariants.{Recycled}
use Rattle.gds_header.specs.Fields.{fields_of}
use Rattle.gds_law.specs.Visit.{Visit}
use Rattle.gds_sound.specs.Sound.{Tree, sound_tree}
use Rattle.gds_tree.specs.Lawful.{IsTreeNumber}
use Rattle.gds_file.specs.FileLaws.{IsLawful}
use Rattle.gds_file.specs.Grow.{state_of}
use Rattle.gds_file.specs.Maps.{has_block}
use Rattle.gds_file.specs.Reshape.{Reshapes}
use Rattle.gds_file.specs.Rewrite.{AreAllBusy}
use Rattle.gds_remove.specs.Range.{Range, left_by}

-- A sound tree of a level stands at a visit, no block is in it twice, and all are busy in a file with lawful maps.
pub record StandsBelow (file : List ℕ) (v : Visit) (level : ℕ) (t : Tree) : Type 0 where
  pub number : IsTreeNumber (fields_of file).total v.block
  pub sound : sound_tree file level v ≡ Some t
  pub distinct : IsDistinct nat_eq t.blocks
  pub busy : AreAllBusy file t.blocks
  pub maps : IsLawful file

-- A block that was used and is free stays so.
abbrev pub KeepsRecycled : List ℕ → List ℕ → Type 0
KeepsRecycled before after = (n : ℕ) → state_of before n ≡ Recycled → state_of after n ≡ Recycled

-- Of some blocks of trees these are left, and the others are free, as used ones. No block is taken.
pub record Leaves (before after : List ℕ) (old new : List ℕ) : Type 0 where
  pub reshapes : Reshapes before after old new
  pub within : (n : ℕ) → IsTrue (has_block new n) → IsTrue (has_block old n)
  pub gone : (n : ℕ) → IsTrue (has_block old n) → has_block new n ≡ false → state_of after n ≡ Recycled
  pub recycled : KeepsRecycled before after
  pub more : (fields_of before).free ≤ (fields_of after).free
  pub lawful : IsLawful after

-- What is left is a sound tree, with the items outside the range, of which there are some.
pub record LeavesTree (before after : List ℕ) (v : Visit) (level : ℕ) (t : Tree) (range : Range) : Type 0 where
  pub tree : Tree
  pub sound : sound_tree after level v ≡ Some tree
  pub distinct : IsDistinct nat_eq tree.blocks
  pub items_are : tree.items ≡ left_by range t.items
  pub some : left_by range t.items ≢ []
  pub leaves : Leaves before after t.blocks tree.blocks

-- No item is left, and of the blocks these.
pub record LeavesNone (before after : List ℕ) (t : Tree) (range : Range) (blocks : List ℕ) : Type 0 where
  pub none : left_by range t.items ≡ []
  pub leaves : Leaves before after t.blocks blocks

-- Where nothing is left, the block at the top is still busy, whatever its bytes.
abbrev pub HasCut : List ℕ → List ℕ → Visit → ℕ → Tree → Range → Bool → Type 0
HasCut before after v level t range false = LeavesTree before after v level t range
HasCut before after v level t range true = LeavesNone before after t range (v.block ∷ [])

-- Whichever tree of a level stands at a block, the range is cut out of it.
abbrev pub CutsAt : ℕ → ℕ → Range → Bool → List ℕ → List ℕ → Type 0
CutsAt block level range empty before after =
    (v : Visit) (t : Tree) → v.block ≡ block → StandsBelow before v level t → HasCut before after v level t range empty

-- None stands there.
abbrev pub NoneStands : ℕ → ℕ → List ℕ → Type 0
NoneStands block level file = (v : Visit) (t : Tree) → v.block ≡ block → StandsBelow file v level t → ⊥

-- The same once the block at the top is free too, where nothing is left.
abbrev pub HasPruned : List ℕ → List ℕ → Visit → ℕ → Tree → Range → Bool → Type 0
HasPruned before after v level t range false = LeavesTree before after v level t range
HasPruned before after v level t range true = LeavesNone before after t range []
