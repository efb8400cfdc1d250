-- A range of keys that goes from the tree of a root.
use Rattle.std.specs.Prelude.{◌≡◌, ◌≢◌, ◌≤◌, ◌+◌, ℕ, Bool, true, false, ◌&&◌, ◌==◌, not, IsTrue}
use Rattle.std.specs.Prelude.{MatchBool, List, [], ◌∷◌, filter}
use Rattle.host_model.specs.Failures.{Failures}
use Rattle.host_model.specs.Files.{Contents}
use Rattle.std.specs.Prelude.{Option}
use Rattle.gds_base.specs.Spaces.{blocks_beside_maps}
use Rattle.gds_bitmap.specs.declared.state.State.TheVariants.{Recycled}
use Rattle.gds_block.specs.Item.{Item}
use Rattle.gds_draft.specs.Draft.{DraftState}
use Rattle.gds_file.specs.FileLaws.{IsLawful, StandsAt}
use Rattle.gds_file.specs.Grow.{state_of}
use Rattle.gds_file.specs.Maps.{has_block}
use Rattle.gds_file.specs.Reshape.{Reshapes}
use Rattle.gds_file.specs.Rewrite.{AreAllBusy}
use Rattle.gds_law.specs.Record.{is_below}
use Rattle.gds_law.specs.Visit.{Visit, directory_root}
use Rattle.gds_sound.specs.Sound.{Tree}
use Rattle.gds_split.specs.Pieces.{entry_to}
use Rattle.gds_splice.specs.Parted.{IsRoot, TreeBecomes}
use Rattle.gds_tree.specs.Below.{HasEntries, visit_below}
use Rattle.gds_units.specs.Reading.{OnlyRead}
use Rattle.gds_units.specs.State.{UnitsState}

-- A sound tree stands at a root, and its blocks are busy in a file with lawful maps. At block 1 it is the directory.
pub record MayKill (file : List ℕ) (v : Visit) (t : Tree) : Type 0 where
  pub is_root : IsRoot file v
  pub directory : v.block ≡ 1 → v ≡ directory_root
  pub stands : StandsAt file v t
  pub busy : AreAllBusy file t.blocks
  pub maps : IsLawful file

-- the items whose keys aren't from one on and below another
abbrev pub items_beside : List ℕ → List ℕ → List Item → List Item
items_beside low high items = filter (λ e. not (not (is_below e.key low) && is_below e.key high)) items

-- The root is still busy, whatever its bytes, and all other blocks of the tree are free, as used ones.
pub record IsEmptied (before after : List ℕ) (v : Visit) (t : Tree) : Type 0 where
  pub reshapes : Reshapes before after t.blocks (v.block ∷ [])
  pub recycled : (n : ℕ) → IsTrue (has_block t.blocks n) → n ≢ v.block → state_of after n ≡ Recycled
  pub lawful : IsLawful after

-- The directory has one level above a block without entries.
pub record IsEmptyDirectory (before after : List ℕ) (v : Visit) (t : Tree) : Type 0 where
  pub becomes : TreeBecomes before after v t.blocks []
  pub leaf : ℕ
  pub root_has : HasEntries after v 1 (entry_to leaf [] ∷ [])
  pub leaf_has : HasEntries after (visit_below v 0 v.low (entry_to leaf [])) 0 []

-- What is left of a tree: one with the items outside the range, or nothing.
abbrev pub HasKilled : List ℕ → List ℕ → Visit → Tree → List ℕ → List ℕ → Bool → Type 0
HasKilled before after v t low high false =
    (items_beside low high t.items ≢ []) × TreeBecomes before after v t.blocks (items_beside low high t.items)
HasKilled before after v t low high true =
    (items_beside low high t.items ≡ [])
    × MatchBool (v.block == 1) (IsEmptyDirectory before after v t) (IsEmptied before after v t)

-- Whichever tree stands at the root.
abbrev pub KillsIn : ℕ → List ℕ → List ℕ → Bool → List ℕ → List ℕ → Type 0
KillsIn root low high empty before after =
    (v : Visit) (t : Tree) → v.block ≡ root → MayKill before v t → HasKilled before after v t low high empty

-- None stands there.
abbrev pub CannotKill : ℕ → List ℕ → Type 0
CannotKill root file = (v : Visit) (t : Tree) → v.block ≡ root → MayKill file v t → ⊥

-- A call changed the draft alone: the base was only read, and of the draft's header no more than the free count and the
-- master map are others. The draft has at most so many blocks more that are no maps.
pub record OnlyWrites {H : Type 0} (told : H → Option Contents) (moment : H → ℕ) (counts : H → Failures)
    (left_since : H → ℕ → Contents → Type 0) (old new : UnitsState H) (before after : DraftState) (most : ℕ)
    : Type 0 where
  pub read : OnlyRead told moment counts left_since old new
  pub header : after.header ≡ record before.header { free = after.header.free; master = after.header.master }
  pub more : blocks_beside_maps after ≤ blocks_beside_maps before + most
