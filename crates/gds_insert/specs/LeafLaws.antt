-- What becomes of a tree where an item is set in one of its leaves.
use Rattle.std.specs.Prelude.{ℕ, Bool, List, ◌∷◌}
use Rattle.gds_block.specs.Item.{Item}
use Rattle.gds_law.specs.Path.{Steps}
use Rattle.gds_law.specs.Visit.{Visit}
use Rattle.gds_search.specs.declared.place.Place.{Place}
use Rattle.gds_sound.specs.Sound.{Tree}
use Rattle.gds_find.specs.Trail.{IsTrail}
use Rattle.gds_ancestors.specs.Ancestors.{Ancestor, outer_blocks}
use Rattle.gds_splice.specs.Parted.{LeafParts, TreeBecomes, items_around}
use Rattle.gds_insert.specs.Leaf.{IsLeafFor, with_item}
use Rattle.gds_insert.specs.SetIn.{HasSet, MaySet}

-- The leaf at a trail's end, with an index block above it.
pub record HasLeaf (file : List ℕ) (v : Visit) (t : Tree) (key : List ℕ) (place : Place) (steps : Steps)
    : Type 0 where
  pub above : Ancestor
  pub further : List Ancestor
  pub leaf : Visit
  pub before : List Item
  pub behind : List Item
  pub is_leaf : IsLeafFor file v t key place steps (above ∷ further) leaf before behind

-- A trail ends in the leaf to which its key belongs.
abbrev pub TrailEndsInLeaf : Type 0
TrailEndsInLeaf =
    (file : List ℕ) (v : Visit) (t : Tree) (key rest : List ℕ) (steps : Steps) (found : Bool) (place : Place)
    → MaySet file v t key rest → IsTrail file v key steps found place → HasLeaf file v t key place steps

-- The leaf may have the item beside its other entries.
abbrev pub LeafMayTake : Type 0
LeafMayTake =
    (file : List ℕ) (v : Visit) (t : Tree) (key rest : List ℕ) (place : Place) (steps : Steps)
    (above : List Ancestor) (leaf : Visit) (before behind : List Item)
    → MaySet file v t key rest → IsLeafFor file v t key place steps above leaf before behind
    → let es = with_item place.is_equal before behind (record { key = key; rest = rest }) in
    LeafParts file v above leaf es t.blocks

-- Where the leaf has it, in its block or in pieces of which the blocks above know, the item is set in the tree.
abbrev pub LeafIsSet : Type 0
LeafIsSet =
    (before after : List ℕ) (v : Visit) (t : Tree) (key rest : List ℕ) (place : Place) (steps : Steps)
    (above : List Ancestor) (leaf : Visit) (front back : List Item)
    → MaySet before v t key rest → IsLeafFor before v t key place steps above leaf front back
    → TreeBecomes before after v (leaf.block ∷ outer_blocks above)
    (items_around above (with_item place.is_equal front back (record { key = key; rest = rest })))
    → HasSet before after v t key rest
