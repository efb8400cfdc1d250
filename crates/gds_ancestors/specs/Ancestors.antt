-- The index blocks above a block of a tree, its ancestors: the innermost first, since a change goes up from block to
-- block.
use Rattle.std.specs.Prelude.{◌≡◌, ℕ, suc, List, [], ◌∷◌, ◌++◌, Some}
use Rattle.gds_block.specs.Item.{Item}
use Rattle.gds_law.specs.Visit.{Visit}
use Rattle.gds_law.specs.Path.{Steps}
use Rattle.gds_pack.specs.Packed.{packed_size}
use Rattle.gds_sound.specs.Sound.{Tree, sound_tree}
use Rattle.gds_tree.specs.Below.{visit_below, low_behind, trees_below, HasEntries, index_tree}
use Rattle.gds_tree.specs.Around.{around}

-- An index block on the way down to another: its visit; its entries before the one that leads down, that one, and those
-- behind; and the trees that stand below those before and below those behind.
pub record Ancestor : Type 0 where
  pub visit : Visit
  pub front : List Item
  pub entry : Item
  pub back : List Item
  pub left : Tree
  pub right : Tree

-- the tree of an ancestor with a tree below the entry that leads down
abbrev pub tree_with : Ancestor → Tree → Tree
tree_with a inner = index_tree a.visit (around a.left inner a.right)

-- the tree of the outermost of these ancestors with a tree below the entry of the innermost
abbrev pub whole_with : List Ancestor → Tree → Tree
whole_with [] inner = inner
whole_with (a ∷ above) inner = whole_with above (tree_with a inner)

-- the path from the outermost down: each block, and the offset of the record that leads on
abbrev pub steps_to : List Ancestor → Steps
steps_to [] = []
steps_to (a ∷ above) = steps_to above ++ (a.visit.block, packed_size a.front) ∷ []

-- the blocks of these ancestors, and those of the trees beside the way down
abbrev pub outer_blocks : List Ancestor → List ℕ
outer_blocks [] = []
outer_blocks (a ∷ above) = a.visit.block ∷ a.left.blocks ++ a.right.blocks ++ outer_blocks above

-- the items before and behind what stands below the entry of the innermost
abbrev pub items_before : List Ancestor → List Item
items_before [] = []
items_before (a ∷ above) = items_before above ++ a.left.items

abbrev pub items_behind : List Ancestor → List Item
items_behind [] = []
items_behind (a ∷ above) = a.right.items ++ items_behind above

-- An ancestor, whose children have a level, has its entries and leads to a visit; what stands beside is sound.
pub record IsAncestor (image : List ℕ) (a : Ancestor) (w : Visit) (level : ℕ) : Type 0 where
  pub has : HasEntries image a.visit (suc level) (a.front ++ a.entry ∷ a.back)
  pub leads : w ≡ visit_below a.visit level (low_behind a.visit.low a.front) a.entry
  pub left : trees_below image a.visit level a.visit.low a.front ≡ Some a.left
  pub right : trees_below image a.visit level (Some a.entry.key) a.back ≡ Some a.right

-- These ancestors lead from a root down to a visit of a level.
abbrev pub AreAncestors : List ℕ → Visit → List Ancestor → Visit → ℕ → Type 0
AreAncestors image root [] w level = w ≡ root
AreAncestors image root (a ∷ above) w level =
    IsAncestor image a w level × AreAncestors image root above a.visit (suc level)

-- The ancestors of the visit of a level to which a path leads from a root with a tree, and the tree that stands there.
pub record HasAncestors (image : List ℕ) (root : Visit) (path : Steps) (w : Visit) (level : ℕ) (t : Tree) : Type 0 where
  pub ancestors : List Ancestor
  pub inner : Tree
  pub lead : AreAncestors image root ancestors w level
  pub sound : sound_tree image level w ≡ Some inner
  pub whole : t ≡ whole_with ancestors inner
  pub steps : steps_to ancestors ≡ path
