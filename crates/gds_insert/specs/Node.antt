-- A leaf that is read, with an item set among its entries.
use Rattle.std.specs.Prelude.{◌≡◌, ℕ, Bool, List, ◌++◌}
use Rattle.gds_block.specs.Item.{Item}
use Rattle.gds_find.specs.declared.trail.Step.{Step}
use Rattle.gds_law.specs.Visit.{Visit}
use Rattle.gds_pack.specs.Entry.{items}
use Rattle.gds_pack.specs.Packable.{ArePackable}
use Rattle.gds_pack.specs.Packed.{packed_size}
use Rattle.gds_splice.specs.declared.node.Node.{Node}
use Rattle.gds_tree.specs.Below.{HasEntries}
use Rattle.gds_tree.specs.Keeps.{IsImage}
use Rattle.gds_insert.specs.Leaf.{with_item}

-- A step is to a place among the entries of a leaf.
pub record IsPlaceAt (file : List ℕ) (step : Step) (leaf : Visit) (front back : List Item) : Type 0 where
  pub image : IsImage file
  pub block : leaf.block ≡ step.block
  pub has : HasEntries file leaf 0 (front ++ back)
  pub place : packed_size front ≡ step.offset

-- The node is a leaf with an item at a place among its entries.
pub record HasItem (equal : Bool) (front back : List Item) (item : Item) (node : Node) : Type 0 where
  pub level_is : node.level ≡ 0
  pub entries_are : items node.entries.items ≡ with_item equal front back item

-- Wherever the step is to, the node is that leaf with the item there.
abbrev pub HasItemAt : Step → Bool → Item → Node → List ℕ → Type 0
HasItemAt step equal item node file =
    (leaf : Visit) (front back : List Item) → IsPlaceAt file step leaf front back → HasItem equal front back item node

-- The step is to no place where the item may be set.
abbrev pub CannotHave : Step → Bool → Item → List ℕ → Type 0
CannotHave step equal item file =
    (leaf : Visit) (front back : List Item) → IsPlaceAt file step leaf front back
    → ArePackable 0 (with_item equal front back item) → ⊥
