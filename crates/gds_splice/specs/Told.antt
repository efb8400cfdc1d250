-- An index block that is read and told of parts.
use Rattle.std.specs.Prelude.{◌≡◌, ◌<◌, ℕ, suc, List, ◌∷◌, ◌++◌}
use Rattle.gds_block.specs.Item.{Item}
use Rattle.gds_law.specs.Visit.{Visit}
use Rattle.gds_pack.specs.Entry.{items}
use Rattle.gds_pack.specs.Packable.{ArePackable}
use Rattle.gds_pack.specs.Packed.{packed_size}
use Rattle.gds_tree.specs.Below.{HasEntries}
use Rattle.gds_tree.specs.Keeps.{IsImage}
use Rattle.gds_splice.specs.Parts.{told_entries}
use Rattle.gds_splice.specs.declared.node.Node.{Node}
use Rattle.gds_splice.specs.declared.parts.Parts.{Parts}
use Rattle.gds_find.specs.declared.trail.Step.{Step}

-- A step is to the record of an entry of an index block, whose children have this level.
pub record IsStepTo (file : List ℕ) (step : Step) (v : Visit) (level : ℕ) (front : List Item) (e : Item)
    (back : List Item) : Type 0 where
  pub image : IsImage file
  pub block : v.block ≡ step.block
  pub has : HasEntries file v (suc level) (front ++ e ∷ back)
  pub place : packed_size front ≡ step.offset

-- The node is that block with the entries that lead to the parts in the place of that one.
pub record IsTold (parts : Parts) (level : ℕ) (front : List Item) (e : Item) (back : List Item) (node : Node)
    : Type 0 where
  pub level_is : node.level ≡ suc level
  pub entries_are : items node.entries.items ≡ told_entries parts front e back

-- Wherever the step is to, the node is that block.
abbrev pub IsToldAt : Step → Parts → Node → List ℕ → Type 0
IsToldAt step parts node file =
    (v : Visit) (level : ℕ) (front : List Item) (e : Item) (back : List Item) → IsStepTo file step v level front e back
    → IsTold parts level front e back node

-- The step is to no entry in whose place these may stand.
abbrev pub CannotTell : Step → Parts → List ℕ → Type 0
CannotTell step parts file =
    (v : Visit) (level : ℕ) (front : List Item) (e : Item) (back : List Item) → IsStepTo file step v level front e back
    → ArePackable (suc level) (told_entries parts front e back) → ⊥

-- The entries of an index block are packable.
pub record IsIndexNode (node : Node) : Type 0 where
  pub index : 0 < node.level
  pub packable : ArePackable node.level (items node.entries.items)
