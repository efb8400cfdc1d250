-- A child of an index block in whose bounds a whole range of keys lies.
use Rattle.std.specs.Prelude.{◌≡◌, ◌≢◌, ℕ, Bool, List, [], ◌∷◌, ◌++◌, length}
use Rattle.std.specs.List.{AllByRecursion}
use Rattle.gds_block.specs.Fields.{u32_at}
use Rattle.gds_block.specs.Item.{Item}
use Rattle.gds_header.specs.Fields.{fields_of}
use Rattle.gds_law.specs.Visit.{Visit}
use Rattle.gds_pack.specs.Packed.{packed_size}
use Rattle.gds_split.specs.Pieces.{starred}
use Rattle.gds_splice.specs.Divided.{MayPut}
use Rattle.gds_tree.specs.Below.{HasEntries}
use Rattle.gds_tree.specs.Keeps.{IsImage}
use Rattle.gds_remove.specs.Child.{PutsKept}
use Rattle.gds_remove.specs.Range.{BeginsBehind, BeginsBelow, EndsBelow, Range}
use Rattle.gds_remove.specs.declared.sole.SoleChild.{SoleChild}

-- Of these entries one leads to the child, whose record begins at that offset. The range begins behind the children
-- before it and ends in its bounds.
pub record HasSole (es : List Item) (range : Range) (sole : SoleChild) : Type 0 where
  pub before : List Item
  pub own : Item
  pub behind : List Item
  pub parts : es ≡ before ++ own ∷ behind
  pub block_is : sole.block ≡ u32_at own.rest 0
  pub offset_is : packed_size before ≡ sole.offset
  pub passed : AllByRecursion (λ (e : Item). BeginsBehind range.low e.key) before
  pub begins : BeginsBelow range.low own.key
  pub ends : EndsBelow range.high own.key

-- Whichever visit it is of, the block has such a child.
abbrev pub IsSole : ℕ → ℕ → Range → SoleChild → List ℕ → Type 0
IsSole block level range sole file =
    (v : Visit) (es : List Item) → v.block ≡ block → IsImage file → HasEntries file v level es → HasSole es range sole

-- The entry is taken out whose record begins at an offset.
abbrev pub TakesOut : ℕ → ℕ → ℕ → Bool → List ℕ → List ℕ → Type 0
TakesOut block level offset empty before after =
    (v : Visit) (front : List Item) (e : Item) (back : List Item) → v.block ≡ block → IsImage before
    → HasEntries before v level (front ++ e ∷ back) → packed_size front ≡ offset
    → PutsKept block level (length (front ++ e ∷ back)) (front ++ back) empty before after

-- There is none, or the block can't have the others.
abbrev pub CannotTakeOut : ℕ → ℕ → ℕ → List ℕ → Type 0
CannotTakeOut block level offset file =
    (v : Visit) (front : List Item) (e : Item) (back : List Item) → v.block ≡ block → IsImage file
    → HasEntries file v level (front ++ e ∷ back) → packed_size front ≡ offset
    → (front ++ back ≢ [] → MayPut (fields_of file) level (starred (front ++ back))) → ⊥
