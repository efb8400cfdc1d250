-- A range of keys, and what is left of items without those in it.
use Rattle.std.specs.Prelude.{◌≡◌, ◌≢◌, ◌⊎◌, ℕ, ◌+◌, ◌*◌, Bool, true, false, ◌&&◌, not, List, [], filter, Option, None}
use Rattle.std.specs.Prelude.{Some, if◌then◌else◌}
use Rattle.std.specs.Borrow.{Bor}
use Rattle.gds_block.specs.Item.{Item}
use Rattle.gds_law.specs.Record.{is_below}
use Rattle.gds_tree.specs.Lawful.{IsAboveLow}
use Rattle.m_key.specs.Key.{AtMost, Below}
use Rattle.gds_remove.specs.declared.range.KeyRange.{KeyRange}
use Rattle.gds_remove.specs.declared.range.RangeLeft.{RangeLeft}

-- from a least key on, or from the first; and below another one, or to the last
pub record Range : Type 0 where
  pub low : Option (List ℕ)
  pub high : Option (List ℕ)

-- what clauses see of a `KeyRange`
abbrev pub bytes_of : Option (Bor (List ℕ)) → Option (List ℕ)
bytes_of None = None
bytes_of (Some bytes) = Some bytes.now

abbrev pub range_of : KeyRange → Range
range_of range = record { low = bytes_of range.low; high = bytes_of range.high }

abbrev pub is_from : Option (List ℕ) → List ℕ → Bool
is_from None key = true
is_from (Some low) key = not (is_below key low)

abbrev pub is_up_to : Option (List ℕ) → List ℕ → Bool
is_up_to None key = true
is_up_to (Some high) key = is_below key high

abbrev pub is_in : Range → List ℕ → Bool
is_in range key = is_from range.low key && is_up_to range.high key

-- the items outside
abbrev pub left_by : Range → List Item → List Item
left_by range items = filter (λ e. not (is_in range e.key)) items

-- how many ends a range has, and how many blocks of a tree whose root has a level get other entries where a range is
-- cut out: at each end those on one way down
abbrev pub end_count : Option (List ℕ) → ℕ
end_count None = 0
end_count (Some key) = 1

abbrev pub ends_in : Range → ℕ
ends_in range = end_count range.low + end_count range.high

abbrev pub most_written : Range → ℕ → ℕ
most_written range level = ends_in range * (level + 1)

-- ---- on a way along the children of an index block

-- what clauses see of a `RangeLeft`
pub record Left : Type 0 where
  pub low : Option (List ℕ)
  pub high : Option (List ℕ)
  pub past : Bool

abbrev pub left_of : RangeLeft → Left
left_of left =
    record { low = bytes_of left.range.low; high = bytes_of left.range.high; past = left.is_past }

-- An end of a range isn't above a lower bound.
pub record IsReached (end from : Option (List ℕ)) : Type 0 where
  pub key : List ℕ
  pub bound : List ℕ
  pub end_is : end ≡ Some key
  pub from_is : from ≡ Some bound
  pub most : AtMost key bound

-- This is left of a range for keys from a lower bound on: the least key, unless it isn't above the bound; the other
-- end; and whether that isn't above it either.
pub record IsLeft (range : Range) (from : Option (List ℕ)) (left : Left) : Type 0 where
  pub low : (left.low ≡ range.low) ⊎ ((left.low ≡ None) × IsReached range.low from)
  pub high : left.high ≡ range.high
  pub past : left.past ≡ true → IsReached range.high from

-- A range with this least key begins behind a child whose keys are below one, or before that key; and one that ends at
-- a key has its end among the child's keys or before them, or goes on behind them. The last child has no such key.
pub record BeginsBehind (low : Option (List ℕ)) (key : List ℕ) : Type 0 where
  pub least : List ℕ
  pub low_is : low ≡ Some least
  pub some : key ≢ []
  pub most : AtMost key least

abbrev pub BeginsBelow : Option (List ℕ) → List ℕ → Type 0
BeginsBelow None key = Unit {0}
BeginsBelow (Some low) key = key ≢ [] → Below low key

pub record EndsBelow (high : Option (List ℕ)) (key : List ℕ) : Type 0 where
  pub end : List ℕ
  pub high_is : high ≡ Some end
  pub most : key ≢ [] → AtMost end key

abbrev pub GoesOn : Option (List ℕ) → List ℕ → Type 0
GoesOn None key = Unit {0}
GoesOn (Some high) key = (key ≢ []) × Below key high

-- how many ends are left
abbrev pub ends_left : Left → ℕ
ends_left left = end_count left.low + (if left.past then 0 else end_count left.high)

abbrev pub ends_of : Option Range → ℕ
ends_of None = 0
ends_of (Some part) = end_count part.low + end_count part.high

-- A key is in the bounds of a child: from a lower bound on, and below the key of the child's entry, if it has one.
pub record IsInBounds (from : Option (List ℕ)) (key k : List ℕ) : Type 0 where
  pub above : IsAboveLow 0 from k
  pub below : key ≢ [] → Below k key

-- In a child's bounds this part of a range is the range; without one no key there is in the range, and one bound is
-- given.
abbrev pub IsPart : Range → Option (List ℕ) → List ℕ → Option Range → Type 0
IsPart range from key None =
    ((k : List ℕ) → IsInBounds from key k → is_in range k ≡ false) × (from ≡ None → key ≢ [])
IsPart range from key (Some part) = (k : List ℕ) → IsInBounds from key k → is_in part k ≡ is_in range k

-- That much is left behind a child with a key.
abbrev pub StaysLeft : Range → Option (List ℕ) → List ℕ → Left → Type 0
StaysLeft range from key after = key ≢ [] → IsAboveLow 0 from key → IsLeft range (Some key) after

-- A child whose keys are from a lower bound on and below a key takes its part of what is left.
pub record TakesPart (range : Range) (from : Option (List ℕ)) (key : List ℕ) (after : Left) (part : Option Range)
    : Type 0 where
  pub part_is : IsPart range from key part
  pub stays : StaysLeft range from key after
