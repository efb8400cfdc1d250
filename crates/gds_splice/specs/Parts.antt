-- The blocks that a block has gone into, and the entries above that lead to them.
use Rattle.std.specs.Prelude.{◌≡◌, ◌≢◌, ◌<◌, ◌≤◌, ℕ, List, [], ◌∷◌, ◌++◌, map, take, drop}
use Rattle.gds_block.specs.Item.{Item}
use Rattle.gds_pack.specs.Entry.{items}
use Rattle.gds_pack.specs.Packable.{ArePackable}
use Rattle.gds_pack.specs.Packed.{packed_size}
use Rattle.gds_split.specs.Pieces.{Piece, entry_to}
use Rattle.gds_splice.specs.declared.node.Node.{Node}
use Rattle.gds_splice.specs.declared.parts.Part.{Part}
use Rattle.gds_splice.specs.declared.parts.Parts.{Parts}

-- the entry above that leads to a part
abbrev pub part_entry : Part → Item
part_entry p = entry_to p.block p.key.items

-- the entries above that lead to the parts, of which the last has a key of the block above
abbrev pub above_parts : Parts → List ℕ → List Item
above_parts parts key = map part_entry parts.parted.items ++ entry_to parts.last key ∷ []

-- the pieces that entries go into by the lengths of all runs but the last and by the numbers of the blocks
abbrev pub pieces_of : List ℕ → List ℕ → List Item → List Piece
pieces_of lengths [] entries = []
pieces_of [] (n ∷ numbers) entries = record { number = n; entries = entries } ∷ []
pieces_of (k ∷ lengths) (n ∷ numbers) entries =
    record { number = n; entries = take k entries } ∷ pieces_of lengths numbers (drop k entries)

-- In runs of these lengths and a last one the entries fit a block of so many bytes each, and no run is empty.
abbrev pub FitInRuns : ℕ → List ℕ → List Item → Type 0
FitInRuns limit [] entries = (entries ≢ []) × (packed_size entries ≤ limit)
FitInRuns limit (k ∷ lengths) entries =
    (take k entries ≢ []) × (packed_size (take k entries) ≤ limit) × FitInRuns limit lengths (drop k entries)

-- Entries come in three parts that fit a block of so many bytes each.
pub record FitInThree (limit : ℕ) (entries : List Item) : Type 0 where
  pub front : List Item
  pub middle : List Item
  pub back : List Item
  pub whole : entries ≡ front ++ middle ++ back
  pub some : entries ≢ []
  pub front_fits : packed_size front ≤ limit
  pub middle_fits : packed_size middle ≤ limit
  pub back_fits : packed_size back ≤ limit

-- the entries of an index block with those that lead to the parts in the place of one
abbrev pub told_entries : Parts → List Item → Item → List Item → List Item
told_entries parts front e back = front ++ above_parts parts e.key ++ back

-- An index block is told of the parts in the place of the entry whose record begins at an offset, and may have those
-- entries.
pub record TellsOf (parts : Parts) (offset : ℕ) (old new : Node) : Type 0 where
  pub level : new.level ≡ old.level
  pub index : 0 < new.level
  pub packable : ArePackable new.level (items new.entries.items)
  pub told : (front : List Item) (e : Item) (back : List Item) → items old.entries.items ≡ front ++ e ∷ back
      → packed_size front ≡ offset → items new.entries.items ≡ told_entries parts front e back
