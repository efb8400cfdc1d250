-- A tree with one item that is written into free blocks of a draft.
use Rattle.std.specs.Prelude.{ℕ, List, [], ◌∷◌}
use Rattle.gds_block.specs.Item.{Item}
use Rattle.gds_split.specs.Pieces.{entry_to}
use Rattle.gds_splice.specs.Writing.{PutsEntries}
use Rattle.gds_globals.specs.SetLaws.{Plants}

-- A root is written that leads to a leaf, and then the leaf with this item.
pub record PutsTree (before after : List ℕ) (root leaf : ℕ) (item : Item) : Type 0 where
  pub mid : List ℕ
  pub puts_root : PutsEntries before mid root 1 (entry_to leaf [] ∷ [])
  pub puts_leaf : PutsEntries mid after leaf 0 (item ∷ [])

-- The root is that of a planted tree.
abbrev pub IsPlanted : List ℕ → List ℕ → ℕ → Item → Type 0
IsPlanted before after root item = (leaf : ℕ) × Plants before after root leaf item
