-- What a SET and a KILL make of the items of a file's globals.
use Rattle.std.specs.Prelude.{◌≡◌, ◌⊎◌, ℕ, Bool, ◌&&◌, not, List, ◌∷◌, ◌++◌, filter, flat_map}
use Rattle.m_key.specs.Node.{Node}
use Rattle.m_key.specs.Key.{key_bytes, past_bytes}
use Rattle.gds_block.specs.Item.{Item}
use Rattle.gds_law.specs.Record.{is_below}
use Rattle.gds_sound.specs.Sound.{Tree}

-- the items of trees one after another
abbrev pub items_in : List Tree → List Item
items_in trees = flat_map (λ tree. tree.items) trees

-- the item of a node's value
abbrev pub item_at : Node → List ℕ → Item
item_at node value = record { key = key_bytes node; rest = value }

-- One item is set: it came between others or took the place of one with its key, and the others stay.
pub record SetsItem (old new : List Item) (item : Item) : Type 0 where
  pub front : List Item
  pub back : List Item
  pub after : new ≡ front ++ item ∷ back
  pub before : (old ≡ front ++ back)
      ⊎ ((rest : List ℕ) × (old ≡ front ++ record { key = item.key; rest = rest } ∷ back))

-- The key is the node's or a descendant's.
abbrev pub is_within : Node → List ℕ → Bool
is_within node key = not (is_below key (key_bytes node)) && is_below key (past_bytes node)

-- the items whose keys aren't
abbrev pub items_outside : Node → List Item → List Item
items_outside node items = filter (λ item. not (is_within node item.key)) items
