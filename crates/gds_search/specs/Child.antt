-- The child of an index block that a key leads to.
use Rattle.std.specs.Prelude.{ℕ, ◌≡◌, All, List, ◌∷◌, ◌++◌}
use Rattle.gds_block.specs.Fields.{u32_at}
use Rattle.gds_block.specs.Item.{Item}
use Rattle.m_key.specs.Key.{AtMost}
use Rattle.gds_pack.specs.Packed.{packed_size}
use Rattle.gds_search.specs.Place.{BeginsAbove}
use Rattle.gds_search.specs.declared.reading.Child.{Child}

-- The child of an index block with these entries in whose range a key is: that of the entry `own`, the first that is
-- above the key.
pub record IsChildFor (es : List Item) (key : List ℕ) (child : Child) (before : List Item) (own : Item)
    (behind : List Item) : Type 0 where
  pub parts : es ≡ before ++ own ∷ behind
  pub offset : child.offset ≡ packed_size before
  pub block : child.block ≡ u32_at own.rest 0
  pub not_above : All (λ i. AtMost i.key key) before
  pub above : BeginsAbove key (own ∷ behind)

-- the same for some parting of the entries
abbrev pub IsChild : List Item → List ℕ → Child → Type 0
IsChild es key child =
    (before : List Item) × (own : Item) × (behind : List Item) × IsChildFor es key child before own behind
