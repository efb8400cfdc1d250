-- The lists of items that a block may have.
use Rattle.std.specs.Prelude.{ℕ, zero, suc, ◌≡◌, List, [], ◌∷◌, length}
use Rattle.std.specs.Ordering.{nat_cmp}
use Rattle.std.specs.Cmp.Lexicographic.{slice_cmp}
use Rattle.std.specs.declared.cmp.Ordering.TheVariants.{Less}
use Rattle.gds_block.specs.Item.{Item}
use Rattle.m_key.specs.KeyEnd.{IsKey}

-- The item's key is a whole one, above the key before it.
pub record IsNext (previous : List ℕ) (i : Item) : Type 0 where
  pub is_key : IsKey i.key
  pub above : slice_cmp nat_cmp previous i.key ≡ Less

-- the items of a block of level 0, behind a key
abbrev pub AreLeaves : List ℕ → List Item → Type 0
AreLeaves previous [] = Unit {0}
AreLeaves previous (i ∷ is) = IsNext previous i × AreLeaves i.key is

-- The items of an index block, behind a key: each rest is a pointer of 4 bytes, and the last has no key.
abbrev pub AreIndex : List ℕ → List Item → Type 0
AreIndex previous [] = ⊥
AreIndex previous (i ∷ []) = (i.key ≡ []) × (length i.rest ≡ 4)
AreIndex previous (i ∷ j ∷ is) = IsNext previous i × (length i.rest ≡ 4) × AreIndex i.key (j ∷ is)

-- the items of a block of a level
abbrev pub ArePackable : ℕ → List Item → Type 0
ArePackable zero items = AreLeaves [] items
ArePackable (suc level) items = AreIndex [] items
