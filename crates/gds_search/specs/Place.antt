-- The place of a key among the entries of a packed block.
use Rattle.std.specs.Prelude.{ℕ, ◌≡◌, ◌≢◌, ◌≤◌, ◌⊎◌, All, List, [], ◌∷◌, ◌++◌, length}
use Rattle.std.specs.Bool.{OnTrue, OnFalse}
use Rattle.gds_block.specs.Block.{used_of}
use Rattle.gds_block.specs.Item.{Item}
use Rattle.m_key.specs.Key.{Below}
use Rattle.m_key.specs.KeyEnd.{shared}
use Rattle.gds_pack.specs.Packed.{packed_size, key_behind, first_key}
use Rattle.gds_search.specs.declared.place.Place.{Place}

-- The entry has a key, and that is below this one. The star, which has none, is above all keys.
abbrev pub IsBelow : List ℕ → Item → Type 0
IsBelow key i = (i.key ≢ []) × Below i.key key

-- The first of these entries has this key.
abbrev pub BeginsAt : List ℕ → List Item → Type 0
BeginsAt key [] = ⊥
BeginsAt key (i ∷ is) = i.key ≡ key

-- The first of these entries, if there is one, is above this key: it is the star, or its key is.
abbrev pub BeginsAbove : List ℕ → List Item → Type 0
BeginsAbove key [] = Unit {0}
BeginsAbove key (i ∷ is) = (i.key ≡ []) ⊎ Below key i.key

-- The place of a key in the block with these entries: those of `before` are below the key, and the first of `behind`
-- is at or above it.
pub record IsPlaceFor (es : List Item) (key : List ℕ) (place : Place) (before behind : List Item) : Type 0 where
  pub parts : es ≡ before ++ behind
  pub offset : place.offset ≡ packed_size before
  pub below : All (IsBelow key) before
  pub equal : OnTrue place.is_equal (BeginsAt key behind)
  pub above : OnFalse place.is_equal (BeginsAbove key behind)
  pub shares : place.shared ≡ shared (key_behind [] before) key
  pub next_shares : place.next_shared ≡ shared (first_key behind) key

-- the same for some parting of the entries
abbrev pub IsPlace : List Item → List ℕ → Place → Type 0
IsPlace es key place = (before : List Item) × (behind : List Item) × IsPlaceFor es key place before behind

-- The place lies behind the head of a block and within its used bytes, and the key shares no more bytes than it has.
pub record IsWithin (block key : List ℕ) (place : Place) : Type 0 where
  pub behind_head : 16 ≤ place.offset
  pub used : place.offset ≤ used_of block
  pub shares : place.shared ≤ length key
  pub next_shares : place.next_shared ≤ length key
