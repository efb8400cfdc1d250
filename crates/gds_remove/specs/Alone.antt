-- An entry of a leaf that alone is in a range of keys.
use Rattle.std.specs.Prelude.{◌≡◌, ◌≢◌, ℕ, List, [], ◌∷◌, ◌++◌, Some}
use Rattle.gds_block.specs.Item.{Item}
use Rattle.gds_edit.specs.Edited.{IsEdited}
use Rattle.gds_search.specs.PackedBlock.{IsPackedBlock}
use Rattle.gds_search.specs.Place.{IsPlaceFor}
use Rattle.gds_search.specs.declared.place.Place.{Place}
use Rattle.gds_remove.specs.Range.{Range, left_by}

-- the range from a key on and below another one
abbrev pub between : List ℕ → List ℕ → Range
between low high = record { low = Some low; high = Some high }

-- At the place of the range's least key stands an entry that alone is in it, and others are left.
pub record HasAlone (es : List Item) (low high : List ℕ) (place : Place) : Type 0 where
  pub before : List Item
  pub own : Item
  pub behind : List Item
  pub place_is : IsPlaceFor es low place before (own ∷ behind)
  pub left_are : left_by (between low high) es ≡ before ++ behind
  pub some : before ++ behind ≢ []

-- The bytes of a leaf, whatever entries it has, were edited so that it has those outside the range, of which there are
-- some.
abbrev pub TakesAlone : List ℕ → List ℕ → List ℕ → List ℕ → Type 0
TakesAlone old new low high =
    (es : List Item) → IsPackedBlock old 0 es
    → (left_by (between low high) es ≢ []) × IsEdited old new 0 (left_by (between low high) es)
