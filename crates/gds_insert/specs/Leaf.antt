-- The leaf of a tree to which a key belongs, with an item set in it.
use Rattle.std.specs.Prelude.{◌≡◌, ℕ, Bool, true, false, List, [], ◌∷◌, ◌++◌}
use Rattle.gds_block.specs.Item.{Item}
use Rattle.gds_law.specs.Path.{Steps}
use Rattle.gds_law.specs.Visit.{Visit}
use Rattle.gds_search.specs.Place.{IsPlaceFor}
use Rattle.gds_search.specs.declared.place.Place.{Place}
use Rattle.gds_sound.specs.Sound.{Tree}
use Rattle.gds_tree.specs.Below.{HasEntries, leaf_tree}
use Rattle.gds_find.specs.Trail.{HoldsKey}
use Rattle.gds_ancestors.specs.Ancestors.{Ancestor, AreAncestors, steps_to, whole_with}

-- A leaf in whose bounds a key lies: its ancestors, and its entries, parted at the key's place. These steps lead there.
pub record IsLeafFor (file : List ℕ) (v : Visit) (t : Tree) (key : List ℕ) (place : Place) (steps : Steps)
    (above : List Ancestor) (leaf : Visit) (before behind : List Item) : Type 0 where
  pub leads : AreAncestors file v above leaf 0
  pub whole : t ≡ whole_with above (leaf_tree leaf (before ++ behind))
  pub has : HasEntries file leaf 0 (before ++ behind)
  pub holds : HoldsKey leaf key
  pub parts : IsPlaceFor (before ++ behind) key place before behind
  pub steps_are : steps ≡ steps_to above ++ (leaf.block, place.offset) ∷ []

-- the entries that stay behind the place of a key where an item is set there: all of them, or where the first has the
-- key those behind it
abbrev pub left_behind : Bool → List Item → List Item
left_behind false behind = behind
left_behind true [] = []
left_behind true (e ∷ behind) = behind

-- the entries with an item at a place
abbrev pub with_item : Bool → List Item → List Item → Item → List Item
with_item equal before behind item = before ++ item ∷ left_behind equal behind

-- what stands below entries of a leaf: they are the items
abbrev pub items_alone : List Item → Tree
items_alone es = record { blocks = []; items = es }
