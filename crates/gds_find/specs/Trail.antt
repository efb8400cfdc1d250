-- The way from a root down to the level-0 block in whose bounds a key lies.
use Rattle.std.specs.Prelude.{◌≡◌, ℕ, Bool, List, [], ◌∷◌, ◌++◌, map, length, Option, Some}
use Rattle.gds_block.specs.Block.{level_of}
use Rattle.gds_block.specs.Item.{Item}
use Rattle.gds_header.specs.Fields.{block_of}
use Rattle.gds_law.specs.Path.{Steps, visit_from}
use Rattle.gds_law.specs.Visit.{Visit}
use Rattle.gds_search.specs.Place.{IsPlaceFor}
use Rattle.gds_search.specs.declared.place.Place.{Place}
use Rattle.gds_sound.specs.Sound.{Tree, tree_at}
use Rattle.gds_tree.specs.Below.{HasEntries}
use Rattle.gds_tree.specs.Lawful.{IsAboveLow, IsBelowHigh}
use Rattle.m_key.specs.KeyEnd.{IsKey}
use Rattle.gds_find.specs.declared.trail.Step.{Step}
use Rattle.gds_find.specs.declared.trail.Trail.{Trail}

-- what clauses see of the steps of a trail: block and offset of each
abbrev pub steps_of : List Step → Steps
steps_of steps = map (λ s. (s.block, s.offset)) steps

-- A key lies in the bounds of a visit.
pub record HoldsKey (v : Visit) (key : List ℕ) : Type 0 where
  pub above : IsAboveLow 0 v.low key
  pub below : IsBelowHigh v.high key

-- A sound tree stands at a visit, whose block and due level these are, and a whole key lies in the visit's bounds.
pub record HasTreeFor (file : List ℕ) (v : Visit) (block : ℕ) (due : Option ℕ) (key : List ℕ) : Type 0 where
  pub block_is : v.block ≡ block
  pub level_is : v.level ≡ due
  pub tree : Tree
  pub sound : tree_at file v ≡ Some tree
  pub holds : HoldsKey v key
  pub is_key : IsKey key

-- The steps are a path that leads down from a root to a level-0 block in whose bounds the key lies, and behind that the
-- key's place in this block; found says whether the key stands there.
pub record IsTrail (file : List ℕ) (root : Visit) (key : List ℕ) (steps : Steps) (found : Bool) (place : Place)
    : Type 0 where
  pub path : Steps
  pub leaf : Visit
  pub steps_are : steps ≡ path ++ (leaf.block, place.offset) ∷ []
  pub leads : visit_from file root path ≡ Some leaf
  pub levels : length path ≡ level_of (block_of file root.block)
  pub holds : HoldsKey leaf key
  pub entries : List Item
  pub has : HasEntries file leaf 0 entries
  pub before : List Item
  pub behind : List Item
  pub place_is : IsPlaceFor entries key place before behind
  pub found_is : found ≡ place.is_equal

-- the same of a trail of the code
abbrev pub HasTrail : List ℕ → Visit → List ℕ → Trail → Type 0
HasTrail file root key trail = IsTrail file root key (steps_of trail.steps.items) trail.found trail.place
