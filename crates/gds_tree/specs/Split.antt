-- A block of a tree in two pieces.
use Rattle.std.specs.Prelude.{◌≡◌, ℕ, suc, List, Some}
use Rattle.gds_law.specs.Visit.{Visit}
use Rattle.gds_sound.specs.Sound.{Tree, joined, sound_tree}
use Rattle.gds_tree.specs.Below.{index_tree}

-- Two visits side by side have the keys of one between them, and a key parts theirs.
pub record PartsAt (v : Visit) (key : List ℕ) (left right : Visit) : Type 0 where
  pub left_role : left.role ≡ v.role
  pub left_low : left.low ≡ v.low
  pub left_high : left.high ≡ Some key
  pub right_role : right.role ≡ v.role
  pub right_low : right.low ≡ Some key
  pub right_high : right.high ≡ v.high

-- The tree of an index block of a level stands in two, which share what stood below it, and so its items.
pub record InTwoPieces (image : List ℕ) (v : Visit) (level : ℕ) (left right : Visit) (t : Tree) : Type 0 where
  pub before : Tree
  pub behind : Tree
  pub whole : t ≡ index_tree v (joined before behind)
  pub first : sound_tree image (suc level) left ≡ Some (index_tree left before)
  pub last : sound_tree image (suc level) right ≡ Some (index_tree right behind)
