-- A tree inside another: what the whole has before it and behind it.
use Rattle.std.specs.Prelude.{◌≡◌, ℕ, ◌+◌, ◌≤◌, List, length, Some}
use Rattle.gds_header.specs.Fields.{fields_of}
use Rattle.gds_law.specs.Visit.{Visit}
use Rattle.gds_law.specs.Path.{Steps}
use Rattle.gds_sound.specs.Sound.{Tree, joined, sound_tree}
use Rattle.gds_tree.specs.Keeps.{IsImage, KeepsSizes, KeepsBlocks}

-- a tree with what stands before it and behind it
abbrev pub around : Tree → Tree → Tree → Tree
around before inner behind = joined (joined before inner) behind

-- In an image that keeps the sizes of another and these blocks of it, and has no smaller total, any sound tree of a
-- level
-- at the visit w makes one at the visit v of so many levels more, with what stands before it and behind it.
abbrev pub Exchanges : List ℕ → Visit → ℕ → Visit → ℕ → Tree → Tree → Type 0
Exchanges old v more w level before behind =
    (new : List ℕ) → IsImage new → KeepsSizes old new → (fields_of old).total ≤ (fields_of new).total
    → KeepsBlocks old new before.blocks → KeepsBlocks old new behind.blocks
    → (inner : Tree) → sound_tree new level w ≡ Some inner
    → sound_tree new (more + level) v ≡ Some (around before inner behind)

-- A path leads from a visit to another within one tree, which has one role: what the whole has before and behind the
-- tree there, so that another tree may stand in its place.
pub record IsAround (image : List ℕ) (v : Visit) (path : Steps) (w : Visit) (height : ℕ) (t : Tree) : Type 0 where
  pub before : Tree
  pub inner : Tree
  pub behind : Tree
  pub role : w.role ≡ v.role
  pub sound : sound_tree image height w ≡ Some inner
  pub whole : t ≡ around before inner behind
  pub exchanges : Exchanges image v (length path) w height before behind
