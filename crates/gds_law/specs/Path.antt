-- Paths: the records that lead from the directory's root to a block. Which paths are kept when a file is read, and in
-- which
-- order.
use Rattle.std.specs.Prelude.{◌≡◌, ℕ, ◌-◌, ◌<◌, ◌==◌, ◌⊎◌, ◌↔◌, List, [], ◌∷◌, length, take, Contains, Option, None}
use Rattle.std.specs.Prelude.{Some, find, option_map, option_and_then, if◌then◌else◌}
use Rattle.std.specs.List.Sorted.{IsStrictlySortedBy}
use Rattle.std.specs.Ordering.{nat_cmp, ordering_then}
use Rattle.std.specs.Cmp.Lexicographic.{slice_cmp}
use Rattle.std.specs.declared.cmp.Ordering.{Ordering}
use Rattle.std.specs.declared.cmp.Ordering.TheVariants.{Less}
use Rattle.gds_header.specs.Fields.{fields_of, block_of}
use Rattle.gds_law.specs.Visit.{Visit, Child, directory_root}
use Rattle.gds_law.specs.Block.{children_of}

-- block and offset of each record
abbrev pub Steps : Type 0
Steps = List (ℕ × ℕ)

-- the children of the block of a visit
unfoldable pub children_at : List ℕ → Visit → List Child
children_at image v = children_of (fields_of image) v (block_of image v.block)

-- where the record at an offset of that block leads, if it is read there and has a sound pointer
abbrev pub child_at : List ℕ → Visit → ℕ → Option Visit
child_at image v offset = option_map (λ c. c.visit) (find (λ c. c.offset == offset) (children_at image v))

-- where steps lead from a visit, if each of their records is read and has a sound pointer
abbrev pub visit_from : List ℕ → Visit → Steps → Option Visit
visit_from image v [] = Some v
visit_from image v ((block, offset) ∷ steps) =
    if block == v.block then option_and_then (λ w. visit_from image w steps) (child_at image v offset) else None

-- The empty path ends in the directory's root.
abbrev pub visit_at : List ℕ → Steps → Option Visit
visit_at image path = visit_from image directory_root path

-- Reading order compares the offsets from the front, and puts a path before its extensions. Two paths that begin
-- alike go
-- on in one block, so the blocks never decide.
abbrev pub step_cmp : ℕ × ℕ → ℕ × ℕ → Ordering
step_cmp a b = ordering_then (nat_cmp a.1 b.1) (nat_cmp a.0 b.0)

abbrev pub path_cmp : Steps → Steps → Ordering
path_cmp a b = slice_cmp step_cmp a b

-- the path without its last pair
abbrev pub front_of : Steps → Steps
front_of path = take (length path - 1) path

-- A path goes on from a kept one by a record that was read with a sound pointer, and leads there.
pub record ExtendsKept (image : List ℕ) (kept : List Steps) (path : Steps) (v : Visit) : Type 0 where
  pub longer : 0 < length path
  pub front : Contains kept (front_of path)
  pub leads : visit_at image path ≡ Some v

-- An earlier kept path ends in the block.
pub record IsTakenBefore (image : List ℕ) (kept : List Steps) (path : Steps) (block : ℕ) : Type 0 where
  pub earlier : Steps
  pub kept_too : Contains kept earlier
  pub before : path_cmp earlier path ≡ Less
  pub visit : Visit
  pub leads : visit_at image earlier ≡ Some visit
  pub same : visit.block ≡ block

-- A path is kept where it is empty, or goes on from a kept one to a block in which no earlier kept path ends.
abbrev pub IsKept : List ℕ → List Steps → Steps → Type 0
IsKept image kept path =
    (path ≡ []) ⊎ ((v : Visit) × ExtendsKept image kept path v × (IsTakenBefore image kept path v.block → ⊥))

-- the paths that are kept of an image, in reading order
pub record AreKept (image : List ℕ) (kept : List Steps) : Type 0 where
  pub in_order : IsStrictlySortedBy path_cmp kept
  pub exactly : (path : Steps) → Contains kept path ↔ IsKept image kept path

-- A path is reached where it is empty, or goes on from a kept one, whether it is kept or not.
abbrev pub IsReached : List ℕ → List Steps → Steps → Type 0
IsReached image kept path = (path ≡ []) ⊎ ((v : Visit) × ExtendsKept image kept path v)

-- the paths that are reached, in reading order
pub record AreReached (image : List ℕ) (kept reached : List Steps) : Type 0 where
  pub in_order : IsStrictlySortedBy path_cmp reached
  pub exactly : (path : Steps) → Contains reached path ↔ IsReached image kept path
