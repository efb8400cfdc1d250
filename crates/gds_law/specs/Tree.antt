-- The faults of the trees of a file, in reading order.
use Rattle.std.specs.Prelude.{ℕ, ◌-◌, ◌==◌, Bool, true, false, ◌&&◌, List, [], ◌∷◌, length, drop, flat_map}
use Rattle.std.specs.Prelude.{if◌then◌else◌}
use Rattle.std.specs.List.{list_any}
use Rattle.std.specs.Option.{option_map_or}
use Rattle.gds_block.specs.Block.{level_of}
use Rattle.gds_header.specs.Fields.{fields_of, block_of}
use Rattle.gds_law.specs.declared.fault.Fault.{Fault}
use Rattle.gds_law.specs.Block.{faults_of_block}
use Rattle.gds_law.specs.Path.{Steps, visit_at, front_of}
use Rattle.gds_law.specs.declared.kind.FaultKind.TheVariants.{DoublyAllocated}

-- whether two paths are the same, and whether one is among others
abbrev pub same_steps : Steps → Steps → Bool
same_steps [] [] = true
same_steps [] (b ∷ bs) = false
same_steps (a ∷ as_) [] = false
same_steps (a ∷ as_) (b ∷ bs) = (a.0 == b.0) && (a.1 == b.1) && same_steps as_ bs

abbrev pub is_among : List Steps → Steps → Bool
is_among paths path = list_any (same_steps path) paths

-- the fault of a reached path that isn't kept, which stands at the path's last record
abbrev pub double_at : List ℕ → Steps → (ℕ × ℕ) → Fault
double_at image path (block, offset) =
    record {
      kind = DoublyAllocated;
      block = block;
      offset = offset;
      level = level_of (block_of image block);
      path =
          front_of path;
    }

abbrev pub double_faults : List ℕ → Steps → List (ℕ × ℕ) → List Fault
double_faults image path [] = []
double_faults image path (step ∷ steps) = double_at image path step ∷ []

-- the faults that stand where a path would in reading order: those of its block where it is kept, and else that its
-- last
-- record points to a block in which an earlier path ends
abbrev pub faults_at : List ℕ → List Steps → Steps → List Fault
faults_at image kept path =
    if is_among kept path
    then option_map_or (λ v. faults_of_block (fields_of image) path v (block_of image v.block)) (visit_at image path) []
    else double_faults image path (drop (length path - 1) path)

-- the faults of the trees
unfoldable pub tree_faults : List ℕ → List Steps → List Steps → List Fault
tree_faults image kept reached = flat_map (faults_at image kept) reached

-- A kept path ends in the block.
abbrev pub ends_in : List ℕ → ℕ → Steps → Bool
ends_in image block path = option_map_or (λ v. v.block == block) (visit_at image path) false

abbrev pub is_reached : List ℕ → List Steps → ℕ → Bool
is_reached image kept block = list_any (ends_in image block) kept
