-- Links: records with sound pointers that are still to be followed, each with the block that holds it.
use Rattle.std.specs.Prelude.{ℕ, List, [], ◌∷◌, ◌++◌, map}
use Rattle.gds_block.specs.Block.{level_of}
use Rattle.gds_header.specs.Fields.{block_of}
use Rattle.gds_law.specs.declared.fault.Fault.{Fault}
use Rattle.gds_law.specs.declared.kind.FaultKind.TheVariants.{DoublyAllocated}
use Rattle.gds_law.specs.Visit.{Visit, Child}
use Rattle.gds_law.specs.Path.{Steps, children_at}

-- the path to the block, its number and its level byte, and the record's offset and where it leads
pub record Link : Type 0 where
  pub path : Steps
  pub block : ℕ
  pub level : ℕ
  pub child : Child

-- the path that it leads on to
abbrev pub path_to : Link → Steps
path_to link = link.path ++ (link.block, link.child.offset) ∷ []

-- the links of a block with these children
abbrev pub links_of : Steps → ℕ → ℕ → List Child → List Link
links_of path block level children = map (λ c. record { path = path; block = block; level = level; child = c }) children

-- those of the block of a visit
abbrev pub links_at : List ℕ → Steps → Visit → List Link
links_at image path v = links_of path v.block (level_of (block_of image v.block)) (children_at image v)

-- the fault of a link to a block in which an earlier path ends
abbrev pub double_of : Link → Fault
double_of link = record {
  kind = DoublyAllocated;
  block = link.block;
  offset = link.child.offset;
  level = link.level;
  path = link.path;
}
