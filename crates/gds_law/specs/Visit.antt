-- Where a path leads: a block, and what is due there.
use Rattle.std.specs.Prelude.{ℕ, List, Option, None, option_map}
use Rattle.gds_law.specs.declared.role.Role.{Role}
use Rattle.gds_law.specs.declared.role.Role.TheVariants as variant
use Rattle.gds_law.specs.declared.visit.Visit as code

-- the directory, or a global by its name
pub data TreeRole : Type 0 where
  directory : TreeRole
  global : List ℕ → TreeRole

-- The block, the tree that it belongs to, the level that it must have, which is none for a root, and the bounds of its
-- keys: the lower one is allowed at level 0, the upper one isn't.
pub record Visit : Type 0 where
  pub block : ℕ
  pub role : TreeRole
  pub level : Option ℕ
  pub low : Option (List ℕ)
  pub high : Option (List ℕ)

-- the directory's root, where the empty path ends
abbrev pub directory_root : Visit
directory_root = record { block = 1; role = directory; level = None; low = None; high = None }

-- a global's root
abbrev pub global_root : ℕ → List ℕ → Visit
global_root block name = record { block = block; role = global name; level = None; low = None; high = None }

-- a record whose pointer is sound, by its offset, and where the pointer leads
pub record Child : Type 0 where
  pub offset : ℕ
  pub visit : Visit

-- what contracts see of a role and of a visit
abbrev pub role_of : Role → TreeRole
role_of variant.Directory = directory
role_of (variant.Global name) = global name.items

abbrev pub visit_of : code.Visit → Visit
visit_of v = record {
  block = v.block;
  role = role_of v.role;
  level = v.level;
  low = option_map (λ key. key.items) v.low;
  high = option_map (λ key. key.items) v.high;
}
