-- Where a SET finds no room in a tree.
use Rattle.std.specs.Prelude.{◌⊎◌, ℕ, Contains, List, None}
use Rattle.gds_insert.specs.SetIn.{IsDeepFor}
use Rattle.gds_law.specs.Visit.{directory_root}
use Rattle.gds_sound.specs.Sound.{Tree, root_of}
use Rattle.m_key.specs.Key.{key_bytes}
use Rattle.m_key.specs.Node.{Node}
use Rattle.gds_globals.specs.Node.{IsRootOf, name_key}

-- The leaf to which a node's item belongs is as deep as it may be: that in the tree of its global, or where the
-- directory has no entry of its name, the directory's leaf to which that entry belongs.
pub record IsDeepInGlobal (file : List ℕ) (directory : Tree) (node : Node) : Type 0 where
  pub rest : List ℕ
  pub there : Contains directory.items (record { key = name_key node.name; rest = rest })
  pub deep : IsDeepFor file (root_of (record { key = name_key node.name; rest = rest })) (key_bytes node)

pub record IsDeepInDirectory (file : List ℕ) (directory : Tree) (node : Node) : Type 0 where
  pub none : IsRootOf directory.items (name_key node.name) None
  pub deep : IsDeepFor file directory_root (name_key node.name)

abbrev pub IsDeepForNode : List ℕ → Tree → Node → Type 0
IsDeepForNode file directory node = IsDeepInGlobal file directory node ⊎ IsDeepInDirectory file directory node
