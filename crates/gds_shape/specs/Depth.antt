-- How deep a block of a file may be.
use Rattle.std.specs.Prelude.{◌≡◌, ℕ, ◌+◌, ◌-◌, ◌*◌, ◌<◌, ◌≤◌, Bool, not, IsTrue, List, [], length, take, None, Some}
use Rattle.std.specs.Prelude.{IfSome, bytes_eq, Contains, if◌then◌else◌}
use Rattle.std.specs.List.{list_any}
use Rattle.m_key.specs.Node.{Node}
use Rattle.m_key.specs.Key.{key_bytes}
use Rattle.m_key.specs.Globals.{Globals}
use Rattle.gds_block.specs.Block.{used_of}
use Rattle.gds_header.specs.Fields.{fields_of, block_of}
use Rattle.gds_law.specs.Visit.{Visit, TreeRole, directory, global}
use Rattle.gds_law.specs.Record.{is_below}
use Rattle.gds_law.specs.Path.{Steps, visit_at, AreKept}
use Rattle.gds_sound.specs.Stands.{StandsFor}
use Rattle.gds_sound.specs.Questions.{places_of}
use Rattle.gds_shape.specs.Shape.{level_at}

-- A block of level 0 is as deep as it may be: its root has level 7, and each index block from that root to it is so
-- full
-- that two more records with the longest keys wouldn't fit.
pub record IsDeepAt (image : List ℕ) (block : ℕ) : Type 0 where
  pub kept : List Steps
  pub are_kept : AreKept image kept
  pub path : Steps
  pub is_kept : Contains kept path
  pub visit : Visit
  pub leads : visit_at image path ≡ Some visit
  pub here : visit.block ≡ block
  pub leaf : level_at image visit ≡ 0
  pub root : Visit
  pub long : 7 ≤ length path
  pub from_root : visit_at image (take (length path - 7) path) ≡ Some root
  pub is_root : root.level ≡ None
  pub height : level_at image root ≡ 7
  pub full : (n : ℕ) (v : Visit) → length path - 7 ≤ n → n < length path → visit_at image (take n path) ≡ Some v →
      (fields_of image).block_size < used_of (block_of image v.block) + 2 * (8 + (fields_of image).key_max)

-- the bounds of a visit hold a key
abbrev pub HoldsKey : Visit → List ℕ → Type 0
HoldsKey v key =
    IfSome v.low (λ low. IsTrue (not (is_below key low))) × IfSome v.high (λ high. IsTrue (is_below key high))

-- Where a SET of the node would put its key: into the directory first where the map has no node of its name, and else
-- into
-- the global of that name.
abbrev pub has_name : Globals → List ℕ → Bool
has_name m name = list_any (λ p. bytes_eq p.node.name name) (places_of m)

abbrev pub target_role : Globals → Node → TreeRole
target_role m node = if has_name m node.name then global node.name else directory

abbrev pub target_key : Globals → Node → List ℕ
target_key m node =
    if has_name m node.name then key_bytes node else key_bytes (record { name = node.name; subscripts = [] })

-- The block in which that key belongs is as deep as it may be.
pub record IsDeep (image : List ℕ) (node : Node) : Type 0 where
  pub map : Globals
  pub stands : StandsFor image map
  pub path : Steps
  pub is_kept : Contains stands.kept path
  pub visit : Visit
  pub leads : visit_at image path ≡ Some visit
  pub leaf : level_at image visit ≡ 0
  pub role : visit.role ≡ target_role map node
  pub holds : HoldsKey visit (target_key map node)
  pub deep : IsDeepAt image visit.block
