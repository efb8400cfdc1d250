-- Thin files: the directory is a single leaf, and so is each global. Which pairs of files are thin, and the globals
-- that
-- they stand for.
use Rattle.std.specs.Prelude.{ℕ, ◌≡◌, ◌≤◌, ◌<◌, ◌+◌, ◌%◌, Bool, ◌&&◌, ◌==◌, nat_eq, nat_lt, not, IsTrue, List, [], ◌∷◌}
use Rattle.std.specs.Prelude.{◌++◌, length, sum_by, flat_map, codes}
use Rattle.std.specs.List.{starts_with, AllByRecursion, AllZip, IsDistinct}
use Rattle.std.specs.Ordering.{nat_cmp, is_lt}
use Rattle.std.specs.Cmp.Lexicographic.{slice_cmp}
use Rattle.std.specs.FinMap.{entries}
use Rattle.m_key.specs.Key.{key_bytes}
use Rattle.m_key.specs.KeyEnd.{shared}
use Rattle.m_key.specs.Globals.{Globals, Place}
use Rattle.gds_block.specs.Fields.{u16_at, u32_at}
use Rattle.gds_block.specs.Block.{IsBlock, version_of, reserved_of, level_of, used_of}
use Rattle.gds_block.specs.Record.{Record, full_of, records_of}
use Rattle.gds_header.specs.declared.header.Header.{Header}
use Rattle.gds_header.specs.Fields.{fields_of, block_of}
use Rattle.gds_header.specs.Kinds.{header_faults}

-- a node that there is, and its value
abbrev pub Valued : Type 0
Valued = Place × List ℕ

-- a number that names a block which is no map
abbrev pub is_block_number : Header → ℕ → Bool
is_block_number h n = nat_lt 0 n && nat_lt n h.total && not (n % 512 == 0)

-- A star block: of version 1, reserved byte 0 and level 1, with one star record, whose pointer is such a number.
abbrev pub star_child : List ℕ → ℕ
star_child block = u32_at block 20

abbrev pub is_star_block : Header → List ℕ → Bool
is_star_block h block =
    (version_of block == 1) && (reserved_of block == 0) && (level_of block == 1) && (used_of block == 24)
    && (u16_at block 16 == 8) && (u16_at block 18 == 0) && is_block_number h (star_child block)

-- A record behind a key is that of a node and its value: its count is that of the leading bytes which the keys share,
-- and its key has no more bytes than the header allows and is above the key before it.
pub record IsRecordOf (h : Header) (previous : List ℕ) (r : Record) (v : Valued) : Type 0 where
  pub bytes : full_of previous r ≡ key_bytes v.0.node ++ v.1
  pub exact : r.count ≡ shared previous (key_bytes v.0.node)
  pub within : length (key_bytes v.0.node) ≤ h.key_max
  pub above : IsTrue (is_lt (slice_cmp nat_cmp previous (key_bytes v.0.node)))

-- the records, one after another behind a key, are those of these nodes
abbrev pub AreRecordsOf : Header → List ℕ → List Record → List Valued → Type 0
AreRecordsOf h previous [] [] = Unit {0}
AreRecordsOf h previous [] (v ∷ vs) = ⊥
AreRecordsOf h previous (r ∷ rs) [] = ⊥
AreRecordsOf h previous (r ∷ rs) (v ∷ vs) = IsRecordOf h previous r v × AreRecordsOf h (key_bytes v.0.node) rs vs

-- A leaf with these nodes: of version 1, reserved byte 0 and level 0, with a used count within the block at which its
-- well-sized records end.
pub record IsLeaf (h : Header) (block : List ℕ) (vs : List Valued) : Type 0 where
  pub version : version_of block ≡ 1
  pub reserved : reserved_of block ≡ 0
  pub level : level_of block ≡ 0
  pub sized : IsBlock block
  pub whole : 16 + sum_by (λ r. 4 + length r.body) (records_of block) ≡ used_of block
  pub records : AreRecordsOf h [] (records_of block) vs

-- the root that a name's entry in the directory points to, and the leaf below it
abbrev pub root_of : Valued → ℕ
root_of entry = u32_at entry.1 0

abbrev pub leaf_of : List ℕ → Valued → ℕ
leaf_of d entry = star_child (block_of d (root_of entry))

-- An entry of the directory is a name, and leads by a star block to a leaf with these nodes, of which there is one or
-- more. They have that name, and no value is longer than the header allows.
pub record IsGlobal (d : List ℕ) (entry : Valued) (vs : List Valued) : Type 0 where
  pub name : entry.0.node.subscripts ≡ []
  pub pointer : length entry.1 ≡ 4
  pub root : IsTrue (is_block_number (fields_of d) (root_of entry))
  pub star : IsTrue (is_star_block (fields_of d) (block_of d (root_of entry)))
  pub leaf : IsLeaf (fields_of d) (block_of d (leaf_of d entry)) vs
  pub some : 0 < length vs
  pub named : AllByRecursion (λ v. v.0.node.name ≡ entry.0.node.name) vs
  pub short : AllByRecursion (λ v. length v.1 ≤ (fields_of d).value_max) vs

-- the blocks of a thin file that are no maps
abbrev pub blocks_of : List ℕ → List Valued → List ℕ
blocks_of d directory =
    1 ∷ star_child (block_of d 1) ∷ flat_map (λ entry. root_of entry ∷ leaf_of d entry ∷ []) directory

-- The two files are thin, with this directory and each global's nodes: the header has no fault, the file of images is
-- closed, and no block has two uses.
pub record IsThin (d b : List ℕ) (directory : List Valued) (globals : List (List Valued)) : Type 0 where
  pub sound : header_faults d ≡ []
  pub closed : IsTrue (starts_with nat_eq b (codes "GDSBIMG1" ++ 0 ∷ []))
  pub star : IsTrue (is_star_block (fields_of d) (block_of d 1))
  pub leaf : IsLeaf (fields_of d) (block_of d (star_child (block_of d 1))) directory
  pub each : AllZip (IsGlobal d) directory globals
  pub distinct : IsDistinct nat_eq (blocks_of d directory)

-- the two files are thin and stand for this map, whose pairs are the nodes of the globals' leaves
pub record IsThinWith (d b : List ℕ) (m : Globals) : Type 0 where
  pub directory : List Valued
  pub globals : List (List Valued)
  pub thin : IsThin d b directory globals
  pub pairs : entries m ≡ flat_map (λ vs. vs) globals
