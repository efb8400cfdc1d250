-- The directory of thin files, and the trees that it leads to.
use Rattle.std.specs.Prelude.{ℕ, ◌≡◌, ◌<◌, ◌≤◌, nat_eq, IsTrue, List, [], ◌∷◌, length, map, flat_map}
use Rattle.std.specs.List.{AllByRecursion, AllZip, IsDistinct}
use Rattle.gds_header.specs.declared.header.Header.{Header}
use Rattle.gds_header.specs.Fields.{fields_of, block_of}
use Rattle.gds_cli.specs.SoundHeader.{IsHeaderOf}
use Rattle.gds_cli.specs.Thin.{Valued, is_block_number, is_star_block, star_child, IsLeaf, IsGlobal, IsThin, root_of}
use Rattle.gds_cli.specs.Thin.{leaf_of, blocks_of}
use Rattle.gds_cli.specs.declared.thin.directory.ThinTree.{ThinTree}

-- the block is a star block, and these are the number and the bytes of the block that it leads to
pub record LeadsTo (h : Header) (d : List ℕ) (number child : ℕ) (block : List ℕ) : Type 0 where
  pub star : IsTrue (is_star_block h (block_of d number))
  pub number_is : child ≡ star_child (block_of d number)
  pub bytes : block ≡ block_of d child

-- an entry of the directory: a name, and the number of a block that may be its root
pub record IsEntry (h : Header) (entry : Valued) : Type 0 where
  pub name : entry.0.node.subscripts ≡ []
  pub pointer : length entry.1 ≡ 4
  pub root : IsTrue (is_block_number h (root_of entry))

-- a node of a global of this name, with a value that isn't too long
pub record IsNodeOf (h : Header) (name : List ℕ) (v : Valued) : Type 0 where
  pub named : v.0.node.name ≡ name
  pub short : length v.1 ≤ h.value_max

-- the nodes of a global's leaf, of which there is one or more
pub record AreNodesOf (h : Header) (name : List ℕ) (vs : List Valued) : Type 0 where
  pub some : 0 < length vs
  pub each : AllByRecursion (IsNodeOf h name) vs

-- the blocks of the global that an entry of the directory leads to
abbrev pub thin_tree_at : List ℕ → Valued → ThinTree
thin_tree_at d entry = record { root = root_of entry; leaf = leaf_of d entry }

-- these entries lead to globals, whose blocks these are
pub record AreTrees (d : List ℕ) (entries : List Valued) (trees : List ThinTree) : Type 0 where
  pub globals : List (List Valued)
  pub each : AllZip (IsGlobal d) entries globals
  pub blocks : trees ≡ map (thin_tree_at d) entries

abbrev pub blocks_in : ℕ → List ThinTree → List ℕ
blocks_in directory trees = 1 ∷ directory ∷ flat_map (λ t. t.root ∷ t.leaf ∷ []) trees

-- the blocks of a file lead to leaves, and these are the numbers of those of the globals
pub record AreLeaves (d : List ℕ) (leaves : List ℕ) : Type 0 where
  pub directory : List Valued
  pub globals : List (List Valued)
  pub star : IsTrue (is_star_block (fields_of d) (block_of d 1))
  pub leaf : IsLeaf (fields_of d) (block_of d (star_child (block_of d 1))) directory
  pub each : AllZip (IsGlobal d) directory globals
  pub distinct : IsDistinct nat_eq (blocks_of d directory)
  pub numbers : leaves ≡ map (leaf_of d) directory

-- the files are thin, with this header and these leaves
pub record FindsThin (d b : List ℕ) (h : Header) (leaves : List ℕ) : Type 0 where
  pub directory : List Valued
  pub globals : List (List Valued)
  pub header : IsHeaderOf h d
  pub thin : IsThin d b directory globals
  pub numbers : leaves ≡ map (leaf_of d) directory
