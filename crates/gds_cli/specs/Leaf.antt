-- The nodes of a leaf, and how a record's bytes are split.
use Rattle.std.specs.Prelude.{ℕ, ◌≡◌, ◌<◌, ◌≤◌, ◌+◌, IsTrue, List, [], ◌++◌, length, sum_by}
use Rattle.std.specs.Ordering.{nat_cmp, is_lt}
use Rattle.std.specs.Cmp.Lexicographic.{slice_cmp}
use Rattle.m_key.specs.KeyEnd.{shared}
use Rattle.m_key.specs.Reference.{place_of}
use Rattle.gds_block.specs.Block.{used_of}
use Rattle.gds_block.specs.Record.{Record, full_of, records_of}
use Rattle.gds_header.specs.declared.header.Header.{Header}
use Rattle.gds_header.specs.Fields.{block_of}
use Rattle.gds_cli.specs.declared.thin.leaf.LeafNode.{LeafNode}
use Rattle.gds_cli.specs.Thin.{Valued, AreRecordsOf, IsLeaf}

-- a node without where its value lies in memory
abbrev pub valued : LeafNode → Valued
valued node = (place_of node.reference, node.value.now)

-- A record behind a key is of this key and value: its count is that of the leading bytes which the keys share, and its
-- key has no more bytes than there may be and is above the key before it.
pub record IsSplit (most : ℕ) (previous : List ℕ) (r : Record) (key value : List ℕ) : Type 0 where
  pub bytes : full_of previous r ≡ key ++ value
  pub exact : r.count ≡ shared previous key
  pub within : length key ≤ most
  pub above : IsTrue (is_lt (slice_cmp nat_cmp previous key))

-- the block's records are those of these nodes, and end at its used count
pub record IsListed (h : Header) (block : List ℕ) (vs : List Valued) : Type 0 where
  pub whole : 16 + sum_by (λ r. 4 + length r.body) (records_of block) ≡ used_of block
  pub records : AreRecordsOf h [] (records_of block) vs

-- a leaf of the file, by its number
pub record IsLeafAt (h : Header) (d : List ℕ) (number : ℕ) (vs : List Valued) : Type 0 where
  pub within : number < h.total
  pub leaf : IsLeaf h (block_of d number) vs
