-- Blocks that are written anew in their places.
use Rattle.std.specs.Prelude.{◌≡◌, ◌≢◌, ℕ, ◌%◌, false, IsTrue, List, length, take}
use Rattle.gds_header.specs.Fields.{block_of}
use Rattle.gds_file.specs.Maps.{has_block, is_busy}

-- Of a file these blocks may have got other bytes, and nothing else did.
pub record Rewrites (before after : List ℕ) (blocks : List ℕ) : Type 0 where
  pub len : length after ≡ length before
  pub front : take 8192 after ≡ take 8192 before
  pub others : (n : ℕ) → has_block blocks n ≡ false → block_of after n ≡ block_of before n

-- None of these blocks is a map.
abbrev pub AreNoMaps : List ℕ → Type 0
AreNoMaps blocks = (n : ℕ) → IsTrue (has_block blocks n) → n % 512 ≢ 0

-- The maps say of all these blocks that they are busy.
abbrev pub AreAllBusy : List ℕ → List ℕ → Type 0
AreAllBusy image blocks = (n : ℕ) → IsTrue (has_block blocks n) → IsTrue (is_busy image n)
