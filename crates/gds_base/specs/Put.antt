-- A block that gets other bytes.
use Rattle.std.specs.Prelude.{◌≡◌, ℕ, List, [], ◌∷◌}
use Rattle.gds_header.specs.Fields.{block_of}
use Rattle.gds_file.specs.Rewrite.{Rewrites}

-- The block has these bytes, and nothing else is another.
pub record PutsBlock (before after : List ℕ) (n : ℕ) (bytes : List ℕ) : Type 0 where
  pub rewrites : Rewrites before after (n ∷ [])
  pub bytes_are : block_of after n ≡ bytes
