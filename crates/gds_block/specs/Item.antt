-- An entry of a block, without where its bytes lie in memory.
use Rattle.std.specs.Prelude.{ℕ, List}

-- the bytes of a key, and those that follow the key: a pointer or a value
pub record Item : Type 0 where
  pub key : List ℕ
  pub rest : List ℕ
