-- How a key is written piece by piece.
use Rattle.std.specs.Prelude.{◌≡◌, ℕ, ◌+◌, ◌-◌, ◌^◌, List, ◌++◌, length, take, min}
use Rattle.m_key.specs.declared.key.Written.{Written}

-- New is old with these bytes behind it: as many of them as fit, and all of them counted.
pub record Appends (old new : Written) (bytes : List ℕ) : Type 0 where
  pub front : new.front.items ≡ take 255 (old.front.items ++ bytes)
  pub len : new.len ≡ min (old.len + length bytes) (2 ^ 64 - 1)
