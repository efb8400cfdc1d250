-- What a memory source has left, and what a take gives of it.
use Rattle.std.specs.Prelude.{◌≡◌, ℕ, ◌+◌, min, ◌↔◌, List, ◌++◌, length, take, drop, Contains, Result, IsErr}
use Rattle.std.specs.Prelude.{MatchResult}
use Rattle.host_model.specs.Failures.{counted}

-- the bytes left, how many a take gives at most, the takes that are to fail, and the counts of takes and of failures
pub record Source : Type 0 where
  pub left : List ℕ
  pub piece : ℕ
  pub failing : List ℕ
  pub taken : ℕ
  pub failures : ℕ

-- one take more was made, which gave the next n bytes
abbrev pub given : Source → ℕ → Source
given source n = record source { left = drop n source.left; taken = counted source.taken }

-- one take more was made, which failed
abbrev pub refused : Source → Source
refused source = record source { taken = counted source.taken; failures = counted source.failures }

-- as many bytes as a take gives into a buffer
abbrev pub next_piece : Source → List ℕ → ℕ
next_piece source out = min source.piece (min (length out) (length source.left))

-- A take fails exactly where its number is listed. One that doesn't puts the next bytes at the buffer's front.
pub record Taken {E : Type 0} (result : Result ℕ E) (out_old out_new : List ℕ) (old new : Source) : Type 0 where
  pub fails : IsErr result ↔ Contains old.failing (old.taken + 1)
  pub cases : MatchResult result
      (λ n. (n ≡ next_piece old out_old) × (out_new ≡ take n old.left ++ drop n out_old) × (new ≡ given old n))
      (λ _. (out_new ≡ out_old) × (new ≡ refused old))
