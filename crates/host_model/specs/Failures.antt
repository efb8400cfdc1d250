-- Counts of failures: when one rose, and how a clause says that an error has a cause.
use Rattle.std.specs.Prelude.{ℕ, ◌+◌, ◌-◌, ◌^◌, ◌≤◌, min}

-- A count stands still at the greatest number of 64 bits.
abbrev pub counted : ℕ → ℕ
counted n = min (n + 1) (2 ^ 64 - 1)

-- The count rose between two moments. One that stood at its end is taken as risen.
abbrev pub Rose : ℕ → ℕ → Type 0
Rose before now = counted before ≤ now

-- how often reads, writes and sayings have failed
pub record Failures : Type 0 where
  pub read : ℕ
  pub write : ℕ
  pub say : ℕ

-- none of the three counts fell
pub record NeverFell (before now : Failures) : Type 0 where
  pub read : before.read ≤ now.read
  pub write : before.write ≤ now.write
  pub say : before.say ≤ now.say

-- none of the counts rose
pub record NoneRose (before now : Failures) : Type 0 where
  pub read : Rose before.read now.read → ⊥
  pub write : Rose before.write now.write → ⊥
  pub say : Rose before.say now.say → ⊥
