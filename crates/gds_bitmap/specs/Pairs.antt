-- The four pairs of a byte, and counts of numbers below a bound.
use Rattle.std.specs.Prelude.{ℕ, suc, zero, ◌+◌, ◌*◌, ◌/◌, ◌%◌, ◌^◌, ◌<◌, Bool, IsTrue, if◌then◌else◌}
use Rattle.gds_bitmap.specs.State.{state_from, is_free}

-- the pair in bits 2 * j and 2 * j + 1
abbrev pub pair_in : ℕ → ℕ → ℕ
pair_in byte j = byte / 2 ^ (2 * j) % 4

abbrev pub is_free_in : ℕ → ℕ → Bool
is_free_in byte j = is_free (state_from (pair_in byte j))

-- no pair below a number is free
abbrev pub NoneFreeIn : ℕ → ℕ → Type 0
NoneFreeIn byte n = (j : ℕ) → j < n → IsTrue (is_free_in byte j) → ⊥

-- Pair j is free, and below it none is.
pub record IsFirstFreeIn (byte j : ℕ) : Type 0 where
  pub within : j < 4
  pub free : IsTrue (is_free_in byte j)
  pub first : NoneFreeIn byte j

-- how many numbers below a bound pass a test
abbrev pub count_below : (ℕ → Bool) → ℕ → ℕ
count_below p zero = 0
count_below p (suc n) = count_below p n + (if p n then 1 else 0)
