-- A set of blocks as bytes: block b is bit b mod 8 of byte b div 8.
use Rattle.std.specs.Prelude.{ℕ, zero, suc, ◌+◌, ◌/◌, ◌%◌, ◌==◌, Bool, List, slice_index, if◌then◌else◌}
use Rattle.std.specs.Int.{bit_at}

-- The block is in the set.
abbrev pub has_block : List ℕ → ℕ → Bool
has_block bytes block = bit_at (slice_index bytes (block / 8)) (block % 8) == 1

-- how many of the blocks below a number aren't
unfoldable pub free_below : List ℕ → ℕ → ℕ
free_below bytes zero = 0
free_below bytes (suc n) = free_below bytes n + (if has_block bytes n then 0 else 1)
