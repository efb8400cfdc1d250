use Rattle.std.proofs.Common.{◌≡◌, ◌<◌, ℕ, min, take, drop}
use Rattle.gds_block.specs.Block.{head_bytes}
use Rattle.gds_bitmap.specs.Bitmap.{state_at, fresh_state}
use Rattle.gds_bitmap.proofs.bitmap.fresh.Given as goal

-- the map is fresh for the blocks so far
abbrev pub invariant-loop-k : goal.invariant-loop-k
invariant-loop-k l = record {
  head : take 16 l.out ≡ head_bytes 255 144 l.tn;
  states : (j : ℕ) → j < 512 → state_at l.out j ≡ fresh_state (min l.k l.present) j;
  behind : drop 144 l.out ≡ drop 144 l.fn.out;
}
