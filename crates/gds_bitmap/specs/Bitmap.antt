-- A local bitmap, over the list of its block's bytes.
use Rattle.std.specs.Prelude.{ℕ, ◌≡◌, ◌≢◌, ◌+◌, ◌/◌, ◌%◌, ◌<◌, Bool, IsTrue, ◌==◌, ◌&&◌, not, nat_lt, if◌then◌else◌}
use Rattle.std.specs.Prelude.{List, length, slice_index, take, drop}
use Rattle.gds_block.specs.Block.{head_bytes}
use Rattle.gds_bitmap.specs.declared.state.State.{State}
use Rattle.gds_bitmap.specs.declared.state.State.TheVariants.{Busy, New}
use Rattle.gds_bitmap.specs.State.{state_from, is_free}
use Rattle.gds_bitmap.specs.Pairs.{pair_in}

-- the pair of block k
abbrev pub pair_of : List ℕ → ℕ → ℕ
pair_of map k = pair_in (slice_index map (16 + k / 4)) (k % 4)

-- the state of block k
abbrev pub state_at : List ℕ → ℕ → State
state_at map k = state_from (pair_of map k)

abbrev pub is_free_at : List ℕ → ℕ → Bool
is_free_at map k = is_free (state_at map k)

-- no block below a number is free
abbrev pub NoneFree : List ℕ → ℕ → Type 0
NoneFree map n = (k : ℕ) → k < n → IsTrue (is_free_at map k) → ⊥

-- Block k is free, and below k none is.
pub record IsFirstFree (map : List ℕ) (k : ℕ) : Type 0 where
  pub free : IsTrue (is_free_at map k)
  pub first : NoneFree map k

-- Block k gets this state. Every other keeps its own, and every other byte stays.
pub record Marks (old new : List ℕ) (k : ℕ) (state : State) : Type 0 where
  pub marked : state_at new k ≡ state
  pub others : (j : ℕ) → j ≢ k → state_at new j ≡ state_at old j
  pub bytes : (i : ℕ) → i ≢ 16 + k / 4 → slice_index new i ≡ slice_index old i
  pub len : length new ≡ length old

-- in a fresh map the blocks that are present are new, but for the map itself
abbrev pub fresh_state : ℕ → ℕ → State
fresh_state present k = if not (k == 0) && nat_lt k present then New else Busy

-- a map of these states, whose head has this transaction number, and behind it what was there
pub record IsFresh (old new : List ℕ) (present tn : ℕ) : Type 0 where
  pub head : take 16 new ≡ head_bytes 255 144 tn
  pub states : (k : ℕ) → k < 512 → state_at new k ≡ fresh_state present k
  pub behind : drop 144 new ≡ drop 144 old
