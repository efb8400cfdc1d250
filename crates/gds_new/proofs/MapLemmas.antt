-- The maps of a new database say of each block its first state, and that is right where blocks 1 and 2 are in use.
use Rattle.std.proofs.Common.{◌≡◌, ℕ, ◌+◌, ◌-◌, ◌*◌, ◌<◌, ◌/◌, ◌%◌, Bool, true, false}
use Rattle.std.proofs.Common.{[], ◌∷◌, ◌++◌, if◌then◌else◌, length, length-append, get_or, refl, ap, ◌∙◌, arith}
use Rattle.std.specs.Prelude.{IsTrue, nat_lt}
use Rattle.std.proofs.lemmas.List.{get_or-append_right, get_or_append_left}
use Rattle.std.proofs.lemmas.List.FromFn.{get_or-map-range_with_len}
use Rattle.gds_block.specs.Block.{head_bytes}
use Rattle.gds_block.proofs.HeadLemmas.{length-head_bytes}
use Rattle.gds_bitmap.specs.declared.state.State.TheVariants.{Busy, New}
use Rattle.gds_bitmap.specs.State.{code_of, state_from, is_free}
use Rattle.gds_bitmap.specs.Pairs.{pair_in}
use Rattle.gds_bitmap.specs.Bitmap.{pair_of}
use Rattle.gds_header.specs.declared.header.Header.{Header}
use Rattle.gds_header.specs.Fields.{zeros}
use Rattle.gds_sound.specs.Sound.{is_in_use}
use Rattle.gds_new.specs.NewDatabase.{starts_free, first_state, byte_of_states, pairs_bytes, new_map}
use Rattle.gds_new.proofs.BlockLemmas.{length-pairs_bytes}
use Rattle.gds_new.proofs.FreeLemmas.{used_is_busy, unused_is_free, past_is_busy}
use Rattle.gds_new.proofs.BitLemmas.{pair_in-states}

module _ (h : Header) (group k : ℕ) (low : k < 512) where
  abbrev states : ℕ → ℕ
  states i = byte_of_states (λ j. first_state h (512 * group + (4 * i + j)))

  pair_byte : get_or (pairs_bytes h group) (k / 4) 0 ≡ states (k / 4)
  unfolding pairs_bytes
  pair_byte = get_or-map-range_with_len states 0 128 (k / 4) (k / 4) 0 (omega arith) (omega arith)

  map_byte : get_or (new_map h group) (16 + k / 4) 0 ≡ states (k / 4)
  unfolding new_map
  map_byte =
      let head : length (head_bytes 255 144 0) ≡ 16 = length-head_bytes 255 144 0 in
      let pairs = length-pairs_bytes h group in
      let within : 16 + k / 4 < length (head_bytes 255 144 0 ++ pairs_bytes h group) =
      omega (arith, length-append (head_bytes 255 144 0) (pairs_bytes h group), head, pairs) in
      let place : 16 + k / 4 - 16 ≡ k / 4 = omega arith in
      get_or_append_left (head_bytes 255 144 0 ++ pairs_bytes h group) (zeros (h.block_size - 144)) 0 (16 + k / 4)
      within
      ∙ get_or-append_right (head_bytes 255 144 0) (pairs_bytes h group) 16 (16 + k / 4) 0 head (omega arith)
      ∙ ap (λ i. get_or (pairs_bytes h group) i 0) place ∙ pair_byte

  pub pair_of-new_map : pair_of (new_map h group) k ≡ code_of (first_state h (512 * group + k))
  pair_of-new_map =
      let place : 512 * group + (4 * (k / 4) + k % 4) ≡ 512 * group + k = omega arith in
      ap (λ b. pair_in b (k % 4)) map_byte
      ∙ pair_in-states (λ j. first_state h (512 * group + (4 * (k / 4) + j))) (k % 4) (omega arith)
      ∙ ap (λ n. code_of (first_state h n)) place

-- ---- that is right

module _ (h : Header) (n : ℕ) where
  pub busy_code : IsTrue (is_in_use (1 ∷ 2 ∷ []) n) → code_of (first_state h n) ≡ 0
  busy_code used =
      ap (λ b. code_of (if b then New else Busy)) (used_is_busy h n used)

  pub free_code : nat_lt n h.total ≡ true → is_in_use (1 ∷ 2 ∷ []) n ≡ false
      → IsTrue (is_free (state_from (code_of (first_state h n))))
  free_code present unused =
      ap (λ b. is_free (state_from (code_of (if b then New else Busy)))) (unused_is_free h n present unused)

  pub past_code : nat_lt n h.total ≡ false → code_of (first_state h n) ≡ 0
  past_code past =
      ap (λ b. code_of (if b then New else Busy)) (past_is_busy h n past)

  pub state_is_free : is_free (state_from (code_of (first_state h n))) ≡ starts_free h n
  state_is_free = by (starts_free h n)
    where
      by : (b : Bool) → is_free (state_from (code_of (if b then New else Busy))) ≡ b
      by true = refl
      by false = refl
