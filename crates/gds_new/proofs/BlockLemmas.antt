-- The blocks of a new database: each is as long as the header says.
use Rattle.std.proofs.Common.{◌≡◌, ℕ, ◌+◌, ◌-◌, ◌*◌, ◌≤◌, ◌==◌, ◌/◌, ◌%◌, List, ◌++◌}
use Rattle.std.proofs.Common.{length, length-append, refl, arith}
use Rattle.std.proofs.lemmas.Bool.{cond_both}
use Rattle.std.proofs.lemmas.List.FromFn.{length-map-range_with_len}
use Rattle.gds_block.specs.Block.{head_bytes}
use Rattle.gds_block.specs.Fields.{u16_bytes, u32_bytes, u64_bytes}
use Rattle.gds_block.proofs.HeadLemmas.{length-head_bytes}
use Rattle.gds_header.specs.declared.header.Header.{Header}
use Rattle.gds_header.specs.Fields.{zeros}
use Rattle.gds_new.specs.NewDatabase.{byte_of_states, first_state, pairs_bytes, new_map, new_root, new_leaf, new_block}
use Rattle.gds_new.proofs.HeaderLemmas.{length-zeros}

-- what holds of each kind of block holds of each block
pub each_block : (P : List ℕ → Type 0) (h : Header) → ((group : ℕ) → P (new_map h group)) → P (new_root h)
    → P (new_leaf h) → P (zeros h.block_size) → (n : ℕ) → P (new_block h n)
unfolding new_block
each_block P h maps root leaf zero n =
    cond_both (n % 512 == 0) _ _ P (λ _. maps (n / 512))
    (λ _. cond_both (n == 1) _ _ P (λ _. root) (λ _. cond_both (n == 2) _ _ P (λ _. leaf) (λ _. zero)))

pub length-pairs_bytes : (h : Header) (group : ℕ) → length (pairs_bytes h group) ≡ 128
unfolding pairs_bytes
length-pairs_bytes h group =
    length-map-range_with_len (λ i. byte_of_states (λ j. first_state h (512 * group + (4 * i + j)))) 0 128

-- what is used of a block, and zeros behind it
filled : (used : List ℕ) (n size : ℕ) → length used ≡ n → n ≤ size → length (used ++ zeros (size - n)) ≡ size
filled used n size long fits = omega (arith, length-append used (zeros (size - n)), long, length-zeros (size - n))

module _ (h : Header) (room : 144 ≤ h.block_size) where
  length-new_map : (group : ℕ) → length (new_map h group) ≡ h.block_size
  unfolding new_map
  length-new_map group =
      filled (head_bytes 255 144 0 ++ pairs_bytes h group) 144 h.block_size
      (omega (
        arith,
        length-append (head_bytes 255 144 0) (pairs_bytes h group),
        length-head_bytes 255 144 0,
        length-pairs_bytes h group,
      ))
      room

  length-new_root : length (new_root h) ≡ h.block_size
  unfolding new_root u16_bytes u32_bytes u64_bytes
  length-new_root =
      filled (head_bytes 1 24 0 ++ (u16_bytes 8 ++ u16_bytes 0 ++ u32_bytes 2)) 24 h.block_size refl (omega arith)

  length-new_leaf : length (new_leaf h) ≡ h.block_size
  unfolding new_leaf
  length-new_leaf = filled _ 16 h.block_size (length-head_bytes _ _ _) (omega arith)

  pub length-new_block : (n : ℕ) → length (new_block h n) ≡ h.block_size
  length-new_block =
      each_block (λ block. length block ≡ h.block_size) h length-new_map length-new_root length-new_leaf
      (length-zeros h.block_size)
