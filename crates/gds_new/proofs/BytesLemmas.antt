-- A new database is made of bytes.
use Rattle.std.proofs.Common.{ℕ, ◌+◌, ◌-◌, ◌*◌, ◌<◌, ◌++◌, List, [], ◌∷◌, map, flat_map, get_or, arith, lit<}
use Rattle.std.specs.List.{All, AllByRecursion, concat, range_with_len}
use Rattle.std.proofs.lemmas.List.Elements.{All-nil, All-append, All-map, All-replicate, All-from_recursion}
use Rattle.std.proofs.lemmas.List.Elements.{All-from_get_or}
use Rattle.gds_block.specs.Block.{head_bytes}
use Rattle.gds_block.specs.Fields.{u16_bytes, u32_bytes, u64_bytes}
use Rattle.gds_header.specs.declared.header.Header.{Header}
use Rattle.gds_header.specs.Fields.{label, zeros, header_bytes}
use Rattle.gds_new.specs.NewDatabase.{byte_of_states, first_state, byte_of_bits, group_starts_free, pairs_bytes}
use Rattle.gds_new.specs.NewDatabase.{first_master, new_header, new_map, new_root, new_leaf, new_block, new_database}
use Rattle.gds_new.proofs.PieceLemmas.{All-pieces}
use Rattle.gds_new.proofs.BlockLemmas.{each_block}
use Rattle.gds_new.proofs.BitLemmas.{byte_small, bits_small}

abbrev Bytes : List ℕ → Type 0
Bytes xs = All (λ b. b < 256) xs

both : (xs ys : List ℕ) → Bytes xs → Bytes ys → Bytes (xs ++ ys)
both xs ys a b = All-append (λ b. b < 256) xs ys a b

bytes_concat : (pieces : List (List ℕ)) → AllByRecursion Bytes pieces → Bytes (concat pieces)
bytes_concat [] all = All-nil (λ b. b < 256)
bytes_concat (piece ∷ pieces) all = both piece (concat pieces) all.0 (bytes_concat pieces all.1)

bytes_zeros : (n : ℕ) → Bytes (zeros n)
unfolding zeros
bytes_zeros n = All-replicate (λ b. b < 256) n 0 (lit< tt)

bytes_u16 : (n : ℕ) → Bytes (u16_bytes n)
unfolding u16_bytes
bytes_u16 n = All-from_recursion (λ b. b < 256) (u16_bytes n) (omega arith, (omega arith, tt))

bytes_u32 : (n : ℕ) → Bytes (u32_bytes n)
unfolding u32_bytes
bytes_u32 n =
    All-from_recursion (λ b. b < 256) (u32_bytes n) (omega arith, (omega arith, (omega arith, (omega arith, tt))))

bytes_u64 : (n : ℕ) → Bytes (u64_bytes n)
unfolding u64_bytes
bytes_u64 n =
    All-from_recursion (λ b. b < 256) (u64_bytes n) (
      omega arith,
      (
        omega arith,
        (
          omega arith,
          (
            omega arith,
            (omega arith, (omega arith, (omega arith, (omega arith, tt)))),
          ),
        ),
      ),
    )

bytes_label : Bytes label
bytes_label =
    All-from_recursion (λ b. b < 256) label
    (lit< tt, (lit< tt, (lit< tt, (lit< tt, (lit< tt, (lit< tt, (lit< tt, (lit< tt, tt))))))))

bytes_header : (h : Header) → Bytes h.master → Bytes (header_bytes h)
unfolding header_bytes
bytes_header h master =
    bytes_concat (label ∷ u32_bytes h.block_size ∷ u32_bytes h.total ∷ u32_bytes h.free ∷ u32_bytes h.extension
    ∷ u32_bytes h.limit ∷ u32_bytes h.key_max ∷ u32_bytes h.value_max ∷ zeros 4 ∷ u64_bytes h.tn ∷ zeros 4048
    ∷ h.master ∷ zeros 3840 ∷ []) (
      bytes_label,
      (
        bytes_u32 h.block_size,
        (
          bytes_u32 h.total,
          (
            bytes_u32 h.free,
            (
              bytes_u32 h.extension,
              (
                bytes_u32 h.limit,
                (
                  bytes_u32 h.key_max,
                  (
                    bytes_u32 h.value_max,
                    (
                      bytes_zeros 4,
                      (
                        bytes_u64 h.tn,
                        (bytes_zeros 4048, (master, (bytes_zeros 3840, tt))),
                      ),
                    ),
                  ),
                ),
              ),
            ),
          ),
        ),
      ),
    )

bytes_head : (level used tn : ℕ) → level < 256 → Bytes (head_bytes level used tn)
bytes_head level used tn low =
    both (u16_bytes 1 ++ 0 ∷ level ∷ [] ++ u32_bytes used) (u64_bytes tn)
    (both (u16_bytes 1 ++ 0 ∷ level ∷ []) (u32_bytes used)
    (both (u16_bytes 1) (0 ∷ level ∷ []) (bytes_u16 1)
    (All-from_recursion (λ b. b < 256) (0 ∷ level ∷ []) (lit< tt, (low, tt)))) (bytes_u32 used)) (bytes_u64 tn)

each_of_map : (f : ℕ → ℕ) (from n : ℕ) → ((k : ℕ) → f k < 256) → Bytes (map f (range_with_len from n))
each_of_map f from n each =
    All-map (λ b. b < 256) f (range_with_len from n)
    (All-from_get_or (λ k. f k < 256) (range_with_len from n) 0 (λ i low. each (get_or (range_with_len from n) i 0)))

module _ (h : Header) where
  bytes_master : Bytes (first_master h)
  unfolding first_master
  bytes_master =
      each_of_map (λ i. byte_of_bits (λ j. group_starts_free h (8 * i + j))) 0 256
      (λ i. bits_small (λ j. group_starts_free h (8 * i + j)))

  bytes_pairs : (group : ℕ) → Bytes (pairs_bytes h group)
  unfolding pairs_bytes
  bytes_pairs group =
      each_of_map (λ i. byte_of_states (λ j. first_state h (512 * group + (4 * i + j)))) 0 128
      (λ i. byte_small (λ j. first_state h (512 * group + (4 * i + j))))

  bytes_map : (group : ℕ) → Bytes (new_map h group)
  unfolding new_map
  bytes_map group =
      both (head_bytes 255 144 0 ++ pairs_bytes h group) (zeros (h.block_size - 144))
      (both (head_bytes 255 144 0) (pairs_bytes h group) (bytes_head 255 144 0 (lit< tt)) (bytes_pairs group))
      (bytes_zeros (h.block_size - 144))

  bytes_root : Bytes (new_root h)
  unfolding new_root
  bytes_root =
      both (head_bytes 1 24 0 ++ (u16_bytes 8 ++ u16_bytes 0 ++ u32_bytes 2)) (zeros (h.block_size - 24))
      (both (head_bytes 1 24 0) (u16_bytes 8 ++ u16_bytes 0 ++ u32_bytes 2) (bytes_head 1 24 0 (lit< tt))
      (both (u16_bytes 8 ++ u16_bytes 0) (u32_bytes 2) (both (u16_bytes 8) (u16_bytes 0) (bytes_u16 8) (bytes_u16 0))
      (bytes_u32 2)))
      (bytes_zeros (h.block_size - 24))

  bytes_leaf : Bytes (new_leaf h)
  unfolding new_leaf
  bytes_leaf = both _ _ (bytes_head _ 16 0 (lit< tt)) (bytes_zeros (h.block_size - 16))

  bytes_block : (n : ℕ) → Bytes (new_block h n)
  bytes_block = each_block Bytes h bytes_map bytes_root bytes_leaf (bytes_zeros h.block_size)

  bytes_new_header : Bytes (header_bytes (new_header h))
  unfolding new_header
  bytes_new_header = bytes_header (new_header h) bytes_master

  pub bytes_read : All (λ b. b < 256) (new_database h)
  unfolding new_database
  bytes_read =
      both (header_bytes (new_header h)) (flat_map (new_block h) (range_with_len 0 h.total)) bytes_new_header
      (All-pieces (λ b. b < 256) (new_block h) bytes_block 0 h.total)
