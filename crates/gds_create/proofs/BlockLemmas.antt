-- The bytes of a new database's blocks, as they are put into memory.
use Rattle.std.proofs.Common.{◌≡◌, ℕ, zero, suc, ◌+◌, ◌-◌, ◌*◌, ◌/◌, ◌%◌, ◌<◌, ◌≤◌, List, [], ◌∷◌, ◌++◌, length, take}
use Rattle.std.proofs.Common.{drop}
use Rattle.std.proofs.Common.{replicate, refl, sym, ap, ◌∙◌, arith, map, slice_set, flat_map, append-nil}
use Rattle.std.specs.Prelude.{◌==◌, true, false}
use Rattle.std.specs.List.{range_with_len}
use Rattle.std.proofs.Math.Nat.{mul-le-mul_right}
use Rattle.std.proofs.lemmas.Bool.{ne_eqb}
use Rattle.std.proofs.lemmas.Bool.Decides.{nat_tests}
use Rattle.std.proofs.lemmas.Grind.{flat_map-append}
use Rattle.std.proofs.lemmas.List.{append_assoc, drop-drop, drop-replicate, take_all, take_more_set}
use Rattle.std.proofs.lemmas.List.FromFn.{length-map-range_with_len, map-range_with_len_more}
use Rattle.std.proofs.lemmas.Slice.{take-put_mid}
use borrow.Rule.Slice.PartMut.{put_mid}
use Rattle.gds_block.specs.Block.{head_bytes}
use Rattle.gds_block.specs.Fields.{u16_bytes, u32_bytes, with_bytes}
use Rattle.gds_block.proofs.HeadLemmas.{drop-head_bytes, take-head_bytes}
use Rattle.gds_bitmap.specs.declared.state.State.{State}
use Rattle.gds_header.specs.declared.header.Header.{Header}
use Rattle.gds_header.specs.Fields.{zeros}
use Rattle.gds_header.specs.Kinds.{groups_of}
use Rattle.gds_header.proofs.WritingLemmas.{zeros-replicate}
use Rattle.gds_new.specs.NewDatabase.{byte_of_bits, byte_of_states, first_master, first_state, group_starts_free}
use Rattle.gds_new.specs.NewDatabase.{new_block, new_header, new_leaf, new_map, new_root, pairs_bytes}
use Rattle.gds_new.proofs.BlockLemmas.{length-pairs_bytes}
use Rattle.gds_create.specs.Blocks.{new_blocks}

-- one byte more of a list of bytes by their places
pub filled_more : (f : ℕ → ℕ) (xs : List ℕ) (i b : ℕ) → i < length xs → b ≡ f i
    → take i xs ≡ map f (range_with_len 0 i) → take (i + 1) (slice_set xs i b) ≡ map f (range_with_len 0 (i + 1))
filled_more f xs i b lt is before =
    take_more_set xs i b lt ∙ ap (λ ys. ys ++ b ∷ []) before ∙ ap (λ y. map f (range_with_len 0 i) ++ y ∷ []) is
    ∙ sym (map-range_with_len_more f 0 i i (omega arith))

-- what is left of a block of zeros behind its first bytes
pub rest_zeros : (n size : ℕ) (out : List ℕ) → out ≡ replicate size 0 → drop n out ≡ zeros (size - n)
rest_zeros n size out are =
    zeros-replicate (drop n out) (size - n) (size - n) (ap (drop n) are ∙ drop-replicate n size 0) refl

-- a piece that is put behind the head, in a block of zeros
pub put_behind_head : (level used size m n : ℕ) (out headed new piece : List ℕ) → out ≡ replicate size 0
    → headed ≡ head_bytes level used 0 ++ drop 16 out → length piece ≡ m → n ≡ 16 + m
    → new ≡ with_bytes headed 16 piece → new ≡ head_bytes level used 0 ++ piece ++ zeros (size - n)
put_behind_head level used size m n out headed new piece are head long ends put =
    let front : take 16 headed ≡ head_bytes level used 0 =
    ap (take 16) head ∙ take-head_bytes level used 0 (drop 16 out) in
    let behind : drop 16 headed ≡ drop 16 out = ap (drop 16) head ∙ drop-head_bytes level used 0 (drop 16 out) in
    let rest : drop (16 + length piece) headed ≡ zeros (size - n) =
    sym (drop-drop (length piece) 16 headed) ∙ ap (drop (length piece)) behind ∙ drop-drop (length piece) 16 out
    ∙ ap (λ k. drop k out) (omega (arith, long, ends)) ∙ rest_zeros n size out are in
    put ∙ ap (λ xs. xs ++ (piece ++ drop (16 + length piece) headed)) front
    ∙ ap (λ xs. head_bytes level used 0 ++ (piece ++ xs)) rest
    ∙ sym (append_assoc (head_bytes level used 0) piece (zeros (size - n)))

-- numbers in two runs
range-append : (m n a : ℕ) → range_with_len a (m + n) ≡ range_with_len a m ++ range_with_len (a + m) n
range-append zero n a = let none : zero + n ≡ n = omega arith in let same : a + zero ≡ a = omega arith in
    ap (range_with_len a) none ∙ ap (λ b. range_with_len b n) (sym same)
range-append (suc m) n a =
    let more : suc m + n ≡ suc (m + n) = omega arith in
    let place : a + 1 + m ≡ a + suc m = omega arith in
    ap (range_with_len a) more
    ∙ ap (λ xs. a ∷ xs) (range-append m n (a + 1) ∙ ap (λ b. range_with_len (a + 1) m ++ range_with_len b n) place)

-- neighbouring blocks in two runs
pub blocks_more : (h : Header) (first m n : ℕ)
    → new_blocks h first (m + n) ≡ new_blocks h first m ++ new_blocks h (first + m) n
unfolding new_blocks
blocks_more h first m n =
    ap (flat_map (new_block h)) (range-append m n first)
    ∙ flat_map-append (new_block h) (range_with_len first m) (range_with_len (first + m) n)

pub blocks_none : (h : Header) (first : ℕ) → new_blocks h first 0 ≡ []
unfolding new_blocks
blocks_none h first = refl

pub blocks_one : (h : Header) (first : ℕ) → new_blocks h first 1 ≡ new_block h first
unfolding new_blocks
blocks_one h first = append-nil (new_block h first)

-- a block more
pub block_more : (h : Header) (first i : ℕ)
    → new_blocks h first (i + 1) ≡ new_blocks h first i ++ new_block h (first + i)
block_more h first i = blocks_more h first i 1 ∙ ap (λ xs. new_blocks h first i ++ xs) (blocks_one h (first + i))

-- Block i of some lies among them.
pub within_blocks : (i count size : ℕ) → i < count → i * size + size ≤ count * size
within_blocks i count size lt =
    let next : i + 1 ≤ count = omega arith in
    let sum : (i + 1) * size ≡ i * size + size = omega arith in
    omega (arith, mul-le-mul_right size next, sum)

-- ---- What is free at first.

-- the four blocks from a block of a group on
pub same_pairs : (state : ℕ → State) (a b : ℕ)
    → byte_of_states (λ j. state (a + b + j)) ≡ byte_of_states (λ j. state (a + (b + j)))
same_pairs state a b =
    let zero : a + b + 0 ≡ a + (b + 0) = omega arith in
    let one : a + b + 1 ≡ a + (b + 1) = omega arith in
    let two : a + b + 2 ≡ a + (b + 2) = omega arith in
    let three : a + b + 3 ≡ a + (b + 3) = omega arith in
    rw (zero, one, two, three) refl

-- all bytes are in their places
all_filled : (f : ℕ → ℕ) (n i : ℕ) (xs : List ℕ) → i ≡ n → length xs ≡ n → take i xs ≡ map f (range_with_len 0 i)
    → xs ≡ map f (range_with_len 0 n)
all_filled f n i xs ends len right =
    sym (take_all i xs (omega (arith, ends, len))) ∙ right ∙ ap (λ k. map f (range_with_len 0 k)) ends

pub all_master : (h : Header) (i : ℕ) (master : List ℕ) → i ≡ 256 → length master ≡ 256
    → take i master ≡ map (λ i. byte_of_bits (λ j. group_starts_free h (8 * i + j))) (range_with_len 0 i)
    → master ≡ first_master h
unfolding first_master
all_master h i master ends len right =
    all_filled (λ i. byte_of_bits (λ j. group_starts_free h (8 * i + j))) 256 i master ends len right

pub all_pairs : (h : Header) (group i : ℕ) (pairs : List ℕ) → i ≡ 128 → length pairs ≡ 128
    → take i pairs ≡ map (λ i. byte_of_states (λ j. first_state h (512 * group + (4 * i + j)))) (range_with_len 0 i)
    → pairs ≡ pairs_bytes h group
unfolding pairs_bytes
all_pairs h group i pairs ends len right =
    all_filled (λ i. byte_of_states (λ j. first_state h (512 * group + (4 * i + j)))) 128 i pairs ends len right

pub header_is : (h : Header) (groups : ℕ) (master : List ℕ) → groups ≡ groups_of h → master ≡ first_master h
    → record h { free = h.total - groups - 2; tn = 1; master = master } ≡ new_header h
unfolding new_header
header_is h groups master same is =
    ap (λ n. record h { free = h.total - n - 2; tn = 1; master = master }) same
    ∙ ap (λ xs. record h { free = h.total - groups_of h - 2; tn = 1; master = xs }) is

-- ---- The four kinds of blocks.

pub map_is : (h : Header) (group : ℕ) (out headed new pairs : List ℕ) → out ≡ replicate h.block_size 0
    → headed ≡ head_bytes 255 144 0 ++ drop 16 out → pairs ≡ pairs_bytes h group
    → new ≡ with_bytes headed 16 pairs → new ≡ new_map h group
unfolding new_map
map_is h group out headed new pairs are head is put =
    put_behind_head 255 144 h.block_size 128 144 out headed new pairs are head
    (ap length is ∙ length-pairs_bytes h group)
    refl put
    ∙ ap (λ xs. head_bytes 255 144 0 ++ xs ++ zeros (h.block_size - 144)) is

pub root_is : (h : Header) (out headed new : List ℕ) → out ≡ replicate h.block_size 0
    → headed ≡ head_bytes 1 24 0 ++ drop 16 out
    → new ≡ with_bytes headed 16 (8 ∷ 0 ∷ 0 ∷ 0 ∷ 2 ∷ 0 ∷ 0 ∷ 0 ∷ []) → new ≡ new_root h
unfolding new_root u16_bytes u32_bytes
root_is h out headed new are head put =
    put_behind_head 1 24 h.block_size 8 24 out headed new _ are head refl refl put

pub leaf_is : (h : Header) (out new : List ℕ) → out ≡ replicate h.block_size 0
    → new ≡ head_bytes 0 16 0 ++ drop 16 out → new ≡ new_leaf h
unfolding new_leaf
leaf_is h out new are head = head ∙ ap (λ xs. head_bytes 0 16 0 ++ xs) (rest_zeros 16 h.block_size out are)

module _ (h : Header) (n : ℕ) where
  pub block_map : n % 512 ≡ 0 → new_map h (n / 512) ≡ new_block h n
  unfolding new_block
  block_map is = let test : (n % 512 == 0) ≡ true = grind (arith, nat_tests) in rw test refl

  pub block_root : (n % 512 ≡ 0 → ⊥) → n ≡ 1 → new_root h ≡ new_block h n
  unfolding new_block
  block_root not is = let map : (n % 512 == 0) ≡ false = ne_eqb (n % 512) 0 not in
      let test : (n == 1) ≡ true = grind (arith, nat_tests) in rw (map, test) refl

  pub block_leaf : (n % 512 ≡ 0 → ⊥) → (n ≡ 1 → ⊥) → n ≡ 2 → new_leaf h ≡ new_block h n
  unfolding new_block
  block_leaf not other is = let map : (n % 512 == 0) ≡ false = ne_eqb (n % 512) 0 not in
      let root : (n == 1) ≡ false = ne_eqb n 1 other in
      let test : (n == 2) ≡ true = grind (arith, nat_tests) in rw (map, root, test) refl

  pub block_zeros : (n % 512 ≡ 0 → ⊥) → (n ≡ 1 → ⊥) → (n ≡ 2 → ⊥) → zeros h.block_size ≡ new_block h n
  unfolding new_block
  block_zeros not other third = let map : (n % 512 == 0) ≡ false = ne_eqb (n % 512) 0 not in
      let root : (n == 1) ≡ false = ne_eqb n 1 other in
      let leaf : (n == 2) ≡ false = ne_eqb n 2 third in rw (map, root, leaf) refl

-- ---- Some of them, one behind the other.

-- one block more in its place
pub block_filled : (h : Header) (first i size : ℕ) (out block : List ℕ) → take (i * size) out ≡ new_blocks h first i
    → i * size + size ≤ length out → length block ≡ size → block ≡ new_block h (first + i)
    → take ((i + 1) * size) (put_mid (i * size) (i * size + size - i * size) out block) ≡ new_blocks h first (i + 1)
block_filled h first i size out block so_far fits len is =
    let sum : (i + 1) * size ≡ i * size + length block = omega arith in
    take-put_mid (i * size) (i * size + size - i * size) out block ((i + 1) * size) sum (omega arith)
    ∙ ap (λ xs. xs ++ block) so_far ∙ ap (λ xs. new_blocks h first i ++ xs) is ∙ sym (block_more h first i)

pub blocks_begin : (h : Header) (first size : ℕ) (out : List ℕ) → take (0 * size) out ≡ new_blocks h first 0
blocks_begin h first size out =
    let none : 0 * size ≡ 0 = omega arith in ap (λ k. take k out) none ∙ sym (blocks_none h first)

pub blocks_end : (h : Header) (first i count size : ℕ) (out : List ℕ) → i ≡ count → length out ≡ count * size
    → take (i * size) out ≡ new_blocks h first i → out ≡ new_blocks h first count
blocks_end h first i count size out ends len done =
    let all : i * size ≡ length out = ap (λ k. k * size) ends ∙ sym len in
    sym (take_all (i * size) out (omega (arith, all))) ∙ done ∙ ap (new_blocks h first) ends
