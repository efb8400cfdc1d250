-- The bytes of a new database: a directory without entries, and blocks that were never used.
use Rattle.std.specs.Prelude.{ℕ, ◌+◌, ◌-◌, ◌*◌, ◌/◌, ◌%◌, ◌==◌, Bool, ◌&&◌, not, nat_lt, List, ◌++◌, map, flat_map}
use Rattle.std.specs.Prelude.{if◌then◌else◌}
use Rattle.std.specs.List.{range_with_len}
use Rattle.gds_block.specs.Fields.{u16_bytes, u32_bytes}
use Rattle.gds_block.specs.Block.{head_bytes}
use Rattle.gds_bitmap.specs.State.{code_of}
use Rattle.gds_bitmap.specs.declared.state.State.{State}
use Rattle.gds_bitmap.specs.declared.state.State.TheVariants.{Busy, New}
use Rattle.gds_header.specs.declared.header.Header.{Header}
use Rattle.gds_header.specs.Fields.{header_bytes, zeros}
use Rattle.gds_header.specs.Kinds.{groups_of}

-- A block is free at first where the file has it and it is none of the blocks 0, 1 and 2 and no map.
abbrev pub starts_free : Header → ℕ → Bool
starts_free h n = nat_lt 2 n && nat_lt n h.total && not (n % 512 == 0)

-- what the maps say of it then
abbrev pub first_state : Header → ℕ → State
first_state h n = if starts_free h n then New else Busy

-- A group has a free block at first where the file goes on behind its map and, in group 0, behind block 2.
abbrev pub group_starts_free : Header → ℕ → Bool
group_starts_free h group = nat_lt (if group == 0 then 3 else 512 * group + 1) h.total

-- the byte of four states, the first in its lowest bits
abbrev pub byte_of_states : (ℕ → State) → ℕ
byte_of_states state = code_of (state 0) + 4 * code_of (state 1) + 16 * code_of (state 2) + 64 * code_of (state 3)

-- the byte of eight bits, the first one lowest
abbrev pub bit_of : Bool → ℕ
bit_of bit = if bit then 1 else 0

abbrev pub byte_of_bits : (ℕ → Bool) → ℕ
byte_of_bits bit =
    bit_of (bit 0) + 2 * bit_of (bit 1) + 4 * bit_of (bit 2) + 8 * bit_of (bit 3)
    + 16 * bit_of (bit 4) + 32 * bit_of (bit 5) + 64 * bit_of (bit 6) + 128 * bit_of (bit 7)

-- the states of a group's blocks, and the bits of all groups
unfoldable pub pairs_bytes : Header → ℕ → List ℕ
pairs_bytes h group =
    map (λ i. byte_of_states (λ j. first_state h (512 * group + (4 * i + j)))) (range_with_len 0 128)

unfoldable pub first_master : Header → List ℕ
first_master h = map (λ i. byte_of_bits (λ j. group_starts_free h (8 * i + j))) (range_with_len 0 256)

-- The header: all blocks but the maps and two more are free, and the first transaction is the next.
unfoldable pub new_header : Header → Header
new_header h = record h { free = h.total - groups_of h - 2; tn = 1; master = first_master h }

-- The map of a group; the directory's root in block 1, whose one record, a star, points to block 2; and its level-0
-- block without records in block 2. No transaction has written them.
unfoldable pub new_map : Header → ℕ → List ℕ
new_map h group = head_bytes 255 144 0 ++ pairs_bytes h group ++ zeros (h.block_size - 144)

unfoldable pub new_root : Header → List ℕ
new_root h = head_bytes 1 24 0 ++ (u16_bytes 8 ++ u16_bytes 0 ++ u32_bytes 2) ++ zeros (h.block_size - 24)

unfoldable pub new_leaf : Header → List ℕ
new_leaf h = head_bytes 0 16 0 ++ zeros (h.block_size - 16)

-- Every other block holds zeros.
unfoldable pub new_block : Header → ℕ → List ℕ
new_block h n =
    if n % 512 == 0 then new_map h (n / 512)
    else (if n == 1 then new_root h else (if n == 2 then new_leaf h else zeros h.block_size))

-- The bytes of a new database with the block size, the total, the extension, the limit, the greatest key and the
-- greatest value of a header.
unfoldable pub new_database : Header → List ℕ
new_database h = header_bytes (new_header h) ++ flat_map (new_block h) (range_with_len 0 h.total)
