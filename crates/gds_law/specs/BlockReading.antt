-- How a record of a tree's block is read behind the key before it.
use Rattle.std.specs.Prelude.{ℕ, ◌+◌, ◌==◌, Bool, false, ◌&&◌, not, nat_lt, List, length, take, drop, Option, None}
use Rattle.std.specs.Prelude.{Some, unwrap_or, if◌then◌else◌}
use Rattle.gds_block.specs.Fields.{u32_at}
use Rattle.gds_block.specs.Block.{level_of, used_of}
use Rattle.gds_block.specs.Record.{Record}
use Rattle.gds_block.specs.Record as records
use Rattle.gds_header.specs.declared.header.Header.{Header}
use Rattle.m_key.specs.KeyEnd.{key_within}
use Rattle.gds_law.specs.Visit.{TreeRole, directory, global, Visit}

-- a block as it is read: the file's header, what is due at the block, its level byte and its used count
pub record BlockReading : Type 0 where
  pub header : Header
  pub visit : Visit
  pub level : ℕ
  pub used : ℕ

abbrev pub reading_of : Header → Visit → List ℕ → BlockReading
reading_of h v block = record { header = h; visit = v; level = level_of block; used = used_of block }

-- a record and the key before it, which is empty where there is none
pub record PlacedRecord : Type 0 where
  pub previous : List ℕ
  pub record_ : Record

abbrev pub is_first : PlacedRecord → Bool
is_first s = s.record_.offset == 16

abbrev pub size_of : PlacedRecord → ℕ
size_of s = 4 + length s.record_.body

-- Last is a record of an index block that ends at the used count.
abbrev pub is_last : BlockReading → PlacedRecord → Bool
is_last b s = nat_lt 0 b.level && (s.record_.offset + size_of s == b.used)

-- its bytes in full behind the key before
abbrev pub full_of : PlacedRecord → List ℕ
full_of s = records.full_of s.previous s.record_

-- how many of the full bytes are the key, which ends with their first two neighbouring zero bytes and has no more bytes
-- than the header allows, where there is such a key
abbrev pub key_end : BlockReading → PlacedRecord → Option ℕ
key_end b s = key_within b.header.key_max (full_of s)

abbrev pub key_of : BlockReading → PlacedRecord → List ℕ
key_of b s = take (unwrap_or (key_end b s) 0) (full_of s)

-- what follows the key
abbrev pub rest_of : BlockReading → PlacedRecord → List ℕ
rest_of b s = drop (unwrap_or (key_end b s) 0) (full_of s)

-- The rest is a pointer in the directory and in index blocks, and a value in the level-0 blocks of globals.
abbrev pub has_values : BlockReading → TreeRole → Bool
has_values b directory = false
has_values b (global name) = b.level == 0

abbrev pub points : BlockReading → Bool
points b = not (has_values b b.visit.role)

-- the pointer of a record, which in the last record of an index block is the whole body, where it has one
abbrev pub pointer_of : BlockReading → PlacedRecord → Option ℕ
pointer_of b s =
    if is_last b s then Some (u32_at s.record_.body 0)
    else (if points b && (length (rest_of b s) == 4) then Some (u32_at (rest_of b s) 0) else None)
