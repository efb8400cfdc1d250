-- The records of a block. The bytes left from an offset on are those up to the used count.
use Rattle.std.specs.Prelude.{ℕ, suc, zero, ◌≡◌, ◌≤◌, ◌+◌, Bool, ◌&&◌, ◌==◌, nat_le, IsTrue, if◌then◌else◌, List, []}
use Rattle.std.specs.Prelude.{◌∷◌, ◌++◌, length, take, drop, slice_range}
use Rattle.gds_block.specs.Fields.{u16_at}
use Rattle.gds_block.specs.Block.{level_of, used_of}

-- where a record stands in its block, its compression count and its body
pub record Record : Type 0 where
  pub offset : ℕ
  pub count : ℕ
  pub body : List ℕ

-- the bytes of a record behind a key in full: as many leading bytes of that key as the count says, and the body
abbrev pub full_of : List ℕ → Record → List ℕ
full_of previous r = take r.count previous ++ r.body

-- the bytes from an offset up to the used count
abbrev pub bytes_left : List ℕ → ℕ → List ℕ
bytes_left block offset = drop offset (take (used_of block) block)

-- the size field at the front of the bytes left
abbrev pub size_of : List ℕ → ℕ
size_of left = u16_at left 0

-- A record has a head of 4 bytes and a body, of 1 byte or more at level 0 and of 4 or more above it.
abbrev pub least_size : ℕ → ℕ
least_size level = if level == 0 then 5 else 8

-- The bytes left begin with a well-sized record: its head is there, its size is no less than the least,
-- and it ends within them.
abbrev pub is_well_sized : ℕ → List ℕ → Bool
is_well_sized level left =
    nat_le 4 (length left) && nat_le (least_size level) (size_of left) && nat_le (size_of left) (length left)

-- the record at the front of the bytes left, which stands at this offset
abbrev pub first_record : ℕ → List ℕ → Record
first_record offset left = record { offset = offset; count = u16_at left 2; body = drop 4 (take (size_of left) left) }

-- The same, of n records at most.
abbrev pub records_up_to : ℕ → ℕ → ℕ → List ℕ → List Record
records_up_to zero level offset left = []
records_up_to (suc n) level offset left =
    if is_well_sized level left
    then first_record offset left ∷ records_up_to n level (offset + size_of left) (drop (size_of left) left)
    else []

-- The longest list of well-sized records that follow one another in the bytes left, which begin at this
-- offset: none where no well-sized record stands there, and else it and those from its end. There are no
-- more of them than bytes.
abbrev pub records_from : ℕ → ℕ → List ℕ → List Record
records_from level offset left = records_up_to (length left) level offset left

-- the records of a block
abbrev pub records_of : List ℕ → List Record
records_of block = records_from (level_of block) 16 (bytes_left block 16)

-- These records are well-sized and follow one another from the front of the bytes left, and what stands
-- behind the last isn't well-sized.
abbrev pub AreRecords : ℕ → ℕ → List ℕ → List Record → Type 0
AreRecords level offset left [] = IsTrue (is_well_sized level left) → ⊥
AreRecords level offset left (r ∷ rs) =
    IsTrue (is_well_sized level left) × (r ≡ first_record offset left)
    × AreRecords level (offset + size_of left) (drop (size_of left) left) rs

-- these are the records of the block
abbrev pub AreRecordsOf : List ℕ → List Record → Type 0
AreRecordsOf block rs = AreRecords (level_of block) 16 (bytes_left block 16) rs

-- The record stands in the block at its offset, behind the head and within the used bytes: the block has
-- its size there, its count behind that, and its body behind both.
pub record StandsIn (block : List ℕ) (r : Record) : Type 0 where
  pub behind_head : 16 ≤ r.offset
  pub within : r.offset + 4 + length r.body ≤ used_of block
  pub size : u16_at block r.offset ≡ 4 + length r.body
  pub tally : u16_at block (r.offset + 2) ≡ r.count
  pub bytes : slice_range block (r.offset + 4) (r.offset + 4 + length r.body) ≡ r.body
