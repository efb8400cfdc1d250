-- What can be wrong with a header, kind by kind, and the list of what is wrong.
use Rattle.std.specs.Prelude.{◌≡◌, ◌≤◌, Some, None, take, ℕ, ◌+◌, ◌-◌, ◌*◌, ◌/◌, ◌%◌, ◌^◌, Bool, true, false, not, ◌&&◌}
use Rattle.std.specs.Prelude.{◌||◌, ◌==◌, nat_eq, nat_lt, nat_le, if◌then◌else◌, List, [], ◌∷◌, ◌++◌, length, Option}
use Rattle.std.specs.Prelude.{filter, find, codes, slice_index, slice_range}
use Rattle.std.specs.List.{starts_with, list_any, range_with_len}
use Rattle.std.specs.Int.{bit_at}
use Rattle.std.specs.Option.{option_or}
use Rattle.gds_header.specs.Fields.{label, fields_of, image_length}
use Rattle.gds_header.specs.declared.header.Header.{Header}
use Rattle.gds_header.specs.declared.kind.HeaderKind.{HeaderKind}
use Rattle.gds_header.specs.declared.kind.HeaderKind.TheVariants.{ShortHeader, NotDatabase, BlockSizeNotMultiple}
use Rattle.gds_header.specs.declared.kind.HeaderKind.TheVariants.{BlockSizeTooLarge, NoBlocks, BadLimit, ShortFile}
use Rattle.gds_header.specs.declared.kind.HeaderKind.TheVariants.{LongFile, ReservedByte, BadTransactionNumber}
use Rattle.gds_header.specs.declared.kind.HeaderFault.{HeaderFault}
use Rattle.gds_header.specs.declared.kind.HeaderFault.TheVariants.{NotDb, NotMultiple, TooLarge, NoTotal, Limit}

-- the name under which a kind is told
abbrev pub name_of : HeaderKind → List ℕ
name_of ShortHeader = codes "DBFSTHEAD"
name_of NotDatabase = codes "DBNOTDB"
name_of BlockSizeNotMultiple = codes "DBNOTMLTP"
name_of BlockSizeTooLarge = codes "DBSZGT64K"
name_of NoBlocks = codes "DBTTLBLK0"
name_of BadLimit = codes "GDSLIMIT"
name_of ShortFile = codes "DBFSTBC"
name_of LongFile = codes "DBFGTBC"
name_of ReservedByte = codes "GDSRESV"
name_of BadTransactionNumber = codes "GDSTN"

-- low to high, both included
abbrev is_within : ℕ → ℕ → ℕ → Bool
is_within low high n = nat_le low n && nat_le n high

-- the limits on all but the block size: on blocks, and on keys and values
abbrev pub keeps_block_limits : Header → Bool
keeps_block_limits h = is_within 64 1048576 h.limit && is_within 3 h.limit h.total && is_within 64 65535 h.extension

abbrev pub keeps_record_limits : Header → Bool
keeps_record_limits h =
    is_within 3 255 h.key_max
    && nat_le (16 + 3 * (8 + h.key_max)) h.block_size
    && nat_le (20 + h.key_max + h.value_max) h.block_size

abbrev pub keeps_limits : Header → Bool
keeps_limits h = keeps_block_limits h && keeps_record_limits h

-- the limits of a header, the block size's among them
pub record IsWithinLimits (h : Header) : Type 0 where
  pub block_multiple : h.block_size % 512 ≡ 0
  pub block_from : 512 ≤ h.block_size
  pub block_to : h.block_size ≤ 65024
  pub limit_from : 64 ≤ h.limit
  pub limit_to : h.limit ≤ 1048576
  pub total_from : 3 ≤ h.total
  pub total_to : h.total ≤ h.limit
  pub extension_from : 64 ≤ h.extension
  pub extension_to : h.extension ≤ 65535
  pub key_from : 3 ≤ h.key_max
  pub key_to : h.key_max ≤ 255
  pub keys_fit : 16 + 3 * (8 + h.key_max) ≤ h.block_size
  pub value_fits : 20 + h.key_max + h.value_max ≤ h.block_size

-- how many groups of 512 blocks there are, the last perhaps smaller
abbrev pub groups_of : Header → ℕ
groups_of h = (h.total + 511) / 512

-- the master map says that group g has a free block
abbrev pub has_free : Header → ℕ → Bool
has_free h g = bit_at (slice_index h.master (g / 8)) (g % 8) == 1

-- the bytes that must be 0, and the groups past the last one, whose master bits must be
abbrev pub reserved_bytes : List ℕ → List ℕ
reserved_bytes image = slice_range image 36 40 ++ slice_range image 48 4096 ++ slice_range image 4352 8192

abbrev pub groups_past : Header → List ℕ
groups_past h = range_with_len (groups_of h) (2048 - groups_of h)

-- the kind is there
abbrev pub holds : List ℕ → HeaderKind → Bool
holds image ShortHeader = nat_lt (length image) 8192
holds image NotDatabase = not (starts_with nat_eq image label)
holds image BlockSizeNotMultiple = let h = fields_of image in h.block_size == 0 || not (h.block_size % 512 == 0)
holds image BlockSizeTooLarge = nat_lt 65024 (fields_of image).block_size
holds image NoBlocks = (fields_of image).total == 0
holds image BadLimit = not (keeps_limits (fields_of image))
holds image ShortFile = nat_lt (length image) (image_length image)
holds image LongFile = nat_lt (image_length image) (length image)
holds image ReservedByte =
    let h = fields_of image in
    list_any (λ b. not (b == 0)) (reserved_bytes image) || list_any (has_free h) (groups_past h)
holds image BadTransactionNumber = let h = fields_of image in h.tn == 0 || nat_lt (2 ^ 63) h.tn

-- behind the kind no further one is asked
abbrev pub ends : HeaderKind → Bool
ends LongFile = false
ends ReservedByte = false
ends BadTransactionNumber = false
ends _ = true

-- all kinds in their order
abbrev pub kinds : List HeaderKind
kinds =
    ShortHeader ∷ NotDatabase ∷ BlockSizeNotMultiple ∷ BlockSizeTooLarge ∷ NoBlocks ∷ BadLimit ∷ ShortFile
    ∷ LongFile ∷ ReservedByte ∷ BadTransactionNumber ∷ []

-- the front of a list up to the first that passes, that one included
abbrev pub through_first : {A : Type 0} → (A → Bool) → List A → List A
through_first test [] = []
through_first test (x ∷ xs) = if test x then x ∷ [] else x ∷ through_first test xs

-- the faults of a file's header, and that which ends the reading
unfoldable pub header_faults : List ℕ → List HeaderKind
header_faults image = through_first ends (filter (holds image) kinds)

unfoldable pub ending_kind : List ℕ → Option HeaderKind
ending_kind image = find ends (header_faults image)

-- the kinds that make 8,192 bytes no header, as faults and as the first of them
abbrev pub kind_of : HeaderFault → HeaderKind
kind_of NotDb = NotDatabase
kind_of NotMultiple = BlockSizeNotMultiple
kind_of TooLarge = BlockSizeTooLarge
kind_of NoTotal = NoBlocks
kind_of Limit = BadLimit

unfoldable pub unreadable : List ℕ → Option HeaderKind
unreadable image =
    find (holds image) (NotDatabase ∷ BlockSizeNotMultiple ∷ BlockSizeTooLarge ∷ NoBlocks ∷ BadLimit ∷ [])

-- the kind that ends the reading, from the file's length and its first 8,192 bytes alone
abbrev pub ending_kind_of : ℕ → List ℕ → Option HeaderKind
ending_kind_of len front =
    if nat_lt len 8192 then Some ShortHeader
    else option_or (unreadable front) (if nat_lt len (image_length front) then Some ShortFile else None)

-- in each file that begins with these bytes this is what ends the reading
abbrev pub EachFileEnds : List ℕ → (List ℕ → Option HeaderKind) → Type 0
EachFileEnds front ending = (image : List ℕ) → take 8192 image ≡ front → ending_kind image ≡ ending image

-- two laws: it is the same, and it is the file's one fault then
abbrev pub IsDecidedByFront : Type 0
IsDecidedByFront = (image : List ℕ) → ending_kind image ≡ ending_kind_of (length image) (take 8192 image)

abbrev pub EndsAlone : Type 0
EndsAlone = (image : List ℕ) (kind : HeaderKind) → ending_kind image ≡ Some kind → header_faults image ≡ kind ∷ []
