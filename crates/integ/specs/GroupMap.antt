-- The faults of the map of a group of 512 blocks, by the header and the map's bytes alone.
use Rattle.std.specs.Prelude.{ℕ, ◌≡◌, ◌<◌, ◌+◌, ◌%◌, ◌==◌, Bool, true, false, ◌&&◌, ◌||◌, not, nat_lt, nat_le}
use Rattle.std.specs.Prelude.{List, [], ◌++◌, length, map, filter, flat_map}
use Rattle.std.specs.Int.{bit_at}
use Rattle.std.specs.List.{range_with_len}
use Rattle.gds_block.specs.Block.{version_of, reserved_of, level_of, used_of, tn_of}
use Rattle.gds_bitmap.specs.State.{state_from, is_free}
use Rattle.gds_bitmap.specs.Pairs.{pair_in}
use Rattle.gds_bitmap.specs.Bitmap.{pair_of, is_free_at}
use Rattle.gds_header.specs.declared.header.Header.{Header}
use Rattle.gds_header.specs.Kinds.{has_free}
use Rattle.gds_law.specs.Kinds.{map_kinds, pair_kinds}
use Rattle.gds_law.specs.Maps.{map_number, is_present, places, fault_of}
use Rattle.gds_law.specs.declared.fault.Fault.{Fault}
use Rattle.gds_law.specs.declared.kind.FaultKind.{FaultKind}
use Rattle.gds_law.specs.declared.kind.FaultKind.TheVariants.{BadVersion, TransactionTooNew, MapUsedTooSmall}
use Rattle.gds_law.specs.declared.kind.FaultKind.TheVariants.{MapUsedTooLarge, MapLevel, GroupMarkedFree}
use Rattle.gds_law.specs.declared.kind.FaultKind.TheVariants.{GroupMarkedFull, IllegalPair, UsedMarkedFree}
use Rattle.gds_law.specs.declared.kind.FaultKind.TheVariants.{UnusedMarkedBusy, PairPastTotal}
use Rattle.integ_walk.specs.BlockSet.{has_block}

-- The file's header, which group it is, the bytes of its map, and the set of blocks that kept paths end in.
pub record GroupMap : Type 0 where
  pub header : Header
  pub number : ℕ
  pub bytes : List ℕ
  pub used : List ℕ

-- A block is in use where it is a map or in the set.
abbrev pub in_use : List ℕ → ℕ → Bool
in_use used block = (block % 512 == 0) || has_block used block

-- how many of the group's blocks are free
unfoldable pub free_count : GroupMap → ℕ
free_count g = length (filter (λ k. is_present g.header g.number k && is_free_at g.bytes k) places)

-- The kind stands of the map.
abbrev pub head_holds : GroupMap → FaultKind → Bool
head_holds g BadVersion = not (version_of g.bytes == 1) || not (reserved_of g.bytes == 0)
head_holds g TransactionTooNew = nat_le g.header.tn (tn_of g.bytes)
head_holds g MapUsedTooSmall = nat_lt (used_of g.bytes) 144
head_holds g MapUsedTooLarge = nat_lt 144 (used_of g.bytes)
head_holds g MapLevel = not (level_of g.bytes == 255)
head_holds g GroupMarkedFree = has_free g.header g.number && not (nat_lt 0 (free_count g))
head_holds g GroupMarkedFull = not (has_free g.header g.number) && nat_lt 0 (free_count g)
head_holds g kind = false

unfoldable pub head_kinds : GroupMap → List FaultKind
head_kinds g = filter (head_holds g) map_kinds

-- The kind stands of the pair of a block, which is present or past the file's end, and in use or not.
abbrev pub pair_holds : (present used : Bool) (pair : ℕ) → FaultKind → Bool
pair_holds present used pair IllegalPair = present && (pair == 2)
pair_holds present used pair UsedMarkedFree = present && is_free (state_from pair) && used
pair_holds present used pair UnusedMarkedBusy = present && (pair == 0) && not used
pair_holds present used pair PairPastTotal = not present && not (pair == 0)
pair_holds present used pair kind = false

unfoldable pub kinds_of_pair : (present used : Bool) (pair : ℕ) → List FaultKind
kinds_of_pair present used pair = filter (pair_holds present used pair) pair_kinds

-- the same of a place of the group
abbrev pub kinds_at : GroupMap → ℕ → List FaultKind
kinds_at g k = kinds_of_pair (is_present g.header g.number k) (in_use g.used (map_number g.number + k))
    (pair_of g.bytes k)

-- the faults of the map, and of one pair
abbrev pub head_faults : GroupMap → List Fault
head_faults g = map (fault_of (map_number g.number)) (head_kinds g)

abbrev pub faults_at : GroupMap → ℕ → List Fault
faults_at g k = map (fault_of (map_number g.number + k)) (kinds_at g k)

-- those of n pairs from a place on, and of all pairs
unfoldable pub faults_in : GroupMap → ℕ → ℕ → List Fault
faults_in g first n = flat_map (faults_at g) (range_with_len first n)

abbrev pub pair_faults : GroupMap → List Fault
pair_faults g = faults_in g 0 512

-- all faults of the group
abbrev pub faults_of : GroupMap → List Fault
faults_of g = head_faults g ++ pair_faults g

-- Nothing is wrong with the four pairs of a byte, of blocks that are present. The bits of a number say which of the
-- blocks are in use.
abbrev pub AreRight : ℕ → ℕ → Type 0
AreRight byte used = (j : ℕ) → j < 4 → kinds_of_pair true (bit_at used j == 1) (pair_in byte j) ≡ []
