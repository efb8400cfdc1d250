-- The faults of the local bitmaps and of the header's free count.
use Rattle.std.specs.Prelude.{ℕ, ◌+◌, ◌*◌, ◌%◌, ◌==◌, Bool, false, ◌&&◌, ◌||◌, not, nat_lt, nat_le, List, [], ◌∷◌, ◌++◌}
use Rattle.std.specs.Prelude.{length, map, filter, flat_map, if◌then◌else◌}
use Rattle.std.specs.List.{range_with_len}
use Rattle.gds_block.specs.Block.{version_of, reserved_of, level_of, used_of, tn_of}
use Rattle.gds_bitmap.specs.Bitmap.{pair_of, is_free_at}
use Rattle.gds_header.specs.declared.header.Header.{Header}
use Rattle.gds_header.specs.Fields.{fields_of, block_of}
use Rattle.gds_header.specs.Kinds.{groups_of, has_free}
use Rattle.gds_law.specs.Kinds.{map_kinds, pair_kinds}
use Rattle.gds_law.specs.declared.fault.Fault.{Fault}
use Rattle.gds_law.specs.Path.{Steps}
use Rattle.gds_law.specs.Tree.{is_reached}
use Rattle.gds_law.specs.declared.kind.FaultKind.{FaultKind}
use Rattle.gds_law.specs.declared.kind.FaultKind.TheVariants.{BadVersion, TransactionTooNew, MapUsedTooSmall}
use Rattle.gds_law.specs.declared.kind.FaultKind.TheVariants.{MapUsedTooLarge, MapLevel, GroupMarkedFree}
use Rattle.gds_law.specs.declared.kind.FaultKind.TheVariants.{GroupMarkedFull, IllegalPair, UsedMarkedFree}
use Rattle.gds_law.specs.declared.kind.FaultKind.TheVariants.{UnusedMarkedBusy, PairPastTotal, WrongFreeCount}

-- A group has 512 blocks, of which the first is its map.
abbrev pub map_number : ℕ → ℕ
map_number group = 512 * group

abbrev pub map_of : List ℕ → ℕ → List ℕ
map_of image group = block_of image (map_number group)

-- the places of a group whose blocks the file has
abbrev pub is_present : Header → ℕ → ℕ → Bool
is_present h group k = nat_lt (map_number group + k) h.total

abbrev pub places : List ℕ
places = range_with_len 0 512

-- the places of a group that are free
abbrev pub free_places : List ℕ → ℕ → List ℕ
free_places image group = filter (λ k. is_present (fields_of image) group k && is_free_at (map_of image group) k) places

-- how many blocks of the file are free
unfoldable pub free_blocks : List ℕ → ℕ
free_blocks image = length (flat_map (free_places image) (range_with_len 0 (groups_of (fields_of image))))

abbrev pub has_free_place : List ℕ → ℕ → Bool
has_free_place image group = nat_lt 0 (length (free_places image group))

-- A block is in use where it is a map or a kept path ends in it.
abbrev pub is_used : List ℕ → List Steps → ℕ → Bool
is_used image kept block = (block % 512 == 0) || is_reached image kept block

-- The kind is there, of a group's map.
abbrev pub map_holds : List ℕ → ℕ → FaultKind → Bool
map_holds image group BadVersion =
    not (version_of (map_of image group) == 1) || not (reserved_of (map_of image group) == 0)
map_holds image group TransactionTooNew = nat_le (fields_of image).tn (tn_of (map_of image group))
map_holds image group MapUsedTooSmall = nat_lt (used_of (map_of image group)) 144
map_holds image group MapUsedTooLarge = nat_lt 144 (used_of (map_of image group))
map_holds image group MapLevel = not (level_of (map_of image group) == 255)
map_holds image group GroupMarkedFree = has_free (fields_of image) group && not (has_free_place image group)
map_holds image group GroupMarkedFull = not (has_free (fields_of image) group) && has_free_place image group
map_holds image group kind = false

-- The kind is there, of a place in a group's map, which tells the state of a block.
abbrev pub pair_holds : List ℕ → (ℕ → Bool) → ℕ → ℕ → FaultKind → Bool
pair_holds image used group k IllegalPair =
    is_present (fields_of image) group k && (pair_of (map_of image group) k == 2)
pair_holds image used group k UsedMarkedFree =
    is_present (fields_of image) group k && is_free_at (map_of image group) k && used (map_number group + k)
pair_holds image used group k UnusedMarkedBusy =
    is_present (fields_of image) group k && (pair_of (map_of image group) k == 0) && not (used (map_number group + k))
pair_holds image used group k PairPastTotal =
    not (is_present (fields_of image) group k) && not (pair_of (map_of image group) k == 0)
pair_holds image used group k kind = false

-- a fault of a block that no path tells of
abbrev pub fault_of : ℕ → FaultKind → Fault
fault_of block kind = record { kind = kind; block = block; offset = 0; level = 0; path = [] }

-- the faults of a group: of its map, and then of each of its pairs
abbrev pub pair_faults : List ℕ → (ℕ → Bool) → ℕ → ℕ → List Fault
pair_faults image used group k =
    map (fault_of (map_number group + k)) (filter (pair_holds image used group k) pair_kinds)

abbrev pub group_faults : List ℕ → (ℕ → Bool) → ℕ → List Fault
group_faults image used group =
    map (fault_of (map_number group)) (filter (map_holds image group) map_kinds)
    ++ flat_map (pair_faults image used group) places

-- the faults of all maps, by block number, and then that of the free count
unfoldable pub map_faults : List ℕ → (ℕ → Bool) → List Fault
map_faults image used = flat_map (group_faults image used) (range_with_len 0 (groups_of (fields_of image)))

abbrev pub count_faults : List ℕ → List Fault
count_faults image = if (fields_of image).free == free_blocks image then [] else fault_of 0 WrongFreeCount ∷ []
