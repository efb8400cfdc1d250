-- What can be wrong with a block of a tree, in its order, and its children.
use Rattle.std.specs.Prelude.{ℕ, ◌+◌, ◌==◌, Bool, false, ◌&&◌, ◌||◌, not, nat_lt, nat_le, List, [], ◌∷◌, ◌++◌, length}
use Rattle.std.specs.Prelude.{map, filter, Option, None, Some, is_none, if◌then◌else◌}
use Rattle.std.specs.List.{list_any}
use Rattle.gds_block.specs.Block.{version_of, reserved_of, tn_of}
use Rattle.gds_block.specs.Record.{Record, records_of, bytes_left, least_size}
use Rattle.gds_block.specs.Record as block
use Rattle.gds_header.specs.declared.header.Header.{Header}
use Rattle.gds_header.specs.Kinds.{through_first}
use Rattle.gds_law.specs.Kinds.{ends, head_kinds}
use Rattle.gds_law.specs.declared.fault.Fault.{Fault}
use Rattle.gds_law.specs.Visit.{Visit, Child}
use Rattle.gds_law.specs.BlockReading.{BlockReading, PlacedRecord, reading_of, size_of, key_of}
use Rattle.gds_law.specs.Record.{kinds_of, is_ended, children_of_record, is_directory}
use Rattle.gds_law.specs.declared.kind.FaultKind.{FaultKind}
use Rattle.gds_law.specs.declared.kind.FaultKind.TheVariants.{BadVersion, TransactionTooNew, UsedTooSmall, UsedTooLarge}
use Rattle.gds_law.specs.declared.kind.FaultKind.TheVariants.{RootAtLevelZero, WrongLevel, EmptyBlock, RecordTooSmall}
use Rattle.gds_law.specs.declared.kind.FaultKind.TheVariants.{RecordTooLarge}

-- A root has a level from 1 to 7, and every other block the level that is due.
abbrev pub is_wrong_level : Option ℕ → ℕ → Bool
is_wrong_level None level = nat_lt 7 level
is_wrong_level (Some due) level = not (level == due)

-- an empty block that is lawful: of level 0, in the directory, and without bounds
abbrev pub may_be_empty : BlockReading → Bool
may_be_empty b = (b.level == 0) && is_directory b.visit.role && is_none b.visit.low && is_none b.visit.high

-- The kind is there, of the head of a block.
abbrev pub head_holds : BlockReading → List ℕ → FaultKind → Bool
head_holds b bytes BadVersion = not (version_of bytes == 1) || not (reserved_of bytes == 0)
head_holds b bytes TransactionTooNew = nat_le b.header.tn (tn_of bytes)
head_holds b bytes UsedTooSmall = nat_lt b.used 16
head_holds b bytes UsedTooLarge = nat_lt b.header.block_size b.used
head_holds b bytes RootAtLevelZero = is_none b.visit.level && (b.level == 0)
head_holds b bytes WrongLevel = is_wrong_level b.visit.level b.level
head_holds b bytes EmptyBlock = (b.used == 16) && not (may_be_empty b)
head_holds b bytes kind = false

-- the kinds that are told of the head: those that are there, up to the first that ends the reading
unfoldable pub kinds_of_head : BlockReading → List ℕ → List FaultKind
kinds_of_head b bytes = through_first ends (filter (head_holds b bytes) head_kinds)

-- what is told where no well-sized record stands, of the bytes that are left up to the used count
abbrev pub size_kinds : ℕ → List ℕ → List FaultKind
size_kinds level left =
    if length left == 0 then []
    else (if nat_lt (length left) 4 || nat_lt (block.size_of left) (least_size level) then RecordTooSmall ∷ []
    else (if nat_lt (length left) (block.size_of left) then RecordTooLarge ∷ [] else []))

-- the kinds that are told of records one after another, from the one at an offset on and behind a key, each with its
-- record's offset
abbrev pub kinds_from : BlockReading → List ℕ → ℕ → List ℕ → List Record → List (ℕ × FaultKind)
kinds_from b bytes at previous [] = map (λ kind. (at, kind)) (size_kinds b.level (bytes_left bytes at))
kinds_from b bytes at previous (r ∷ rs) =
    let s : PlacedRecord = record { previous = previous; record_ = r } in
    map (λ kind. (r.offset, kind)) (kinds_of b s)
    ++ (if is_ended b s then [] else kinds_from b bytes (r.offset + size_of s) (key_of b s) rs)

-- the children of records one after another behind a key
abbrev pub children_from : BlockReading → List ℕ → List Record → List Child
children_from b previous [] = []
children_from b previous (r ∷ rs) =
    let s : PlacedRecord = record { previous = previous; record_ = r } in
    if is_ended b s then [] else children_of_record b s ++ children_from b (key_of b s) rs

-- the kinds that are told of a block, each with its offset: those of its head at 0, and those of its records
unfoldable pub kinds_of_block : BlockReading → List ℕ → List (ℕ × FaultKind)
kinds_of_block b bytes =
    let head = kinds_of_head b bytes in
    map (λ kind. (0, kind)) head ++ (if list_any ends head then [] else kinds_from b bytes 16 [] (records_of bytes))

-- the faults of a block that a path leads to, but for doubly allocated blocks
abbrev pub fault_at : BlockReading → List (ℕ × ℕ) → (ℕ × FaultKind) → Fault
fault_at b path (offset, kind) =
    record { kind = kind; block = b.visit.block; offset = offset; level = b.level; path = path }

abbrev pub faults_of_block : Header → List (ℕ × ℕ) → Visit → List ℕ → List Fault
faults_of_block h path v bytes = let b = reading_of h v bytes in map (fault_at b path) (kinds_of_block b bytes)

-- its children: the records with sound pointers, up to the first kind that ends the reading
unfoldable pub children_of : Header → Visit → List ℕ → List Child
children_of h v bytes =
    let b = reading_of h v bytes in
    if list_any ends (kinds_of_head b bytes) then [] else children_from b [] (records_of bytes)
