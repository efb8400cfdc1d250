-- What can be wrong with a record whose size is right, kind by kind, and where its pointer leads.
use Rattle.std.specs.Prelude.{ℕ, ◌-◌, ◌^◌, ◌%◌, ◌==◌, Bool, true, false, ◌&&◌, ◌||◌, not, nat_lt, nat_le, List, [], ◌∷◌}
use Rattle.std.specs.Prelude.{length, filter, Option, None, Some, is_none, bytes_eq, if◌then◌else◌}
use Rattle.std.specs.List.{list_any}
use Rattle.std.specs.Option.{option_map_or}
use Rattle.std.specs.Ordering.{nat_cmp, is_lt}
use Rattle.std.specs.Cmp.Lexicographic.{slice_cmp}
use Rattle.gds_header.specs.Kinds.{through_first}
use Rattle.m_key.specs.KeyEnd.{shared}
use Rattle.gds_law.specs.Kinds.{ends, record_kinds}
use Rattle.gds_law.specs.Visit.{TreeRole, directory, global, Visit, Child, global_root}
use Rattle.gds_law.specs.BlockReading.{BlockReading, PlacedRecord, is_first, size_of, is_last, full_of, key_end, key_of}
use Rattle.gds_law.specs.BlockReading.{rest_of, points, pointer_of}
use Rattle.m_key.specs.KeyParts.{name_part, subscript_parts}
use Rattle.gds_law.specs.Key.{key_fault}
use Rattle.gds_law.specs.declared.kind.FaultKind.{FaultKind}
use Rattle.gds_law.specs.declared.kind.FaultKind.TheVariants.{StarSize, StarCount, FirstCount, CountTooLarge}
use Rattle.gds_law.specs.declared.kind.FaultKind.TheVariants.{KeyTooLong, KeyWithoutEnd, WrongCount, KeyOutOfOrder}
use Rattle.gds_law.specs.declared.kind.FaultKind.TheVariants.{BadName, TooManySubscripts, BadNumber, BadString}
use Rattle.gds_law.specs.declared.kind.FaultKind.TheVariants.{NullSubscript, DirectorySubscript, WrongGlobal}
use Rattle.gds_law.specs.declared.kind.FaultKind.TheVariants.{KeyAboveBound, KeyBelowBound, RestNotPointer}
use Rattle.gds_law.specs.declared.kind.FaultKind.TheVariants.{ValueTooLong, PointerNotPositive, PointerTooLarge}
use Rattle.gds_law.specs.declared.kind.FaultKind.TheVariants.{PointerToMap}

-- bytes compared one after another
abbrev pub is_below : List ℕ → List ℕ → Bool
is_below a b = is_lt (slice_cmp nat_cmp a b)

-- this is what is wrong with the key's name or its subscripts
abbrev pub is_kind : FaultKind → FaultKind → Bool
is_kind BadName BadName = true
is_kind TooManySubscripts TooManySubscripts = true
is_kind BadNumber BadNumber = true
is_kind BadString BadString = true
is_kind NullSubscript NullSubscript = true
is_kind a b = false

abbrev pub has_key_fault : List ℕ → FaultKind → Bool
has_key_fault key kind = option_map_or (is_kind kind) (key_fault key) false

abbrev pub is_directory : TreeRole → Bool
is_directory directory = true
is_directory (global name) = false

-- the role is a global's of another name
abbrev pub is_other_global : TreeRole → List ℕ → Bool
is_other_global directory name = false
is_other_global (global own) name = not (bytes_eq own name)

-- A key is below its block's upper bound. It isn't below the lower one nor, in an index block, equal to it.
abbrev pub is_above_bound : Option (List ℕ) → List ℕ → Bool
is_above_bound high key = option_map_or (λ bound. not (is_below key bound)) high false

abbrev pub is_below_bound : ℕ → Option (List ℕ) → List ℕ → Bool
is_below_bound level low key =
    option_map_or (λ bound. is_below key bound || (nat_lt 0 level && bytes_eq key bound)) low false

abbrev pub has_pointer : BlockReading → PlacedRecord → (ℕ → Bool) → Bool
has_pointer b s test = option_map_or test (pointer_of b s) false

-- The kind is there, of a record that isn't the last one of an index block.
abbrev pub keyed_holds : BlockReading → PlacedRecord → FaultKind → Bool
keyed_holds b s FirstCount = is_first s && not (s.record_.count == 0)
keyed_holds b s CountTooLarge = not (is_first s) && nat_le (length s.previous) s.record_.count
keyed_holds b s KeyTooLong = is_none (key_end b s) && nat_lt b.header.key_max (length (full_of s))
keyed_holds b s KeyWithoutEnd = is_none (key_end b s) && nat_le (length (full_of s)) b.header.key_max
keyed_holds b s WrongCount = not (s.record_.count == shared s.previous (key_of b s))
keyed_holds b s KeyOutOfOrder = not (is_below s.previous (key_of b s))
keyed_holds b s DirectorySubscript =
    is_directory b.visit.role && is_none (key_fault (key_of b s)) && nat_lt 0 (length (subscript_parts (key_of b s)))
keyed_holds b s WrongGlobal = is_other_global b.visit.role (name_part (key_of b s))
keyed_holds b s KeyAboveBound = is_above_bound b.visit.high (key_of b s)
keyed_holds b s KeyBelowBound = is_below_bound b.level b.visit.low (key_of b s)
keyed_holds b s RestNotPointer = points b && not (length (rest_of b s) == 4)
keyed_holds b s ValueTooLong = not (points b) && nat_lt b.header.value_max (length (rest_of b s))
keyed_holds b s kind = has_key_fault (key_of b s) kind

-- the same of the last record
abbrev pub last_holds : PlacedRecord → FaultKind → Bool
last_holds s StarSize = not (size_of s == 8)
last_holds s StarCount = not (s.record_.count == 0)
last_holds s kind = false

-- The kind is there.
abbrev pub holds : BlockReading → PlacedRecord → FaultKind → Bool
holds b s PointerNotPositive = has_pointer b s (λ p. p == 0 || nat_le (2 ^ 31) p)
holds b s PointerTooLarge = has_pointer b s (λ p. nat_le b.header.total p && nat_lt p (2 ^ 31))
holds b s PointerToMap = has_pointer b s (λ p. nat_lt 0 p && nat_lt p b.header.total && (p % 512 == 0))
holds b s kind = if is_last b s then last_holds s kind else keyed_holds b s kind

-- the kinds that are told of a record: those that are there, up to the first that ends the reading
unfoldable pub kinds_of : BlockReading → PlacedRecord → List FaultKind
kinds_of b s = through_first ends (filter (holds b s) record_kinds)

-- The reading of the block ends with this record.
unfoldable pub is_ended : BlockReading → PlacedRecord → Bool
is_ended b s = list_any ends (kinds_of b s)

-- A pointer is sound where it names a block that is no map.
abbrev pub is_sound : BlockReading → ℕ → Bool
is_sound b p = nat_lt 0 p && nat_lt p b.header.total && not (p % 512 == 0)

-- the lower bound below a record: the key before it or, in the first record, the block's own
abbrev pub low_of : BlockReading → PlacedRecord → Option (List ℕ)
low_of b s = if is_first s then b.visit.low else Some s.previous

-- the upper one: the key or, in the last record, the block's own
abbrev pub high_of : BlockReading → PlacedRecord → Option (List ℕ)
high_of b s = if is_last b s then b.visit.high else Some (key_of b s)

-- where a sound pointer leads: in a level-0 block of the directory to the root of the key's name
unfoldable pub target_of : BlockReading → PlacedRecord → ℕ → Visit
target_of b s p =
    if b.level == 0 then global_root p (name_part (key_of b s))
    else record { block = p; role = b.visit.role; level = Some (b.level - 1); low = low_of b s; high = high_of b s }

abbrev pub child_to : BlockReading → PlacedRecord → Option ℕ → List Child
child_to b s None = []
child_to b s (Some p) = if is_sound b p then record { offset = s.record_.offset; visit = target_of b s p } ∷ [] else []

-- the child of a record that doesn't end the reading, if its pointer is sound
abbrev pub children_of_record : BlockReading → PlacedRecord → List Child
children_of_record b s = child_to b s (pointer_of b s)
