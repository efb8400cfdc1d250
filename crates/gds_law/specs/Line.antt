-- The line in which a fault is told.
use Rattle.std.specs.Prelude.{ℕ, ◌%◌, ◌==◌, true, List, [], ◌∷◌, ◌++◌, codes, flat_map, if◌then◌else◌}
use Rattle.std.specs.Fmt.{decimal, digits}
use Rattle.gds_law.specs.Kinds.{name_of}
use Rattle.gds_law.specs.declared.fault.Fault.{Fault}
use Rattle.gds_law.specs.declared.kind.FaultKind.{FaultKind}
use Rattle.gds_law.specs.declared.kind.FaultKind.TheVariants.{ShortHeader, NotDatabase, BlockSizeNotMultiple}
use Rattle.gds_law.specs.declared.kind.FaultKind.TheVariants.{BlockSizeTooLarge, NoBlocks, BadLimit, ShortFile}
use Rattle.gds_law.specs.declared.kind.FaultKind.TheVariants.{LongFile, ReservedByte, BadTransactionNumber, BadVersion}
use Rattle.gds_law.specs.declared.kind.FaultKind.TheVariants.{TransactionTooNew, MapUsedTooSmall, MapUsedTooLarge}
use Rattle.gds_law.specs.declared.kind.FaultKind.TheVariants.{MapLevel, GroupMarkedFree, GroupMarkedFull, IllegalPair}
use Rattle.gds_law.specs.declared.kind.FaultKind.TheVariants.{UsedMarkedFree, UnusedMarkedBusy, PairPastTotal}
use Rattle.gds_law.specs.declared.kind.FaultKind.TheVariants.{WrongFreeCount}

-- what a fault is about: the file, a local bitmap or what it says of a block, or a block of a tree
pub data Subject : Type 0 where
  file : Subject
  map : Subject
  tree : Subject

-- A block whose number is a multiple of 512 is a map, and in no tree.
abbrev pub subject_of_block : ℕ → Subject
subject_of_block block = if block % 512 == 0 then map else tree

abbrev pub subject_of : FaultKind → ℕ → Subject
subject_of ShortHeader block = file
subject_of NotDatabase block = file
subject_of BlockSizeNotMultiple block = file
subject_of BlockSizeTooLarge block = file
subject_of NoBlocks block = file
subject_of BadLimit block = file
subject_of ShortFile block = file
subject_of LongFile block = file
subject_of ReservedByte block = file
subject_of BadTransactionNumber block = file
subject_of WrongFreeCount block = file
subject_of MapUsedTooSmall block = map
subject_of MapUsedTooLarge block = map
subject_of MapLevel block = map
subject_of GroupMarkedFree block = map
subject_of GroupMarkedFull block = map
subject_of IllegalPair block = map
subject_of UsedMarkedFree block = map
subject_of UnusedMarkedBusy block = map
subject_of PairPastTotal block = map
subject_of BadVersion block = subject_of_block block
subject_of TransactionTooNew block = subject_of_block block
subject_of kind block = tree

-- capital hexadecimal digits without leading zeros
abbrev pub hexadecimal : ℕ → List ℕ
hexadecimal n = digits 16 true n

-- block:offset, and the same of each record of a path, with a space before each
abbrev pub place_text : ℕ × ℕ → List ℕ
place_text (block, offset) = hexadecimal block ++ codes ":" ++ hexadecimal offset

abbrev pub path_text : List (ℕ × ℕ) → List ℕ
path_text [] = codes " -"
path_text (step ∷ steps) = flat_map (λ place. 32 ∷ place_text place) (step ∷ steps)

abbrev pub text_about : Subject → Fault → List ℕ
text_about file f = codes "file"
text_about map f = hexadecimal f.block ++ codes " map"
text_about tree f =
    place_text (f.block, f.offset) ++ codes " level " ++ decimal f.level ++ codes " path" ++ path_text f.path

-- the line, without the byte that ends it
unfoldable pub line_of : Fault → List ℕ
line_of f = name_of f.kind ++ codes " " ++ text_about (subject_of f.kind f.block) f
