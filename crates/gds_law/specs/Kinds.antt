-- The kinds of faults: their names, which of them end a reading, and their order.
use Rattle.std.specs.Prelude.{ℕ, Bool, true, false, List, [], ◌∷◌, codes}
use Rattle.gds_header.specs.declared.kind.HeaderKind.{HeaderKind}
use Rattle.gds_header.specs.declared.kind.HeaderKind.TheVariants as header
use Rattle.gds_law.specs.declared.kind.FaultKind.{FaultKind}
use Rattle.gds_law.specs.declared.kind.FaultKind.TheVariants.{ShortHeader, NotDatabase, BlockSizeNotMultiple}
use Rattle.gds_law.specs.declared.kind.FaultKind.TheVariants.{BlockSizeTooLarge, NoBlocks, BadLimit, ShortFile}
use Rattle.gds_law.specs.declared.kind.FaultKind.TheVariants.{LongFile, ReservedByte, BadTransactionNumber, BadVersion}
use Rattle.gds_law.specs.declared.kind.FaultKind.TheVariants.{TransactionTooNew, UsedTooSmall, UsedTooLarge}
use Rattle.gds_law.specs.declared.kind.FaultKind.TheVariants.{RootAtLevelZero, WrongLevel, EmptyBlock, RecordTooSmall}
use Rattle.gds_law.specs.declared.kind.FaultKind.TheVariants.{RecordTooLarge, StarSize, StarCount, FirstCount}
use Rattle.gds_law.specs.declared.kind.FaultKind.TheVariants.{CountTooLarge, KeyTooLong, KeyWithoutEnd, WrongCount}
use Rattle.gds_law.specs.declared.kind.FaultKind.TheVariants.{KeyOutOfOrder, BadName, TooManySubscripts, BadNumber}
use Rattle.gds_law.specs.declared.kind.FaultKind.TheVariants.{BadString, NullSubscript, DirectorySubscript, WrongGlobal}
use Rattle.gds_law.specs.declared.kind.FaultKind.TheVariants.{KeyAboveBound, KeyBelowBound, RestNotPointer}
use Rattle.gds_law.specs.declared.kind.FaultKind.TheVariants.{ValueTooLong, PointerNotPositive, PointerTooLarge}
use Rattle.gds_law.specs.declared.kind.FaultKind.TheVariants.{PointerToMap, DoublyAllocated, MapUsedTooSmall}
use Rattle.gds_law.specs.declared.kind.FaultKind.TheVariants.{MapUsedTooLarge, MapLevel, GroupMarkedFree}
use Rattle.gds_law.specs.declared.kind.FaultKind.TheVariants.{GroupMarkedFull, IllegalPair, UsedMarkedFree}
use Rattle.gds_law.specs.declared.kind.FaultKind.TheVariants.{UnusedMarkedBusy, PairPastTotal, WrongFreeCount}

-- the name under which a kind is told
abbrev pub name_of : FaultKind → List ℕ
name_of ShortHeader = codes "DBFSTHEAD"
name_of NotDatabase = codes "DBNOTDB"
name_of BlockSizeNotMultiple = codes "DBNOTMLTP"
name_of BlockSizeTooLarge = codes "DBSZGT64K"
name_of NoBlocks = codes "DBTTLBLK0"
name_of BadLimit = codes "GDSLIMIT"
name_of ShortFile = codes "DBFSTBC"
name_of LongFile = codes "DBFGTBC"
name_of ReservedByte = codes "GDSRESV"
name_of BadTransactionNumber = codes "GDSTN"
name_of BadVersion = codes "GDSVERS"
name_of TransactionTooNew = codes "GDSBLKTN"
name_of UsedTooSmall = codes "DBBSIZMN"
name_of UsedTooLarge = codes "DBBSIZMX"
name_of RootAtLevelZero = codes "DBROOTBURN"
name_of WrongLevel = codes "DBINCLVL"
name_of EmptyBlock = codes "GDSEMPTY"
name_of RecordTooSmall = codes "DBRSIZMN"
name_of RecordTooLarge = codes "DBRSIZMX"
name_of StarSize = codes "DBSTARSIZ"
name_of StarCount = codes "DBSTARCMP"
name_of FirstCount = codes "DBCMPNZRO"
name_of CountTooLarge = codes "DBCMPMX"
name_of KeyTooLong = codes "DBGTDBMAX"
name_of KeyWithoutEnd = codes "GDSKEYEND"
name_of WrongCount = codes "DBCMPBAD"
name_of KeyOutOfOrder = codes "DBKEYORD"
name_of BadName = codes "DBBADKYNM"
name_of TooManySubscripts = codes "DBMAXNRSUBS"
name_of BadNumber = codes "DBBADNSUB"
name_of BadString = codes "GDSBADSTR"
name_of NullSubscript = codes "GDSNULL"
name_of DirectorySubscript = codes "DBDIRTSUBSC"
name_of WrongGlobal = codes "DBINVGBL"
name_of KeyAboveBound = codes "DBKEYGTIND"
name_of KeyBelowBound = codes "DBLTSIBL"
name_of RestNotPointer = codes "GDSREST"
name_of ValueTooLong = codes "GDSVALUE"
name_of PointerNotPositive = codes "DBPTRNOTPOS"
name_of PointerTooLarge = codes "DBPTRMX"
name_of PointerToMap = codes "DBPTRMAP"
name_of DoublyAllocated = codes "DBBDBALLOC"
name_of MapUsedTooSmall = codes "DBMBSIZMN"
name_of MapUsedTooLarge = codes "DBMBSIZMX"
name_of MapLevel = codes "DBLVLINC"
name_of GroupMarkedFree = codes "DBMBMINCFRE"
name_of GroupMarkedFull = codes "GDSMBFULL"
name_of IllegalPair = codes "DBBFSTAT"
name_of UsedMarkedFree = codes "DBMRKFREE"
name_of UnusedMarkedBusy = codes "DBMRKBUSY"
name_of PairPastTotal = codes "GDSBEYOND"
name_of WrongFreeCount = codes "GDSFREE"

-- a header's kind as a kind of fault
abbrev pub fault_kind_of : HeaderKind → FaultKind
fault_kind_of header.ShortHeader = ShortHeader
fault_kind_of header.NotDatabase = NotDatabase
fault_kind_of header.BlockSizeNotMultiple = BlockSizeNotMultiple
fault_kind_of header.BlockSizeTooLarge = BlockSizeTooLarge
fault_kind_of header.NoBlocks = NoBlocks
fault_kind_of header.BadLimit = BadLimit
fault_kind_of header.ShortFile = ShortFile
fault_kind_of header.LongFile = LongFile
fault_kind_of header.ReservedByte = ReservedByte
fault_kind_of header.BadTransactionNumber = BadTransactionNumber

-- No later kind, record or pointer of the block is asked behind such a kind.
abbrev pub ends : FaultKind → Bool
ends ShortHeader = true
ends NotDatabase = true
ends BlockSizeNotMultiple = true
ends BlockSizeTooLarge = true
ends NoBlocks = true
ends BadLimit = true
ends ShortFile = true
ends UsedTooSmall = true
ends UsedTooLarge = true
ends RootAtLevelZero = true
ends WrongLevel = true
ends RecordTooSmall = true
ends RecordTooLarge = true
ends StarSize = true
ends FirstCount = true
ends CountTooLarge = true
ends KeyTooLong = true
ends KeyWithoutEnd = true
ends _ = false

-- the kinds that are asked of a block's head, in their order
abbrev pub head_kinds : List FaultKind
head_kinds =
    BadVersion ∷ TransactionTooNew ∷ UsedTooSmall ∷ UsedTooLarge ∷ RootAtLevelZero ∷ WrongLevel ∷
    EmptyBlock ∷ []

-- those that are asked of a record whose size is right
abbrev pub record_kinds : List FaultKind
record_kinds =
    StarSize ∷ StarCount ∷ FirstCount ∷ CountTooLarge ∷ KeyTooLong ∷ KeyWithoutEnd ∷ WrongCount ∷
    KeyOutOfOrder ∷ BadName ∷ TooManySubscripts ∷ BadNumber ∷ BadString ∷ NullSubscript ∷
    DirectorySubscript ∷ WrongGlobal ∷ KeyAboveBound ∷ KeyBelowBound ∷ RestNotPointer ∷ ValueTooLong ∷
    PointerNotPositive ∷ PointerTooLarge ∷ PointerToMap ∷ []

-- those that are asked of a local bitmap, and of each of its pairs
abbrev pub map_kinds : List FaultKind
map_kinds =
    BadVersion ∷ TransactionTooNew ∷ MapUsedTooSmall ∷ MapUsedTooLarge ∷ MapLevel ∷ GroupMarkedFree
    ∷ GroupMarkedFull ∷ []

abbrev pub pair_kinds : List FaultKind
pair_kinds = IllegalPair ∷ UsedMarkedFree ∷ UnusedMarkedBusy ∷ PairPastTotal ∷ []
