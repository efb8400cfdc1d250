-- What is known of a record that was read and doesn't end the reading of its block.
use Rattle.std.specs.Prelude.{ℕ, ◌≡◌, ◌+◌, ◌≤◌, ◌<◌, ◌⊎◌, true, false, List, [], ◌++◌, if◌then◌else◌, length, take}
use Rattle.std.specs.Prelude.{drop, Option, None, Some}
use Rattle.arrayvec.specs.ArrayVec.{ArrayVec}
use Rattle.gds_block.specs.View.{record_of}
use Rattle.m_key.specs.KeyEnd.{HasOpenFronts}
use Rattle.gds_law.specs.BlockReading as law
use Rattle.gds_law.specs.Record.{keyed_holds, kinds_of, is_ended, children_of_record}
use Rattle.gds_law.specs.Visit.{Child}
use Rattle.gds_law.specs.Key.{key_fault}
use Rattle.gds_law.specs.declared.kind.FaultKind.{FaultKind}
use Rattle.gds_law.specs.declared.kind.FaultKind.TheVariants.{FirstCount, CountTooLarge, KeyTooLong, KeyWithoutEnd}
use Rattle.gds_law.specs.declared.fault.Fault.{Fault}
use Rattle.integ_block.specs.BlockReading.{reading, faults_at}
use Rattle.integ_block.specs.declared.record.Record.{Record}
use Rattle.integ_block.specs.declared.entry.Entry.{Entry}

abbrev pub seen : Record → law.PlacedRecord
seen r = record { previous = r.previous.now.items; record_ = record_of r.view }

-- the last record of an index block, of the right size
pub record IsStar (b : law.BlockReading) (s : law.PlacedRecord) (rest : List ℕ) : Type 0 where
  pub last : law.is_last b s ≡ true
  pub body : rest ≡ s.record_.body
  pub size : length s.record_.body ≡ 4

-- any other record that has a key, with its parts and what is wrong with the key
pub record IsKeyed (b : law.BlockReading) (s : law.PlacedRecord) (key rest : List ℕ) (fault : Option FaultKind) : Type 0
  where
    pub not_last : law.is_last b s ≡ false
    pub first_count : keyed_holds b s FirstCount ≡ false
    pub later_count : keyed_holds b s CountTooLarge ≡ false
    pub not_long : keyed_holds b s KeyTooLong ≡ false
    pub with_end : keyed_holds b s KeyWithoutEnd ≡ false
    pub whole : law.key_of b s ≡ key
    pub behind : law.rest_of b s ≡ rest
    pub name : key_fault key ≡ fault
    pub fronts : HasOpenFronts key
    pub short : length key ≤ 255

abbrev pub IsRead : law.BlockReading → law.PlacedRecord → Option (ArrayVec ℕ) → List ℕ → Option FaultKind → Type 0
IsRead b s None rest fault = IsStar b s rest
IsRead b s (Some key) rest fault = IsKeyed b s key.items rest fault

abbrev pub IsEntry : Entry → Type 0
IsEntry e = IsRead (reading e.record.reading) (seen e.record) e.key e.rest.now e.fault

-- The count of a record that isn't the last one of an index block is lawful.
pub record IsCount (b : law.BlockReading) (s : law.PlacedRecord) : Type 0 where
  pub first_count : keyed_holds b s FirstCount ≡ false
  pub later_count : keyed_holds b s CountTooLarge ≡ false
  pub within : s.record_.count ≤ length s.previous
  pub none_or_less : (s.record_.count ≡ 0) ⊎ (s.record_.count < length s.previous)

-- So many bytes of a record's body belong to its key.
pub record IsKeyPart (b : law.BlockReading) (s : law.PlacedRecord) (n : ℕ) : Type 0 where
  pub within : n ≤ length s.record_.body
  pub not_long : keyed_holds b s KeyTooLong ≡ false
  pub with_end : keyed_holds b s KeyWithoutEnd ≡ false
  pub whole : law.key_of b s ≡ take s.record_.count s.previous ++ take n s.record_.body
  pub behind : law.rest_of b s ≡ drop n s.record_.body
  pub fronts : HasOpenFronts (law.key_of b s)
  pub short : s.record_.count + n ≤ b.header.key_max

-- the children of a record alone
abbrev pub children_at : law.BlockReading → law.PlacedRecord → List Child
children_at b s = if is_ended b s then [] else children_of_record b s

-- The reading goes on behind a record with this key.
pub record IsNext (b : law.BlockReading) (s : law.PlacedRecord) (key : List ℕ) : Type 0 where
  pub goes_on : is_ended b s ≡ false
  pub whole : law.key_of b s ≡ key
  pub fronts : HasOpenFronts key

-- It does so with a key, or ends with this record.
abbrev pub Leaves : law.BlockReading → law.PlacedRecord → Option (ArrayVec ℕ) → Type 0
Leaves b s None = (is_ended b s ≡ true) ⊎ (law.is_last b s ≡ true)
Leaves b s (Some key) = IsNext b s key.items

-- the kinds of a record as it stands, its faults as they are told, and its children
abbrev pub kinds_here : Record → List FaultKind
kinds_here r = kinds_of (reading r.reading) (seen r)

abbrev pub faults_here : Record → List Fault
faults_here r = faults_at (reading r.reading) r.reading.at.now.path r.view.offset (kinds_here r)

abbrev pub children_here : Record → List Child
children_here r = children_at (reading r.reading) (seen r)

-- What it leaves.
abbrev pub LeavesHere : Record → Option (ArrayVec ℕ) → Type 0
LeavesHere r key = Leaves (reading r.reading) (seen r) key
