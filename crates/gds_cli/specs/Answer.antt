-- What each command says, how it ends, and what it leaves of the two files, at its end and at each moment.
use Rattle.std.specs.Prelude.{◌≡◌, ◌≢◌, ◌⊎◌, ℕ, MatchBool, List, [], ◌∷◌, ◌++◌, take, length, replicate, Result, Ok}
use Rattle.std.specs.Prelude.{Err, Option, Some, codes}
use Rattle.std.specs.Fmt.{decimal}
use Rattle.std.specs.FinMap.{empty}
use Rattle.host_model.specs.Disk.{SaysSome}
use Rattle.host_model.specs.Files.{Contents}
use Rattle.host_model.specs.Moments.{EachLeft, LeavesBy, LeavesOnly}
use Rattle.m_key.specs.Globals.{Globals}
use Rattle.m_text.specs.Extract.{zwr}
use Rattle.gds_header.specs.declared.header.Header.{Header}
use Rattle.gds_images.specs.Chain.{chain_of}
use Rattle.gds_images.specs.Recovered.{recovered}
use Rattle.gds_law.specs.declared.fault.Fault.{Fault}
use Rattle.gds_law.specs.Faults.{AreFaults}
use Rattle.gds_sound.specs.Stands.{StandsFor}
use Rattle.gds_new.specs.NewDatabase.{new_database}
use Rattle.gds_create.specs.Newborn.{HasBytes, IsEmpty, IsRefused, closed_images}
use Rattle.gds_opening.specs.Opening.{FindsFaults}
use Rattle.gds_script.specs.Answer.{answer_lines}
use Rattle.gds_recovery.specs.Found.{IsLeftAlone, LeavesSinceBarrier, SameFiles}
use Rattle.gds_run.specs.Run.{FindsNoMap, IsBrokenRun, IsRun, LeavesPrefixes}
use Rattle.gds_words.specs.declared.words.Command.{Command}
use Rattle.gds_words.specs.declared.words.Command.TheVariants.{Version, Integ, Extract, Create, Run}
use Rattle.gds_words.specs.declared.words.BadWords.{BadWords}
use Rattle.gds_cli.specs.FaultText.{fault_text}
use Rattle.gds_cli.specs.Thin.{IsThinWith}
use Rattle.gds_cli.specs.declared.status.Status.{Status}
use Rattle.gds_cli.specs.declared.status.Status.TheVariants as ended
use Rattle.gds_cli.specs.Status.{is_break}

-- what a call says, and the status that it ends with
pub record Reply : Type 0 where
  pub text : List ℕ
  pub status : Status

-- every line ends with byte 10
abbrev pub line : List ℕ → List ℕ
line text = text ++ 10 ∷ []

-- ---- what is due

-- VERSION says the label of the file format.
abbrev pub version : Reply
version = record { text = line (codes "GDSPROF1"); status = ended.Done }

-- The word at this place, counted from 0, is the first that fits no command.
abbrev pub bad_words : ℕ → Reply
bad_words place = record { text = line (codes "BADWORDS " ++ decimal place); status = ended.BadWords }

-- A file without faults is as it should be.
abbrev pub list_status : List Fault → Status
list_status [] = ended.Done
list_status (fault ∷ faults) = ended.Unsound

abbrev pub list_reply : List Fault → Reply
list_reply faults = record { text = fault_text faults; status = list_status faults }

-- INTEG says the faults of the database file, in their order, and how many they are.
abbrev pub FaultsDue : List ℕ → Reply → Type 0
FaultsDue image reply = (faults : List Fault) × AreFaults image faults × (reply ≡ list_reply faults)

-- the command isn't built yet for these files
abbrev pub not_built : Reply
not_built = record { text = line (codes "NOTBUILT"); status = ended.NotBuilt }

-- An extract says the text of the map that thin files stand for. For other files it isn't built.
abbrev pub ExtractDue : List ℕ → Contents → Reply → Type 0
ExtractDue stamp c reply =
    ((m : Globals) × IsThinWith c.db c.images m × (reply ≡ record { text = zwr m stamp; status = ended.Done }))
    ⊎ (((m : Globals) → IsThinWith c.db c.images m → ⊥) × (reply ≡ not_built))

-- They were empty, and are those of a new database with the numbers of a header.
pub record BecomesNew (h : Header) (before after : Contents) : Type 0 where
  pub empty : IsEmpty before
  pub db : after.db ≡ new_database h
  pub images : after.images ≡ closed_images

-- a header with the numbers of CREATE's words, which are all that a new database takes of it
abbrev pub header_with : ℕ → ℕ → ℕ → ℕ → ℕ → ℕ → Header
header_with block key value alloc ext limit = record {
  block_size = block;
  total = alloc;
  free = 0;
  extension = ext;
  limit = limit;
  key_max = key;
  value_max = value;
  tn = 0;
  master = replicate 256 0;
}

abbrev pub created : ℕ → Reply
created total = record { text = line (codes "CREATED " ++ decimal total); status = ended.Done }

abbrev pub not_empty : Reply
not_empty = record { text = line (codes "NOTEMPTY"); status = ended.NotEmpty }

-- CREATE makes a new database of two empty files, and says how many blocks it has. Where one has bytes, both stay.
abbrev pub CreateDue : Header → Contents → Reply → Contents → Type 0
CreateDue h before reply after =
    (BecomesNew h before after × (reply ≡ created h.total))
    ⊎ (HasBytes before × SameFiles before after × (reply ≡ not_empty))

-- where the file of images is damaged, and how many faults the recovered database has
abbrev pub bad_images : ℕ → Reply
bad_images at = record { text = line (codes "BADIMAGES " ++ decimal at); status = ended.BadImages }

abbrev pub unsound : ℕ → Reply
unsound faults = record { text = line (codes "UNSOUND " ++ decimal faults); status = ended.Unsound }

-- Why the files can't be opened.
abbrev pub RefusalDue : Contents → Reply → Type 0
RefusalDue c reply =
    ((at : ℕ) × (chain_of c.images (length c.db) ≡ Err at) × (reply ≡ bad_images at))
    ⊎ ((faults : ℕ) × (faults ≢ 0) × FindsFaults faults c × (reply ≡ unsound faults))

-- RUN answers each line of its input by a line, and leaves the database that the changes lead to. Where the files can't
-- be opened it says why, and leaves them alone.
abbrev pub RunDue : List ℕ → Contents → Reply → Contents → Type 0
RunDue input before reply after =
    ((run : IsRun input before after) × (reply ≡ record { text = answer_lines run.answers; status = ended.Done }))
    ⊎ (RefusalDue before reply × IsLeftAlone before after)

-- Which reply is due for the words, where the host holds this before and the input has this text, and what the files
-- hold once it is said.
abbrev pub Due : Result Command BadWords → List ℕ → Contents → Reply → Contents → Type 0
Due (Err bad) input before reply after = SameFiles before after × (reply ≡ bad_words bad.place)
Due (Ok Version) input before reply after = SameFiles before after × (reply ≡ version)
Due (Ok Integ) input before reply after = SameFiles before after × FaultsDue before.db reply
Due (Ok (Extract stamp)) input before reply after = SameFiles before after × ExtractDue stamp.items before reply
Due (Ok (Create block key value alloc ext limit)) input before reply after =
    CreateDue (header_with block key value alloc ext limit) before reply after
Due (Ok Run) input before reply after = RunDue input before reply after

-- ---- how a call ends

-- A reply that is due was said, whole, and its status given.
pub record Replies (due : Reply → Contents → Type 0) (status : Status) (before after : Contents) : Type 0 where
  pub reply : Reply
  pub is_due : due reply after
  pub ends : status ≡ reply.status
  pub says : after.said ≡ before.said ++ reply.text

-- Some bytes were said, which are a front of each reply that is due, whatever the files would have held.
pub record SaysFront (due : Reply → Contents → Type 0) (before after : Contents) : Type 0 where
  pub text : List ℕ
  pub says : after.said ≡ before.said ++ text
  pub front : (reply : Reply) (later : Contents) → due reply later → (n : ℕ) × (text ≡ take n reply.text)

-- Where CREATE breaks off, files of which one has bytes are as they were; and so are two empty files, or they are the
-- new database, unless a write failed.
pub record AllOrNothing (h : Header) (status : Status) (before after : Contents) : Type 0 where
  pub bytes : HasBytes before → SameFiles before after
  pub written : status ≢ ended.WriteFault → SameFiles before after ⊎ BecomesNew h before after

abbrev pub CreateBreaksOff : Header → Status → Contents → Contents → Type 0
CreateBreaksOff h status before after =
    SaysFront (CreateDue h before) before after × AllOrNothing h status before after

-- Nothing was said, or some first bytes of why the files can't be opened.
abbrev pub SaysRefusal : Contents → Contents → Type 0
SaysRefusal before after =
    (after.said ≡ before.said)
    ⊎ ((reply : Reply) × RefusalDue before reply × (n : ℕ) × (after.said ≡ before.said ++ take n reply.text))

-- Where RUN breaks off, nothing was said; or it answered some first lines of the input, and some first bytes of the
-- answers were said; or it said some first bytes of why the files can't be opened. What the files hold is among what a
-- crash leaves, and files that can't be opened are left alone.
abbrev pub RunBreaksOff : List ℕ → Contents → Contents → Type 0
RunBreaksOff input before after =
    (SaysRefusal before after ⊎ IsBrokenRun input before after) × (FindsNoMap before → IsLeftAlone before after)

-- The other commands leave both files as they are.
abbrev pub BreaksOff : Result Command BadWords → List ℕ → Status → Contents → Contents → Type 0
BreaksOff (Ok Run) input status before after = RunBreaksOff input before after
BreaksOff (Ok (Create block key value alloc ext limit)) input status before after =
    CreateBreaksOff (header_with block key value alloc ext limit) status before after
BreaksOff command input status before after =
    SaysFront (Due command input before) before after × SameFiles before after

-- A call says a reply that is due, or breaks off so.
abbrev pub EndsAs : (Reply → Contents → Type 0) → Type 0 → Status → Contents → Contents → Type 0
EndsAs due broken status before after = MatchBool (is_break status) broken (Replies due status before after)

-- How a call ends over a host that tells what it holds.
abbrev pub Ends : Result Command BadWords → List ℕ → Status → Contents → Contents → Type 0
Ends command input status before after =
    EndsAs (Due command input before) (BreaksOff command input status before after) status before after

-- The input has this text. The commands that read none are asked for nothing.
abbrev pub IsGiven : Result Command BadWords → Option (List ℕ) → List ℕ → Type 0
IsGiven (Ok Run) input text = input ≡ Some text
IsGiven command input text = Unit {0}

-- ---- what a crash leaves

-- An opening finds a database that stands for the map without nodes.
pub record FindsEmpty (c : Contents) : Type 0 where
  pub image : List ℕ
  pub recovers : recovered c.db c.images ≡ Some image
  pub stands : StandsFor image empty

-- An opening refuses the files, or finds no node in them; and some of the text was said. Where all of it was, no node
-- is found.
pub record IsRefusedOrEmpty (text : List ℕ) (before c : Contents) : Type 0 where
  pub finds : IsRefused c ⊎ FindsEmpty c
  pub said : (n : ℕ) × (c.said ≡ before.said ++ take n text)
  pub durable : c.said ≡ before.said ++ text → FindsEmpty c

-- Files that can't be opened are left alone, and some of why they can't be was said.
pub record IsLeftRefused (before c : Contents) : Type 0 where
  pub files : IsLeftAlone before c
  pub said : SaysRefusal before c

-- RUN may end before both files are stable for want of memory, or where that failed.
abbrev pub EndsEarly : Status → Type 0
EndsEarly ended.Memory = Unit {0}
EndsEarly ended.WriteFault = Unit {0}
EndsEarly other = ⊥

module _ {H : Type 0} (moment : H → ℕ) (left_since : H → ℕ → Contents → Type 0) where
  -- What a crash at any moment of a CREATE of so many blocks leaves. Where one before left two empty files, it leaves
  -- files that are refused, or without a node once it was said that they are made. Files with bytes stay.
  pub record LeavesCreated (total : ℕ) (status : Status) (old now : H) (before : Contents) : Type 0 where
    pub empty : EachLeft moment left_since old IsEmpty
        → LeavesOnly moment left_since old now (IsRefusedOrEmpty (created total).text before)
    pub done : status ≡ ended.Done → EachLeft moment left_since now FindsEmpty
    pub bytes : HasBytes before → LeavesBy moment left_since (SaysSome not_empty.text) old now

  -- What one of a RUN leaves, from when both files are stable: the map after a prefix of the answered changes, with all
  -- those that the last line `EPOCH n` tells. Files that can't be opened it leaves alone.
  pub record LeavesRun (input : List ℕ) (status : Status) (old now : H) (before : Contents) : Type 0 where
    pub opened : LeavesPrefixes moment left_since (EndsEarly status) input before old now
    pub refused : FindsNoMap before
        → LeavesSinceBarrier moment left_since (EndsEarly status) old now (IsLeftRefused before)

  -- VERSION and bad words leave what was there, with some of the reply said. Of INTEG and EXTRACT nothing is said.
  abbrev pub Leaves : Result Command BadWords → List ℕ → Status → H → H → Contents → Type 0
  Leaves (Err bad) input status old now before =
      LeavesBy moment left_since (SaysSome (bad_words bad.place).text) old now
  Leaves (Ok Version) input status old now before = LeavesBy moment left_since (SaysSome version.text) old now
  Leaves (Ok (Create block key value alloc ext limit)) input status old now before =
      LeavesCreated alloc status old now before
  Leaves (Ok Run) input status old now before = LeavesRun input status old now before
  Leaves command input status old now before = Unit {0}
