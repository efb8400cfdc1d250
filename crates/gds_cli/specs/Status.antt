-- The exit status of each ending, which endings each command may have, and what they tell of the device.
use Rattle.std.specs.Prelude.{ℕ, ◌≡◌, Bool, true, false, Result, Ok, Err}
use Rattle.host_model.specs.Failures.{Failures, Rose}
use Rattle.gds_words.specs.declared.words.Command.{Command}
use Rattle.gds_words.specs.declared.words.Command.TheVariants.{Version, Integ, Extract, Create, Run}
use Rattle.gds_words.specs.declared.words.BadWords.{BadWords}
use Rattle.gds_cli.specs.declared.status.Status.{Status}
use Rattle.gds_cli.specs.declared.status.Status.TheVariants as ended

abbrev pub code_of : Status → ℕ
code_of ended.Done = 0
code_of ended.Memory = 1
code_of ended.ReadFault = 2
code_of ended.WriteFault = 3
code_of ended.SayFault = 4
code_of ended.InputFault = 5
code_of ended.InputTooLong = 6
code_of ended.BadWords = 7
code_of ended.NotEmpty = 8
code_of ended.BadImages = 9
code_of ended.Unsound = 10
code_of ended.Changed = 11
code_of ended.Full = 13
code_of ended.TooDeep = 14
code_of ended.BadLine = 15
code_of ended.Refused = 16
code_of ended.TnSpent = 18
code_of ended.NoBlock = 19
code_of ended.BadEdit = 20
code_of ended.SnapshotLost = 21
code_of ended.NotBuilt = 22

-- A failure of the device or of the input, or want of memory: the reply may be cut off.
abbrev pub is_break : Status → Bool
is_break ended.Memory = true
is_break ended.ReadFault = true
is_break ended.WriteFault = true
is_break ended.SayFault = true
is_break ended.InputFault = true
is_break ended.InputTooLong = true
is_break other = false

-- Which endings the words may have, whatever the device does. Only a file that is read can meet a failure of reading or
-- a change, and only one that is written a failure of writing; only a text that is put together wants memory.
abbrev pub MayEnd : Result Command BadWords → Status → Type 0
MayEnd command ended.SayFault = Unit {0}
MayEnd (Err bad) ended.BadWords = Unit {0}
MayEnd (Err bad) ended.Memory = Unit {0}
MayEnd (Ok Version) ended.Done = Unit {0}
MayEnd (Ok (Create block key value alloc ext limit)) ended.Done = Unit {0}
MayEnd (Ok (Create block key value alloc ext limit)) ended.NotEmpty = Unit {0}
MayEnd (Ok (Create block key value alloc ext limit)) ended.ReadFault = Unit {0}
MayEnd (Ok (Create block key value alloc ext limit)) ended.WriteFault = Unit {0}
MayEnd (Ok (Create block key value alloc ext limit)) ended.Memory = Unit {0}
MayEnd (Ok Run) ended.Done = Unit {0}
MayEnd (Ok Run) ended.BadImages = Unit {0}
MayEnd (Ok Run) ended.Unsound = Unit {0}
MayEnd (Ok Run) ended.Changed = Unit {0}
MayEnd (Ok Run) ended.ReadFault = Unit {0}
MayEnd (Ok Run) ended.WriteFault = Unit {0}
MayEnd (Ok Run) ended.InputFault = Unit {0}
MayEnd (Ok Run) ended.InputTooLong = Unit {0}
MayEnd (Ok Run) ended.Memory = Unit {0}
MayEnd (Ok Integ) ended.Unsound = Unit {0}
MayEnd (Ok Integ) ended.Done = Unit {0}
MayEnd (Ok Integ) ended.Changed = Unit {0}
MayEnd (Ok Integ) ended.ReadFault = Unit {0}
MayEnd (Ok Integ) ended.Memory = Unit {0}
MayEnd (Ok (Extract stamp)) ended.Done = Unit {0}
MayEnd (Ok (Extract stamp)) ended.NotBuilt = Unit {0}
MayEnd (Ok (Extract stamp)) ended.Changed = Unit {0}
MayEnd (Ok (Extract stamp)) ended.ReadFault = Unit {0}
MayEnd (Ok (Extract stamp)) ended.Memory = Unit {0}
MayEnd command other = ⊥

-- the commands that touch no file, so that they ask the host for their saying alone
abbrev pub TouchesNoFile : Result Command BadWords → Type 0
TouchesNoFile (Err bad) = Unit {0}
TouchesNoFile (Ok Version) = Unit {0}
TouchesNoFile (Ok (Create block key value alloc ext limit)) = ⊥
TouchesNoFile (Ok Run) = ⊥
TouchesNoFile (Ok Integ) = ⊥
TouchesNoFile (Ok (Extract stamp)) = ⊥

-- The status of a failed device has its cause: the count of such failures rose.
pub record HasCause (status : Status) (before now : Failures) : Type 0 where
  pub read_fault : status ≡ ended.ReadFault → Rose before.read now.read
  pub write_fault : status ≡ ended.WriteFault → Rose before.write now.write
  pub say_fault : status ≡ ended.SayFault → Rose before.say now.say
