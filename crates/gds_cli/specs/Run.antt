-- How RUN ends, and what it says of an error.
use Rattle.std.specs.Prelude.{◌≡◌, ◌⊎◌, ◌++◌, List, ℕ, codes}
use Rattle.std.specs.Fmt.{decimal}
use Rattle.host_model.specs.Disk.{SaysSome}
use Rattle.host_model.specs.Failures.{Failures, Rose}
use Rattle.host_model.specs.Files.{Contents}
use Rattle.host_model.specs.Moments.{LeavesBy}
use Rattle.gds_run.specs.declared.error.RunError.{RunError}
use Rattle.gds_run.specs.declared.error.RunError.TheVariants as error
use Rattle.gds_cli.specs.declared.status.Status.{Status}
use Rattle.gds_cli.specs.declared.status.Status.TheVariants as ended
use Rattle.gds_cli.specs.Answer.{EndsAs, Reply, RunBreaksOff, RunDue, bad_images, line, unsound}
use Rattle.gds_cli.specs.Saying.{Answers}

abbrev pub RunEnds : List ℕ → Status → Contents → Contents → Type 0
RunEnds input status before after =
    EndsAs (RunDue input before) (RunBreaksOff input before after) status before after

-- the status of an error of which nothing is said, or of its line
abbrev pub status_of : RunError → Status
status_of error.Memory = ended.Memory
status_of error.ReadFault = ended.ReadFault
status_of error.WriteFault = ended.WriteFault
status_of error.SayFault = ended.SayFault
status_of error.InputFault = ended.InputFault
status_of error.InputTooLong = ended.InputTooLong
status_of (error.BadImages at) = ended.BadImages
status_of (error.Unsound faults) = ended.Unsound
status_of (error.Changed unit) = ended.Changed

-- A unit of the database file, 0 for its header, isn't as it was. It comes over hosts alone that tell nothing.
abbrev pub changed : ℕ → Reply
changed unit = record { text = line (codes "CHANGED " ++ decimal unit); status = ended.Changed }

-- What is wrong with the files is said, and of another error nothing.
abbrev pub SaysWhy : RunError → Status → Contents → Contents → Type 0
SaysWhy (error.BadImages at) status before after = Answers (bad_images at) status before after
SaysWhy (error.Unsound faults) status before after = Answers (unsound faults) status before after
SaysWhy (error.Changed unit) status before after = Answers (changed unit) status before after
SaysWhy other status before after = after ≡ before

-- A line with this status was said, or memory ran out, or saying failed.
abbrev pub SaidOrBroken : Status → Status → Failures → Failures → Type 0
SaidOrBroken wanted status before now =
    (status ≡ wanted) ⊎ ((status ≡ ended.Memory) ⊎ ((status ≡ ended.SayFault) × Rose before.say now.say))

abbrev pub GivesStatus : RunError → Status → Failures → Failures → Type 0
GivesStatus (error.BadImages at) status before now = SaidOrBroken ended.BadImages status before now
GivesStatus (error.Unsound faults) status before now = SaidOrBroken ended.Unsound status before now
GivesStatus (error.Changed unit) status before now = SaidOrBroken ended.Changed status before now
GivesStatus other status before now = status ≡ status_of other

-- the errors of which nothing is said
abbrev pub IsSilent : RunError → Type 0
IsSilent (error.BadImages at) = ⊥
IsSilent (error.Unsound faults) = ⊥
IsSilent (error.Changed unit) = ⊥
IsSilent other = Unit {0}

-- A crash leaves both files as one before would have, with some of the line said.
module _ {H : Type 0} (moment : H → ℕ) (left_since : H → ℕ → Contents → Type 0) where
  abbrev pub LeavesSaying : RunError → H → H → Type 0
  LeavesSaying (error.BadImages at) old now = LeavesBy moment left_since (SaysSome (bad_images at).text) old now
  LeavesSaying (error.Unsound faults) old now = LeavesBy moment left_since (SaysSome (unsound faults).text) old now
  LeavesSaying other old now = Unit {0}
