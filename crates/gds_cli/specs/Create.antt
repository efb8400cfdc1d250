-- How CREATE ends.
use Rattle.host_model.specs.Files.{Contents}
use Rattle.gds_header.specs.declared.header.Header.{Header}
use Rattle.gds_cli.specs.declared.status.Status.{Status}
use Rattle.gds_cli.specs.declared.status.Status.TheVariants as ended
use Rattle.gds_cli.specs.Answer.{CreateBreaksOff, CreateDue, EndsAs}

abbrev pub CreateEnds : Header → Status → Contents → Contents → Type 0
CreateEnds h status before after =
    EndsAs (CreateDue h before) (CreateBreaksOff h status before after) status before after

-- Which statuses it may give.
abbrev pub IsCreateStatus : Status → Type 0
IsCreateStatus ended.Done = Unit {0}
IsCreateStatus ended.NotEmpty = Unit {0}
IsCreateStatus ended.Memory = Unit {0}
IsCreateStatus ended.ReadFault = Unit {0}
IsCreateStatus ended.WriteFault = Unit {0}
IsCreateStatus ended.SayFault = Unit {0}
IsCreateStatus other = ⊥
