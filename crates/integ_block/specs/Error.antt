-- What the troubles of those that INTEG calls are to it.
use Rattle.host_model.specs.declared.units.UnitTrouble.{UnitTrouble}
use Rattle.host_model.specs.declared.units.UnitTrouble.TheVariants as unit
use Rattle.gds_law.specs.declared.sink.SinkTrouble.{SinkTrouble}
use Rattle.gds_law.specs.declared.sink.SinkTrouble.TheVariants as sink
use Rattle.integ_block.specs.declared.error.IntegError.{IntegError}
use Rattle.integ_block.specs.declared.error.IntegError.TheVariants as error

abbrev pub of_sink : SinkTrouble → IntegError
of_sink sink.Memory = error.Memory
of_sink sink.Failed = error.SayFault

abbrev pub of_unit : UnitTrouble → IntegError
of_unit unit.Memory = error.Memory
of_unit unit.Failed = error.ReadFault
of_unit (unit.Changed n) = error.Changed n
