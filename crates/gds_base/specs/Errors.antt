-- Which error of a base stands for which of its units.
use Rattle.host_model.specs.declared.units.UnitTrouble.{UnitTrouble}
use Rattle.host_model.specs.declared.units.UnitTrouble.TheVariants as trouble
use Rattle.gds_base.specs.declared.error.BaseError.{BaseError}
use Rattle.gds_base.specs.declared.error.BaseError.TheVariants as answer
use Rattle.gds_units.specs.declared.error.UnitError.{UnitError}
use Rattle.gds_units.specs.declared.error.UnitError.TheVariants as units

-- What can't be opened, or is there already, isn't what it was when it was opened.
abbrev pub base_error : UnitError → BaseError
base_error units.Memory = answer.Memory
base_error units.ReadFault = answer.ReadFault
base_error units.WriteFault = answer.WriteFault
base_error units.Stopped = answer.Stopped
base_error (units.Changed unit) = answer.Changed unit
base_error _ = answer.Changed 0

abbrev pub trouble_error : UnitTrouble → BaseError
trouble_error trouble.Memory = answer.Memory
trouble_error trouble.Failed = answer.ReadFault
trouble_error (trouble.Changed unit) = answer.Changed unit
