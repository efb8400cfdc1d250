-- Which error of a run stands for which of what it calls.
use Rattle.gds_base.specs.declared.error.BaseError.{BaseError}
use Rattle.gds_base.specs.declared.error.BaseError.TheVariants as base
use Rattle.gds_lines.specs.declared.error.LinesError.{LinesError}
use Rattle.gds_lines.specs.declared.error.LinesError.TheVariants as lines
use Rattle.gds_units.specs.declared.error.UnitError.{UnitError}
use Rattle.gds_units.specs.declared.error.UnitError.TheVariants as units
use Rattle.gds_run.specs.declared.error.RunError.{RunError}
use Rattle.gds_run.specs.declared.error.RunError.TheVariants as run

abbrev pub line_error : LinesError → RunError
line_error lines.Memory = run.Memory
line_error lines.InputFault = run.InputFault
line_error lines.InputTooLong = run.InputTooLong

-- of an opening; what isn't opened by it has changed
abbrev pub opening_error : UnitError → RunError
opening_error units.Memory = run.Memory
opening_error units.ReadFault = run.ReadFault
opening_error units.WriteFault = run.WriteFault
opening_error units.Stopped = run.WriteFault
opening_error units.NotEmpty = run.Changed 0
opening_error (units.BadImages at) = run.BadImages at
opening_error (units.Unsound faults) = run.Unsound faults
opening_error (units.Changed unit) = run.Changed unit

-- Of a call on an open database. Those that answer a line are none of a run.
abbrev pub base_error : BaseError → RunError
base_error base.Memory = run.Memory
base_error base.ReadFault = run.ReadFault
base_error base.WriteFault = run.WriteFault
base_error base.Stopped = run.WriteFault
base_error (base.Changed unit) = run.Changed unit
base_error _ = run.Changed 0
