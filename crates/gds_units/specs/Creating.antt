-- How a new database is made, and what each error of that is blamed on.
use Rattle.std.specs.Prelude.{Option}
use Rattle.std.specs.Option.{ForSome}
use Rattle.host_model.specs.Failures.{Failures, Rose}
use Rattle.host_model.specs.Files.{Contents}
use Rattle.gds_create.specs.Newborn.{HasBytes, IsEmpty}
use Rattle.gds_create.specs.declared.error.CreateError.{CreateError}
use Rattle.gds_create.specs.declared.error.CreateError.TheVariants as create
use Rattle.gds_units.specs.declared.error.UnitError.{UnitError}
use Rattle.gds_units.specs.declared.error.UnitError.TheVariants as answer

-- the error that is answered where making the files ends with this one
abbrev pub made_error : CreateError → UnitError
made_error create.Memory = answer.Memory
made_error create.ReadFault = answer.ReadFault
made_error create.WriteFault = answer.WriteFault
made_error create.NotEmpty = answer.NotEmpty

-- The cause of each error, where the host told this before, and so often calls had failed before and have now. For want
-- of memory there is none that a clause could name. The other errors never come.
abbrev pub HasCreatingCause : Option Contents → Failures → Failures → UnitError → Type 0
HasCreatingCause told before now answer.Memory = Unit {0}
HasCreatingCause told before now answer.ReadFault = Rose before.read now.read
HasCreatingCause told before now answer.WriteFault = Rose before.write now.write × ForSome told IsEmpty
HasCreatingCause told before now answer.NotEmpty = ForSome told HasBytes
HasCreatingCause told before now _ = ⊥
