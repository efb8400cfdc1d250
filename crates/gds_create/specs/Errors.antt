-- What each error of making a database is blamed on.
use Rattle.std.specs.Prelude.{Option}
use Rattle.std.specs.Option.{ForSome}
use Rattle.host_model.specs.Failures.{Failures, Rose}
use Rattle.host_model.specs.Files.{Contents}
use Rattle.gds_create.specs.Newborn.{HasBytes, IsEmpty}
use Rattle.gds_create.specs.declared.error.CreateError.{CreateError}
use Rattle.gds_create.specs.declared.error.CreateError.TheVariants.{Memory, NotEmpty, ReadFault, WriteFault}

-- The cause of each error, where the host told this before, and so often calls had failed before and have now. Where
-- memory runs out or a write fails, both files were found empty.
abbrev pub HasCause : Option Contents → Failures → Failures → CreateError → Type 0
HasCause told before now Memory = ForSome told IsEmpty
HasCause told before now ReadFault = Rose before.read now.read
HasCause told before now WriteFault = Rose before.write now.write × ForSome told IsEmpty
HasCause told before now NotEmpty = ForSome told HasBytes
