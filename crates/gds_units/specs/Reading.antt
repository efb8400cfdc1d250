-- What is left of units that were only read.
use Rattle.std.specs.Prelude.{◌≡◌, ℕ}
use Rattle.host_model.specs.Failures.{Failures}
use Rattle.host_model.specs.Files.{Contents}
use Rattle.host_model.specs.Frames.{WasRead}
use Rattle.host_model.specs.Moments.{LeavesTheSame}
use Rattle.std.specs.Prelude.{Option}
use Rattle.gds_units.specs.State.{UnitsState}
use Rattle.host_model.specs.declared.units.UnitTrouble.{UnitTrouble}
use Rattle.host_model.specs.declared.units.UnitTrouble.TheVariants as trouble
use Rattle.gds_units.specs.declared.error.UnitError.{UnitError}
use Rattle.gds_units.specs.declared.error.UnitError.TheVariants as answer

-- All but the host is as it was, the host was only read, and crashes find no difference.
pub record OnlyRead {H : Type 0} (told : H → Option Contents) (moment : H → ℕ) (counts : H → Failures)
    (left_since : H → ℕ → Contents → Type 0) (old new : UnitsState H) : Type 0 where
  pub rest : new ≡ record old { host = new.host }
  pub read : WasRead told counts old.host new.host
  pub crash : LeavesTheSame moment left_since old.host new.host

-- what a source of units answers where reading a unit ended so
abbrev pub trouble_of : UnitError → UnitTrouble
trouble_of answer.Memory = trouble.Memory
trouble_of (answer.Changed unit) = trouble.Changed unit
trouble_of _ = trouble.Failed
