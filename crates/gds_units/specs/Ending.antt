-- How calls on units end, and what each answer is blamed on.
use Rattle.std.specs.Prelude.{◌≡◌, true, false, Option, None, Result, Ok, Err}
use Rattle.host_model.specs.Failures.{Failures, Rose}
use Rattle.host_model.specs.Files.{Contents}
use Rattle.gds_units.specs.State.{UnitsState}
use Rattle.gds_units.specs.declared.error.UnitError.{UnitError}
use Rattle.gds_units.specs.declared.error.UnitError.TheVariants.{Changed, Memory, ReadFault, Stopped, WriteFault}

module _ {H T : Type 0} (before now : Failures) (old new : UnitsState H) where
  -- A call that writes succeeds or stops all further writing, and where that has been stopped does nothing.
  abbrev pub EndsWriting : Result T UnitError → Type 0
  EndsWriting (Ok value) = (old.stopped ≡ false) × (new.stopped ≡ false)
  EndsWriting (Err WriteFault) = (old.stopped ≡ false) × (new.stopped ≡ true) × Rose before.write now.write
  EndsWriting (Err Stopped) = (old.stopped ≡ true) × (new ≡ old)
  EndsWriting (Err _) = ⊥

  -- So does one that also reads and takes memory, over a host that told this.
  abbrev pub EndsCommit : Option Contents → Result T UnitError → Type 0
  EndsCommit told (Err Memory) = new.stopped ≡ old.stopped
  EndsCommit told (Err ReadFault) = (new.stopped ≡ old.stopped) × Rose before.read now.read
  EndsCommit told (Err (Changed unit)) = (new.stopped ≡ old.stopped) × (told ≡ None)
  EndsCommit told result = EndsWriting result

-- One that only reads.
abbrev pub EndsReading : {T : Type 0} → Option Contents → Failures → Failures → Result T UnitError → Type 0
EndsReading told before now (Ok value) = Unit {0}
EndsReading told before now (Err Memory) = Unit {0}
EndsReading told before now (Err ReadFault) = Rose before.read now.read
EndsReading told before now (Err (Changed unit)) = told ≡ None
EndsReading told before now (Err _) = ⊥
