-- How calls on a base end, and what each answer is blamed on.
use Rattle.std.specs.Prelude.{◌≡◌, ◌+◌, ◌≤◌, ℕ, true, false, Option, None, Result, Ok, Err}
use Rattle.host_model.specs.Failures.{Failures, Rose}
use Rattle.host_model.specs.Files.{Contents}
use Rattle.gds_units.specs.Reading.{OnlyRead}
use Rattle.gds_units.specs.State.{UnitsState, image_of}
use Rattle.gds_base.specs.declared.error.BaseError.{BaseError}
use Rattle.gds_base.specs.declared.error.BaseError.TheVariants.{Changed, Memory, ReadFault, Stopped, TnSpent}
use Rattle.gds_base.specs.declared.error.BaseError.TheVariants.{WriteFault}

-- A call that reads: failed reads have become more, or the file isn't what it should be, for a cause that the call
-- names.
abbrev pub EndsReading : {T : Type 0} → Failures → Failures → Type 0 → Result T BaseError → Type 0
EndsReading before now changed (Ok value) = Unit {0}
EndsReading before now changed (Err Memory) = Unit {0}
EndsReading before now changed (Err ReadFault) = Rose before.read now.read
EndsReading before now changed (Err (Changed unit)) = changed
EndsReading before now changed (Err _) = ⊥

-- Once what a call lent is given back the base was only read, by one call of the host at most, and the call ended so.
pub record EndsLending {H T : Type 0} (told : H → Option Contents) (moment : H → ℕ) (counts : H → Failures)
    (left_since : H → ℕ → Contents → Type 0) (old new : UnitsState H) (result : Result T BaseError) : Type 0 where
  pub read : OnlyRead told moment counts left_since old new
  pub ends : EndsReading (counts old.host) (counts new.host) (image_of old ≡ None) result
  pub calls : moment new.host ≤ moment old.host + 1

-- A call that writes succeeds or stops all further writing, and where that has been stopped does nothing.
module _ {H T : Type 0} (before now : Failures) (old new : UnitsState H) where
  abbrev pub EndsWriting : Result T BaseError → Type 0
  EndsWriting (Ok value) = (old.stopped ≡ false) × (new.stopped ≡ false)
  EndsWriting (Err WriteFault) = (old.stopped ≡ false) × (new.stopped ≡ true) × Rose before.write now.write
  EndsWriting (Err Stopped) = (old.stopped ≡ true) × (new ≡ old)
  EndsWriting (Err _) = ⊥

  -- So does a commit, which also reads and takes memory, over a host that told this, and for which the transaction
  -- numbers may be spent: then it does nothing.
  abbrev pub EndsCommit : Option Contents → Result T BaseError → Type 0
  EndsCommit told (Err Memory) = new.stopped ≡ old.stopped
  EndsCommit told (Err ReadFault) = (new.stopped ≡ old.stopped) × Rose before.read now.read
  EndsCommit told (Err (Changed unit)) = (new.stopped ≡ old.stopped) × (told ≡ None)
  EndsCommit told (Err TnSpent) = new ≡ old
  EndsCommit told result = EndsWriting result
