-- How a run ends, and why.
use Rattle.std.specs.Prelude.{◌≡◌, ◌≢◌, ℕ, ◌<◌, ◌≤◌, Err, IfErr, List, OnOk, false, length, Ok, Option, None, Result}
use Rattle.std.specs.Option.{ForSome}
use Rattle.host_model.specs.Failures.{Failures, NeverFell, Rose}
use Rattle.host_model.specs.Files.{Contents}
use Rattle.host_model.specs.Told.{TellsOn}
use Rattle.gds_images.specs.Chain.{chain_of}
use Rattle.gds_lines.specs.declared.TheConstants.{INPUT_LIMIT}
use Rattle.gds_lines.specs.LinesState.{Counts, IsAboveLimit, IsEnd, LinesState}
use Rattle.gds_opening.specs.Opening.{FindsFaults}
use Rattle.gds_units.specs.State.{UnitsState}
use Rattle.gds_run.specs.declared.error.RunError.{RunError}
use Rattle.gds_run.specs.declared.error.RunError.TheVariants.{BadImages, Changed, InputFault, InputTooLong, Memory}
use Rattle.gds_run.specs.declared.error.RunError.TheVariants.{ReadFault, SayFault, Unsound, WriteFault}

-- An answer of an open database that ends the run: calls had failed so often before and have now.
abbrev pub HasDeviceCause : Type 0 → Failures → Failures → RunError → Type 0
HasDeviceCause changed before now Memory = Unit {0}
HasDeviceCause changed before now ReadFault = Rose before.read now.read
HasDeviceCause changed before now WriteFault = Rose before.write now.write
HasDeviceCause changed before now SayFault = Rose before.say now.say
HasDeviceCause changed before now (Changed unit) = changed
HasDeviceCause changed before now other = ⊥

-- The cause of each error, where the host told this before and calls of it had failed so often before and have now, and
-- where the source told so much before and tells so much now, and had failed so often. For want of memory there is none
-- that a clause could name.
module _ (told : Option Contents) (before now : Failures) (left rest : Option (List ℕ)) (failed fails : ℕ) where
  abbrev pub HasCause : RunError → Type 0
  HasCause (BadImages at) = ForSome told (λ c. chain_of c.images (length c.db) ≡ Err at)
  HasCause (Unsound faults) = (faults ≢ 0) × ForSome told (FindsFaults faults)
  HasCause InputFault = Rose failed fails
  HasCause InputTooLong = TellsOn left rest IsAboveLimit
  HasCause error = HasDeviceCause (told ≡ None) before now error

-- What a call on an open database leaves that goes on where it can: a write that fails ends it.
pub record EndsAnswering {H T : Type 0} (told : H → Option Contents) (counts : H → Failures) (old new : UnitsState H)
    (result : Result T RunError) : Type 0 where
  pub failures : NeverFell (counts old.host) (counts new.host)
  pub untold : told old.host ≡ None → told new.host ≡ None
  pub tells : told new.host ≡ None → told old.host ≡ None
  pub going : OnOk result (new.stopped ≡ false)
  pub cause : IfErr result (HasDeviceCause (told old.host ≡ None) (counts old.host) (counts new.host))

-- The cause of an error with which answering lines ends. Of a source the failures are counted, and how many bytes were
-- taken.
abbrev pub HasLinesCause : Type 0 → Failures → Failures → LinesState → LinesState → RunError → Type 0
HasLinesCause changed before now old new InputFault = Rose old.failures new.failures
HasLinesCause changed before now old new InputTooLong = INPUT_LIMIT < new.taken
HasLinesCause changed before now old new error = HasDeviceCause changed before now error

-- What answering lines leaves. Of the source no more is taken than is counted; and more than the limit exactly where
-- that is the error.
pub record EndsScript {H T : Type 0} (told : H → Option Contents) (counts : H → Failures) (old new : UnitsState H)
    (before now : LinesState) (result : Result T RunError) : Type 0 where
  pub failures : NeverFell (counts old.host) (counts new.host)
  pub untold : told old.host ≡ None → told new.host ≡ None
  pub tells : told new.host ≡ None → told old.host ≡ None
  pub cause : IfErr result (HasLinesCause (told old.host ≡ None) (counts old.host) (counts new.host) before now)
  pub took : TellsOn before.untaken now.untaken (Counts before.taken now.taken)
  pub too_long : INPUT_LIMIT < now.taken → result ≡ Err InputTooLong
  pub fails : before.failures ≤ now.failures

-- What answering the lines of a source leaves, of the host and of the source: the cause of its error, and that input
-- above the limit is refused.
pub record EndsRun {H T : Type 0} (told : H → Option Contents) (counts : H → Failures) (old new : H)
    (left rest : Option (List ℕ)) (failed fails : ℕ) (result : Result T RunError) : Type 0 where
  pub failures : NeverFell (counts old) (counts new)
  pub untold : told old ≡ None → told new ≡ None
  pub cause : IfErr result (HasCause (told old) (counts old) (counts new) left rest failed fails)
  pub too_long : TellsOn left rest (λ text untaken. IsAboveLimit text untaken → result ≡ Err InputTooLong)
  pub input : TellsOn left rest IsEnd
  pub fails_more : failed ≤ fails

-- A database that can't be opened for what is wrong with its files.
abbrev pub IsRefusal : RunError → Type 0
IsRefusal (BadImages at) = Unit {0}
IsRefusal (Unsound faults) = Unit {0}
IsRefusal other = ⊥

-- A run may end before both files are stable for want of memory, or where that failed.
abbrev pub RunEndsEarly : Result (Unit {0}) RunError → Type 0
RunEndsEarly (Ok value) = ⊥
RunEndsEarly (Err Memory) = Unit {0}
RunEndsEarly (Err WriteFault) = Unit {0}
RunEndsEarly (Err other) = ⊥
