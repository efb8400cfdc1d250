-- What a memory host holds, and what its calls leave of it.
use Rattle.std.specs.Prelude.{◌≡◌, ℕ, ◌-◌, min, Bool, true, false, ◌&&◌, List, [], ◌++◌, length, take, drop}
use Rattle.std.specs.Prelude.{Option, None, Some, Result, is_ok, if◌then◌else◌}
use Rattle.host_model.specs.declared.host.FileNo.TheVariants.{Db, Images}
use Rattle.host_model.specs.Files.{Contents}
use Rattle.host_model.specs.Failures.{Failures, counted}
use Rattle.host_mem.specs.declared.call.Call.{Call}
use Rattle.host_mem.specs.declared.call.Call.TheVariants.{Len, Read, Write as CallWrite, Cut as CallCut}
use Rattle.host_mem.specs.declared.call.Call.TheVariants.{Sync as CallSync, Say as CallSay}
use Rattle.host_mem.specs.History.{LeftSince, NumberedTo, State, replayed, shown, start}
use Rattle.host_mem.specs.Log.{Log, Logged, new_log}
use Rattle.host_mem.specs.Step.{Step}

-- both files at first and what was said before, the calls since, how often they failed, and how many reads of the
-- database file succeeded
pub record Memory : Type 0 where
  pub first : Contents
  pub log : Log
  pub failures : Failures
  pub reads : ℕ

-- both files and what was said, with no call made
abbrev pub memory_of : Contents → Memory
memory_of first = record {
  first = first;
  log = new_log;
  failures = record { read = 0; write = 0; say = 0 };
  reads = 0;
}

-- two files, nothing said, and no call made
abbrev pub new_memory : List ℕ → List ℕ → Memory
new_memory db images = memory_of (record { db = db; images = images; said = [] })

-- both files on their disks now, and what was said
abbrev pub state_of : Memory → State
state_of memory = replayed (start memory.first) memory.log.steps

-- what a read gives of both files, and what was said
abbrev pub contents_of : Memory → Contents
contents_of memory = shown (state_of memory)

-- what a crash at a moment or since might have left
abbrev pub left_since : Memory → ℕ → Contents → Type 0
left_since memory t c = LeftSince memory.first memory.log.steps memory.log.moment t c

-- what the clauses of a host speak of
abbrev pub told_by : Memory → Option Contents
told_by memory = Some (contents_of memory)

abbrev pub moment_of : Memory → ℕ
moment_of memory = memory.log.moment

abbrev pub failures_of : Memory → Failures
failures_of memory = memory.failures

-- the counts where such a call failed once more
abbrev pub failed_by : Call → Failures → Failures
failed_by (Len number file) failures = record failures { read = counted failures.read }
failed_by (Read number file at len) failures = record failures { read = counted failures.read }
failed_by (CallWrite number file at len) failures = record failures { write = counted failures.write }
failed_by (CallCut number file len) failures = record failures { write = counted failures.write }
failed_by (CallSync number file) failures = record failures { write = counted failures.write }
failed_by (CallSay number len) failures = record failures { say = counted failures.say }

-- a call that only reads
abbrev pub IsLook : Call → Type 0
IsLook (Len number file) = Unit {0}
IsLook (Read number file at len) = Unit {0}
IsLook (CallWrite number file at len) = ⊥
IsLook (CallCut number file len) = ⊥
IsLook (CallSync number file) = ⊥
IsLook (CallSay number len) = ⊥

-- a read of the database file
abbrev pub reads_db : Call → Bool
reads_db (Len number file) = false
reads_db (Read number Db at len) = true
reads_db (Read number Images at len) = false
reads_db (CallWrite number file at len) = false
reads_db (CallCut number file len) = false
reads_db (CallSync number file) = false
reads_db (CallSay number len) = false

-- What a call leaves: nothing is new but the record of it, with the step that it made, and the counts.
pub record Called {T E : Type 0} (listed : Type 0) (call : Call) (step : Option Step) (result : Result T E)
    (old new : Memory) : Type 0 where
  pub first : new.first ≡ old.first
  pub log : Logged listed call step result old.log new.log
  pub failures : new.failures ≡ (if is_ok result then old.failures else failed_by call old.failures)
  pub reads : new.reads ≡ (if is_ok result && reads_db call then counted old.reads else old.reads)

-- a step that a call makes only where it succeeds
abbrev pub only_done : {T E : Type 0} → Result T E → Step → Option Step
only_done result step = if is_ok result then Some step else None

-- what a memory host keeps of its calls: their numbers are those of calls that were made
abbrev pub IsNumbered : Memory → Type 0
IsNumbered memory = NumberedTo memory.log.moment memory.log.steps

-- a buffer whose front the file's bytes from there on took, as many as both have
abbrev pub filled : List ℕ → ℕ → List ℕ → List ℕ
filled file at out = let n = min (length out) (length file - at) in take n (drop at file) ++ drop n out
