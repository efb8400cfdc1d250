-- What is known of a host and of a source over the system: paths and counts, and nothing of what they hold.
use Rattle.std.specs.Prelude.{ℕ, Bool, if◌then◌else◌, List, ◌++◌, Option, None, Some, ◌≡◌, codes}
use Rattle.host_model.specs.Failures.{Failures, counted}
use Rattle.host_model.specs.Files.{Contents}

-- what a host and a source over the system tell of what they hold
abbrev pub untold : Option Contents
untold = None

abbrev pub untold_left : Option (List ℕ)
untold_left = None

-- what a crash may have left of real files: anything
abbrev pub any_left : ℕ → Contents → Type 0
any_left moment c = Unit {0}

-- a host: the paths of its files, the number of its calls, and how often they failed
pub record SystemHost : Type 0 where
  pub db_path : List ℕ
  pub images_path : List ℕ
  pub moment : ℕ
  pub failures : Failures

-- a host over the files at a path, of which no call was made
abbrev pub new_host : List ℕ → SystemHost
new_host path = record {
  db_path = path;
  images_path = path ++ codes ".bi";
  moment = 0;
  failures = record { read = 0; write = 0; say = 0 };
}

-- the host after a read, by whether it answered a value
abbrev pub after_read : Bool → SystemHost → SystemHost
after_read ok old = record old {
  moment = counted old.moment;
  failures = if ok then old.failures else record old.failures { read = counted old.failures.read };
}

-- the host after a saying, by whether it said all
abbrev pub after_say : Bool → SystemHost → SystemHost
after_say ok old = record old {
  moment = counted old.moment;
  failures = if ok then old.failures else record old.failures { say = counted old.failures.say };
}

-- the host after a write, a cut or a sync, by whether it succeeded
abbrev pub after_write : Bool → SystemHost → SystemHost
after_write ok old = record old {
  moment = counted old.moment;
  failures = if ok then old.failures else record old.failures { write = counted old.failures.write };
}

-- a host that tells nothing doesn't tell this
pub tells_nothing : (now : Contents) → untold ≡ Some now → ⊥
tells_nothing now e = cc

-- what the clauses of a host speak of
abbrev pub told_by : SystemHost → Option Contents
told_by host = untold

abbrev pub moment_of : SystemHost → ℕ
moment_of host = host.moment

abbrev pub failures_of : SystemHost → Failures
failures_of host = host.failures

abbrev pub left_by : SystemHost → ℕ → Contents → Type 0
left_by host = any_left
