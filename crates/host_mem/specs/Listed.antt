-- A memory host that fails the calls that it was told to.
use Rattle.std.specs.Prelude.{◌≡◌, ℕ, ◌-◌, ◌⊎◌, List, Option, Some, Contains}
use Rattle.std.specs.Option.{option_map}
use Rattle.host_model.specs.Failures.{Failures, counted}
use Rattle.host_model.specs.Files.{Contents}
use Rattle.host_mem.specs.Memory as memory
use Rattle.host_mem.specs.Memory.{Memory}

-- a memory host, with the numbers of the calls that are to fail, and after how many calls every one is to fail
pub record Listed : Type 0 where
  pub memory : Memory
  pub failing : List ℕ
  pub fuse : Option ℕ

-- what the clauses of a host speak of
abbrev pub told_by : Listed → Option Contents
told_by host = memory.told_by host.memory

abbrev pub moment_of : Listed → ℕ
moment_of host = memory.moment_of host.memory

abbrev pub failures_of : Listed → Failures
failures_of host = memory.failures_of host.memory

abbrev pub left_by : Listed → ℕ → Contents → Type 0
left_by host = memory.left_since host.memory

-- the next call is to fail
abbrev pub IsToFail : Listed → Type 0
IsToFail host = Contains host.failing (counted host.memory.log.moment) ⊎ (host.fuse ≡ Some 0)

-- a fuse after one call more
abbrev pub burnt : Option ℕ → Option ℕ
burnt fuse = option_map (λ n. n - 1) fuse
