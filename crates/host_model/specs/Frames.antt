-- What a call leaves of a host, as the layers above the outside say it.
use Rattle.std.specs.Prelude.{◌≡◌, ℕ, Option}
use Rattle.host_model.specs.Disk.{Elapses, Stays}
use Rattle.host_model.specs.Failures.{Failures, NeverFell, counted}
use Rattle.host_model.specs.Files.{Contents}
use Rattle.host_model.specs.Told.{TellsOn}

-- The host was only read: it tells what it told before, and no count of failures fell.
pub record WasRead {H : Type 0} (contents : H → Option Contents) (counts : H → Failures) (old new : H)
    : Type 0 where
  pub told : contents new ≡ contents old
  pub failures : NeverFell (counts old) (counts new)

-- Where the host tells, it goes on telling, and what it told before and tells now stand in this relation. No count of
-- failures fell.
pub record WasUsed {H : Type 0} (contents : H → Option Contents) (counts : H → Failures) (old new : H)
    (R : Contents → Contents → Type 0) : Type 0 where
  pub told : TellsOn (contents old) (contents new) R
  pub failures : NeverFell (counts old) (counts new)

-- One call of a host: time went on by it, the clock counted it, and no count of failures fell. What a crash in it or
-- right after it leaves has `then`.
pub record WasCalled {H : Type 0} (moment : H → ℕ) (counts : H → Failures) (left_since : H → ℕ → Contents → Type 0)
    (old new : H) (then : Contents → Type 0) : Type 0 where
  pub time : Elapses (moment old) (moment new) (left_since old) (left_since new) then
  pub clock : moment new ≡ counted (moment old)
  pub failures : NeverFell (counts old) (counts new)

-- One call that changed nothing: the host tells what it told before, and a crash leaves nothing that it couldn't
-- leave before.
pub record ChangedNothing {H : Type 0} (contents : H → Option Contents) (moment : H → ℕ) (counts : H → Failures)
    (left_since : H → ℕ → Contents → Type 0) (old new : H) : Type 0 where
  pub told : contents new ≡ contents old
  pub crash : Stays (left_since old (moment old)) (left_since new (moment new))
  pub called : WasCalled moment counts left_since old new (left_since new (moment new))
