-- The calls that count for what a crash may leave.
use Rattle.std.specs.Prelude.{ℕ, Bool, List}
use Rattle.host_model.specs.declared.host.FileNo.{FileNo}

-- A write, a cut, a sync that succeeded, or a saying that succeeded, each with its clock number. Of a write and a cut
-- the last part says whether it succeeded.
pub data Step : Type 0 where
  Write : (number : ℕ) (file : FileNo) (at : ℕ) (bytes : List ℕ) (done : Bool) → Step
  Cut : (number : ℕ) (file : FileNo) (len : ℕ) (done : Bool) → Step
  Sync : (number : ℕ) (file : FileNo) → Step
  Say : (number : ℕ) (bytes : List ℕ) → Step

abbrev pub number_of : Step → ℕ
number_of (Write number file at bytes done) = number
number_of (Cut number file len done) = number
number_of (Sync number file) = number
number_of (Say number bytes) = number
