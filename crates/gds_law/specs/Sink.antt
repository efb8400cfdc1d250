-- What a call leaves of a list that it appends to, and of a sink that it tells faults.
use Rattle.std.specs.Prelude.{◌≡◌, ◌≤◌, ℕ, List, ◌++◌, take, Result, OnOk, OnErr, IsErrOf}
use Rattle.host_model.specs.Failures.{Rose}
use Rattle.gds_law.specs.declared.fault.Fault.{Fault}

-- Some of the first items that were due stand behind the old ones.
abbrev pub IsCut : {A : Type 0} → List A → List A → List A → Type 0
IsCut old new due = (n : ℕ) × (new ≡ old ++ take n due)

-- Ok: what was due stands behind the old items. Err: some of the first of it.
pub record Grew {A T E : Type 0} (old new due : List A) (result : Result T E) : Type 0 where
  pub all : OnOk result (new ≡ old ++ due)
  pub some : OnErr result (IsCut old new due)

-- The sink, whose list and whose count of failures these are, was told the faults that were due, or where the call was
-- refused some of the first. The count didn't fall, and rose where the call says that the sink failed, by this error.
pub record WasTold {S T E : Type 0} (list : S → List Fault) (count : S → ℕ) (old new : S) (due : List Fault)
    (result : Result T E) (failed : E) : Type 0 where
  pub faults : Grew (list old) (list new) due result
  pub failures : count old ≤ count new
  pub rose : IsErrOf result failed → Rose (count old) (count new)
