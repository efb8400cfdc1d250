-- What is told after a call of a host, where something is known of what was told before.
use Rattle.std.proofs.Common.{◌≡◌, ℕ, List, length, Option, None, Some, Result, Ok, Err, refl, subst, sym}
use Rattle.host_model.specs.declared.host.FileNo.{FileNo}
use Rattle.host_model.specs.Disk.{Changes, Cut, Cuts, Torn, Writes}
use Rattle.host_model.specs.Files.{Contents, file_of}
use Rattle.host_model.specs.Told.{TellsOn}
use Rattle.host_model.proofs.FileLemmas.{take-Cut, written-Torn}

pub told_weaker : (a b : Option Contents) (R S : Contents → Contents → Type 0)
    → ((x y : Contents) → a ≡ Some x → R x y → S x y) → TellsOn a b R → TellsOn a b S
told_weaker None b R S so tells = tt
told_weaker (Some x) None R S so tells = absurd tells
told_weaker (Some x) (Some y) R S so tells = so x y refl tells

-- from one moment to a second and on to a third
pub told_then : (a b c : Option Contents) (R S T : Contents → Contents → Type 0)
    → ((x y z : Contents) → a ≡ Some x → R x y → S y z → T x z) → TellsOn a b R → TellsOn b c S → TellsOn a c T
told_then None b c R S T so first second = tt
told_then (Some x) None c R S T so first second = absurd first
told_then (Some x) (Some y) None R S T so first second = absurd second
told_then (Some x) (Some y) (Some z) R S T so first second = so x y z refl first second

-- A write is a torn one, and a cut one that may not have happened, however they end.
pub writes_torn : {T E : Type 0} (file : FileNo) (at : ℕ) (bytes : List ℕ) (result : Result T E) (old new : Contents)
    → Changes file (Writes at bytes result) old new → Changes file (Torn at (length bytes)) old new
writes_torn file at bytes (Ok x) old new step = record {
  changed =
      subst (λ f. Torn at (length bytes) (file_of old file) f) (sym step.changed)
      (written-Torn at bytes (file_of old file));
  other = step.other;
  said = step.said;
}
writes_torn file at bytes (Err e) old new step =
    record { changed = step.changed; other = step.other; said = step.said }

pub cuts_cut : {T E : Type 0} (file : FileNo) (n : ℕ) (result : Result T E) (old new : Contents)
    → Changes file (Cuts n result) old new → Changes file (Cut n) old new
cuts_cut file n (Ok x) old new step = record {
  changed = subst (λ f. Cut n (file_of old file) f) (sym step.changed) (take-Cut n (file_of old file));
  other = step.other;
  said = step.said;
}
cuts_cut file n (Err e) old new step = record { changed = step.changed; other = step.other; said = step.said }

-- what was told before by a host that tells this now
pub told_before : (a b : Option Contents) (R : Contents → Contents → Type 0) (y : Contents)
    → (a ≡ None → b ≡ None) → b ≡ Some y → TellsOn a b R → (x : Contents) × (a ≡ Some x) × R x y
told_before None b R y untold is tells = let none = untold refl in absurd (cc)
told_before (Some x) None R y untold is tells = absurd tells
told_before (Some x) (Some z) R y untold is tells = let same : z ≡ y = cc in (x, refl, rw same at tells)
