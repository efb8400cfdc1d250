-- How what stretches of calls do to the two files composes.
use Rattle.std.proofs.Common.{◌≡◌, ℕ, ◌≤◌, List, Option, None, Some, refl, ◌∙◌, arith, inl}
use Rattle.host_model.specs.declared.host.FileNo.{FileNo}
use Rattle.host_model.specs.Disk.{Changes}
use Rattle.host_model.specs.Failures.{Failures, NeverFell}
use Rattle.host_model.specs.Files.{Contents, file_of}
use Rattle.host_model.specs.Frames.{WasRead}
use Rattle.host_model.specs.Moments.{LeavesBy, LeavesTheSame}
use Rattle.host_model.specs.Told.{TellsOn}
use Rattle.host_model.proofs.ChainLemmas.{by_then}
use Rattle.host_model.proofs.FailureLemmas.{NeverFell-refl, NeverFell-trans}
use Rattle.host_model.proofs.FrameLemmas.{TellsOn-same, TellsOn-then, TellsOn-weaker}
use Rattle.host_model.proofs.MomentLemmas.{same_only, weaker}
use Rattle.gds_recovery.specs.Steps.{WasChangedBy}

-- One file changed, and then again.
pub Changes-then : (file : FileNo) (R S T : List ℕ → List ℕ → Type 0) (x y z : Contents)
    → (R (file_of x file) (file_of y file) → S (file_of y file) (file_of z file) → T (file_of x file) (file_of z file))
    → Changes file R x y → Changes file S y z → Changes file T x z
Changes-then file R S T x y z makes first second = record {
  changed = makes first.changed second.changed;
  other = λ f e. second.other f e ∙ first.other f e;
  said = second.said ∙ first.said;
}

pub Changes-weaker : (file : FileNo) (R S : List ℕ → List ℕ → Type 0) (x y : Contents)
    → (R (file_of x file) (file_of y file) → S (file_of x file) (file_of y file))
    → Changes file R x y → Changes file S x y
Changes-weaker file R S x y so changes =
    record { changed = so changes.changed; other = changes.other; said = changes.said }

-- What tells now told before.
pub was_told : {A : Type 0} (old new : Option A) (y : A) → (old ≡ None → new ≡ None) → new ≡ Some y
    → (x : A) × (old ≡ Some x)
was_told None new y untold tells = absurd (let none : new ≡ None = untold refl in cc)
was_told (Some x) new y untold tells = (x, refl)

-- What doesn't tell now didn't before.
pub was_untold : {A : Type 0} (old new : Option A) (R : A → A → Type 0) → TellsOn old new R → new ≡ None → old ≡ None
was_untold None new R tells none = refl
was_untold (Some x) None R tells none = absurd tells
was_untold (Some x) (Some y) R tells none = cc

module _ {H : Type 0} {contents : H → Option Contents} {moment : H → ℕ} {counts : H → Failures}
    {left_since : H → ℕ → Contents → Type 0}
    (longer : (host : H) (t u : ℕ) (c : Contents) → t ≤ u → left_since host u c → left_since host t c) where
  -- one stretch of calls after another
  pub changed_then : {old mid new : H} {R S : Contents → Contents → Type 0} (T : Contents → Contents → Type 0)
      → WasChangedBy contents moment counts left_since R old mid
      → WasChangedBy contents moment counts left_since S mid new
      → ((x y : Contents) → R x y → T x y) → ((x y z : Contents) → R x y → S y z → T x z)
      → WasChangedBy contents moment counts left_since T old new
  changed_then {old} {mid} {new} {R} {S} T first second begins goes_on = record {
    told = TellsOn-then (contents old) (contents mid) (contents new) R S T goes_on first.told second.told;
    untold = λ none. second.untold (first.untold none);
    crash = by_then longer T first.crash second.crash begins goes_on;
    failures = NeverFell-trans (counts old) (counts mid) (counts new) first.failures second.failures;
  }

module _ {H : Type 0} {contents : H → Option Contents} {moment : H → ℕ} {counts : H → Failures}
    {left_since : H → ℕ → Contents → Type 0} where
  -- the same by a weaker step
  pub changed_weaker : {old new : H} {R : Contents → Contents → Type 0} (S : Contents → Contents → Type 0)
      → ((x y : Contents) → R x y → S x y) → WasChangedBy contents moment counts left_since R old new
      → WasChangedBy contents moment counts left_since S old new
  changed_weaker {old} {new} {R} S so changed = record {
    told = TellsOn-weaker (contents old) (contents new) R S so changed.told;
    untold = changed.untold;
    crash = weaker moment left_since old new _ _ (λ c is. (is.0, is.1, so is.0 c is.2)) changed.crash;
    failures = changed.failures;
  }

  -- calls that only read
  pub changed_read : {old new : H} (R : Contents → Contents → Type 0) → ((x : Contents) → R x x)
      → WasRead contents counts old new → LeavesTheSame moment left_since old new
      → WasChangedBy contents moment counts left_since R old new
  changed_read {old} {new} R same read crash = record {
    told = TellsOn-same (contents old) (contents new) R same read.told;
    untold = λ none. read.told ∙ none;
    crash = same_only moment left_since old new _ crash (λ c left. (c, left, same c));
    failures = read.failures;
  }

  -- no call
  pub changed_none : (host : H) (R : Contents → Contents → Type 0) → ((x : Contents) → R x x)
      → WasChangedBy contents moment counts left_since R host host
  changed_none host R same = record {
    told = TellsOn-same (contents host) (contents host) R same refl;
    untold = λ none. none;
    crash = record {
      later = omega arith;
      each = λ c left. (c, left, same c);
      before = λ t c le left. inl left;
    };
    failures = NeverFell-refl (counts host);
  }

  -- calls of which only it counts that something is told still
  pub changed_somehow : {old new : H} (R S : Contents → Contents → Type 0)
      → TellsOn (contents old) (contents new) R → (contents old ≡ None → contents new ≡ None)
      → LeavesBy moment left_since S old new → NeverFell (counts old) (counts new)
      → WasChangedBy contents moment counts left_since (λ _ _. Unit {0}) old new
  changed_somehow {old} {new} R S tells untold crash failures = record {
    told = TellsOn-weaker (contents old) (contents new) R (λ _ _. Unit {0}) (λ x y r. tt) tells;
    untold = untold;
    crash = weaker moment left_since old new _ _ (λ c is. (is.0, is.1, tt)) crash;
    failures = failures;
  }
