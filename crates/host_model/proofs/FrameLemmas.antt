-- How frames of hosts compose over calls.
use Rattle.std.proofs.Common.{◌≡◌, ℕ, Option, None, Some, refl, ◌∙◌, sym, subst}
use Rattle.host_model.specs.Failures.{Failures}
use Rattle.host_model.specs.Files.{Contents}
use Rattle.host_model.specs.Frames.{ChangedNothing, WasCalled, WasRead, WasUsed}
use Rattle.host_model.specs.Told.{TellsOn}
use Rattle.host_model.proofs.FailureLemmas.{NeverFell-refl, NeverFell-trans}

-- what told goes on telling, from one moment to a second and on to a third
pub TellsOn-then : {A : Type 0} (a b c : Option A) (R S T : A → A → Type 0)
    → ((x y z : A) → R x y → S y z → T x z) → TellsOn a b R → TellsOn b c S → TellsOn a c T
TellsOn-then None b c R S T makes first second = tt
TellsOn-then (Some x) None c R S T makes first second = absurd first
TellsOn-then (Some x) (Some y) None R S T makes first second = absurd second
TellsOn-then (Some x) (Some y) (Some z) R S T makes first second = makes x y z first second

pub TellsOn-same : {A : Type 0} (a b : Option A) (R : A → A → Type 0)
    → ((x : A) → R x x) → b ≡ a → TellsOn a b R
TellsOn-same {A} a b R same e = subst (λ o. TellsOn a o R) (sym e) (tells a)
  where
    tells : (o : Option A) → TellsOn o o R
    tells None = tt
    tells (Some x) = same x

pub TellsOn-weaker : {A : Type 0} (a b : Option A) (R S : A → A → Type 0)
    → ((x y : A) → R x y → S x y) → TellsOn a b R → TellsOn a b S
TellsOn-weaker None b R S so tells = tt
TellsOn-weaker (Some x) None R S so tells = absurd tells
TellsOn-weaker (Some x) (Some y) R S so tells = so x y tells

-- where the first tells this
pub TellsOn-some : {A : Type 0} (a b : Option A) (R : A → A → Type 0) (x : A)
    → a ≡ Some x → TellsOn a b R → (y : A) × (b ≡ Some y) × R x y
TellsOn-some None b R x e tells = absurd (cc)
TellsOn-some (Some z) None R x e tells = absurd tells
TellsOn-some (Some z) (Some y) R x e tells = let same : z ≡ x = cc in (y, refl, rw same at tells)

module _ {H : Type 0} (contents : H → Option Contents) (counts : H → Failures) where
  -- a host that was only read
  pub WasRead-refl : (host : H) → WasRead contents counts host host
  WasRead-refl host = record { told = refl; failures = NeverFell-refl (counts host) }

  pub WasRead-then : (a b c : H)
      → WasRead contents counts a b → WasRead contents counts b c → WasRead contents counts a c
  WasRead-then a b c first second = record {
    told = second.told ∙ first.told;
    failures = NeverFell-trans (counts a) (counts b) (counts c) first.failures second.failures;
  }

  -- one call that changed nothing
  pub was_read : (moment : H → ℕ) (left_since : H → ℕ → Contents → Type 0) (old new : H)
      → ChangedNothing contents moment counts left_since old new → WasRead contents counts old new
  was_read moment left_since old new kept = record { told = kept.told; failures = kept.called.failures }

  -- one call that may have changed something
  pub was_used : (moment : H → ℕ) (left_since : H → ℕ → Contents → Type 0) (old new : H)
      (R : Contents → Contents → Type 0) (then : Contents → Type 0)
      → TellsOn (contents old) (contents new) R → WasCalled moment counts left_since old new then
      → WasUsed contents counts old new R
  was_used moment left_since old new R then tells called = record { told = tells; failures = called.failures }

  -- a host that was used
  pub WasUsed-refl : (host : H) (R : Contents → Contents → Type 0)
      → ((c : Contents) → R c c) → WasUsed contents counts host host R
  WasUsed-refl host R same = record {
    told = TellsOn-same (contents host) (contents host) R same refl;
    failures = NeverFell-refl (counts host);
  }

  pub WasUsed-then : (a b c : H) (R S T : Contents → Contents → Type 0)
      → ((x y z : Contents) → R x y → S y z → T x z)
      → WasUsed contents counts a b R → WasUsed contents counts b c S → WasUsed contents counts a c T
  WasUsed-then a b c R S T makes first second = record {
    told = TellsOn-then (contents a) (contents b) (contents c) R S T makes first.told second.told;
    failures = NeverFell-trans (counts a) (counts b) (counts c) first.failures second.failures;
  }

  pub WasUsed-weaker : (old new : H) (R S : Contents → Contents → Type 0)
      → ((x y : Contents) → R x y → S x y) → WasUsed contents counts old new R → WasUsed contents counts old new S
  WasUsed-weaker old new R S so used =
      record { told = TellsOn-weaker (contents old) (contents new) R S so used.told; failures = used.failures }

  -- read and then used, and used and then read
  pub read_then_used : (a b c : H) (R : Contents → Contents → Type 0)
      → WasRead contents counts a b → WasUsed contents counts b c R → WasUsed contents counts a c R
  read_then_used a b c R first second = record {
    told = subst (λ o. TellsOn o (contents c) R) first.told second.told;
    failures = NeverFell-trans (counts a) (counts b) (counts c) first.failures second.failures;
  }

  pub used_then_read : (a b c : H) (R : Contents → Contents → Type 0)
      → WasUsed contents counts a b R → WasRead contents counts b c → WasUsed contents counts a c R
  used_then_read a b c R first second = record {
    told = subst (λ o. TellsOn (contents a) o R) (sym second.told) first.told;
    failures = NeverFell-trans (counts a) (counts b) (counts c) first.failures second.failures;
  }
