-- What a crash leaves in a call that reads a base and then commits.
use Rattle.std.proofs.Common.{◌≡◌, ◌⊎◌, ℕ, Option, ◌∙◌, inl, inr, refl, ⊎_elim}
use Rattle.std.specs.Option.{ForSome}
use Rattle.host_model.specs.Failures.{Failures}
use Rattle.host_model.specs.Files.{Contents}
use Rattle.host_model.specs.Moments.{EachLeft}
use Rattle.host_model.specs.Told.{TellsOn}
use Rattle.host_model.proofs.FrameLemmas.{TellsOn-same}
use Rattle.host_model.proofs.MomentLemmas.{then_more, weaker}
use Rattle.gds_splice.proofs.DraftingLemmas.{same_image}
use Rattle.gds_units.specs.Durable.{AsBefore, KeepsOrStores, KeptAllOrStored, Stores}
use Rattle.gds_units.specs.Held.{IsRecoverable}
use Rattle.gds_units.specs.Reading.{OnlyRead}
use Rattle.gds_units.specs.State.{UnitsState, WhereTold}
use Rattle.gds_units.proofs.DurableLemmas.{keeps_or, keeps_same}

module _ {H : Type 0} (told : H → Option Contents) (moment : H → ℕ) (counts : H → Failures)
    (left_since : H → ℕ → Contents → Type 0) (old mid : UnitsState H)
    (read : OnlyRead told moment counts left_since old mid) where
  -- what was found before at the later host was found before at the earlier one
  as_before : (c : Contents) → AsBefore moment left_since mid.host c → AsBefore moment left_since old.host c
  as_before c kept = record {
    earlier = kept.earlier;
    was_left = read.crash.stays kept.earlier kept.was_left;
    found = kept.found;
    recovered_then = kept.recovered_then;
    recovers = kept.recovers;
    said = kept.said;
  }

  -- Where the base was only read.
  pub read_moments : ForSome (told old.host) (λ c. EachLeft moment left_since old.host IsRecoverable)
      → WhereTold told old (λ c image. KeepsOrStores moment left_since image c.said old.host mid.host)
  read_moments found c tells image is =
      keeps_or moment left_since image c.said old.host mid.host
      (keeps_same moment left_since old.host mid.host read.crash (found c tells))

  pub read_said : TellsOn (told old.host) (told mid.host) (λ c d. d.said ≡ c.said)
  read_said = TellsOn-same (told old.host) (told mid.host) (λ c d. d.said ≡ c.said) (λ c. refl) read.read.told

  -- And where a commit came then.
  module _ (new : UnitsState H) where
    pub commit_moments : ForSome (told old.host) (λ c. EachLeft moment left_since old.host IsRecoverable)
        → WhereTold told mid (λ c image. KeepsOrStores moment left_since image c.said mid.host new.host)
        → WhereTold told old (λ c image. KeepsOrStores moment left_since image c.said old.host new.host)
    commit_moments found made c tells image is =
        let P : Contents → Type 0 = λ d. AsBefore moment left_since old.host d ⊎ Stores image c.said d in
        then_more moment left_since old.host mid.host new.host P (read_moments found c tells image is)
        (weaker moment left_since mid.host new.host (λ d. AsBefore moment left_since mid.host d ⊎ Stores image c.said d)
        P (λ d. ⊎_elim (λ (kept : AsBefore moment left_since mid.host d). inl (as_before d kept)) inr)
        (made c (read.read.told ∙ tells) image (same_image told moment counts left_since old mid read ∙ is)))

    pub commit_kept : WhereTold told mid
        (λ c image. KeptAllOrStored moment left_since image c.said mid.host new.host)
        → WhereTold told old (λ c image. KeptAllOrStored moment left_since image c.said old.host new.host)
    commit_kept made c tells image is = ⊎_elim
        (λ (kept : EachLeft moment left_since new.host (AsBefore moment left_since mid.host)).
        inl (λ d left. as_before d (kept d left))) inr
        (made c (read.read.told ∙ tells) image (same_image told moment counts left_since old mid read ∙ is))
