-- Free blocks that are taken in a draft one after another.
use Rattle.std.proofs.Common.{◌≡◌, ◌+◌, ◌<◌, ℕ, Option, List, [], ◌∷◌, ◌++◌, length, refl, ap, ◌∙◌, subst, arith}
use Rattle.std.proofs.Common.{length-append}
use Rattle.std.specs.Prelude.{All}
use Rattle.std.proofs.lemmas.List.Elements.{All-push}
use Rattle.host_model.specs.Failures.{Failures}
use Rattle.host_model.specs.Files.{Contents}
use Rattle.gds_base.specs.Drafting.{Drafts, OnlyDrafts}
use Rattle.gds_base.specs.Spaces.{TakesLeast}
use Rattle.gds_draft.specs.Draft.{DraftState}
use Rattle.gds_draft.specs.Drafted.{drafted}
use Rattle.gds_file.specs.FileLaws.{IsLawful}
use Rattle.gds_file.specs.Take.{Takes}
use Rattle.gds_file.specs.TakeLaws.{IsFree}
use Rattle.gds_units.specs.State.{UnitsState}
use Rattle.gds_splice.specs.Parted.{TakesAll}
use Rattle.gds_splice.proofs.DraftingLemmas.{OnlyDrafts-then, same_image, same_total}

-- one more is taken
pub takes_more : (a b c : List ℕ) (numbers : List ℕ) (n : ℕ) → TakesAll a b numbers → IsFree b n → Takes b c n
    → IsLawful c → TakesAll a c (numbers ++ n ∷ [])
takes_more a b c [] n same free takes lawful =
    subst (λ file. TakesAll file c (n ∷ [])) same (c, free, takes, lawful, refl)
takes_more a b c (m ∷ numbers) n (mid, is, t, l, rest) free takes lawful =
    (mid, is, t, l, takes_more mid b c numbers n rest free takes lawful)

-- Blocks were taken, and the file is lawful.
pub record TakesLawfully (before after : List ℕ) (numbers : List ℕ) : Type 0 where
  pub all : TakesAll before after numbers
  pub lawful : IsLawful after

-- So many were taken so far.
pub record HasTaken {H : Type 0} (told : H → Option Contents) (moment : H → ℕ) (counts : H → Failures)
    (left_since : H → ℕ → Contents → Type 0) (old new : UnitsState H) (before after : DraftState) (count : ℕ)
    (numbers : List ℕ) : Type 0 where
  pub taken : Drafts old before after (λ x y. IsLawful x → TakesLawfully x y numbers)
  pub counted : length numbers ≡ count
  pub within : All (λ n. n < before.header.total) numbers
  pub free : before.header.free ≡ after.header.free + count
  pub drafts : OnlyDrafts told moment counts left_since old new before after count

module _ {H : Type 0} (told : H → Option Contents) (moment : H → ℕ) (counts : H → Failures)
    (left_since : H → ℕ → Contents → Type 0) where
  pub taken_one_more : (a b c : UnitsState H) (x y z : DraftState) (count : ℕ) (numbers : List ℕ) (n : ℕ)
      → HasTaken told moment counts left_since a b x y count numbers
      → Drafts b y z (λ before after. IsLawful before → TakesLeast before after n) → n < y.header.total
      → y.header.free ≡ z.header.free + 1 → OnlyDrafts told moment counts left_since b c y z 1
      → HasTaken told moment counts left_since a c x z (count + 1) (numbers ++ n ∷ [])
  taken_one_more a b c x y z count numbers n has takes low one only = record {
    taken = λ image is lawful.
        let so_far = has.taken image is lawful in
        let least = takes image (same_image told moment counts left_since a b has.drafts.read ∙ is) so_far.lawful in
        record {
          all = takes_more (drafted x image) (drafted y image) (drafted z image) numbers n so_far.all least.free
              least.takes least.lawful;
          lawful = least.lawful;
        };
    counted = length-append numbers (n ∷ []) ∙ ap (λ k. k + 1) has.counted;
    within = All-push (λ m. m < x.header.total) numbers n has.within
        (omega (arith, low, same_total told moment counts left_since a b x y count has.drafts));
    free = omega (arith, has.free, one);
    drafts = OnlyDrafts-then told moment counts left_since a b c x y z count 1 has.drafts only;
  }
