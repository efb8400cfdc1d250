-- Which map the next opening finds, through calls that keep or store an image.
use Rattle.std.proofs.Common.{◌≡◌, ◌⊎◌, List, sym, subst, ◌∙◌, inl, inr, ⊎_elim, ℕ}
use Rattle.host_model.specs.Files.{Contents}
use Rattle.host_model.specs.Moments.{EachLeft}
use Rattle.host_model.proofs.MomentLemmas.{weaker}
use Rattle.m_key.specs.Globals.{Globals}
use Rattle.gds_images.specs.Outcome.{RecoversAsBefore, RecoversTo}
use Rattle.gds_file.proofs.SameLemmas.{same_carries_over}
use Rattle.gds_sound.specs.Stands.{StandsFor}
use Rattle.gds_units.specs.Durable.{AsBefore, IsStored, Stores}
use Rattle.gds_units.proofs.DurableLemmas.{some_same}
use Rattle.gds_base.specs.Finds.{Finds, FindsOneOfTwo, FindsStill, FindsStored, FindsTheSame}

-- an image that stands for a map, or one that is the same
pub found_stands : (m : Globals) (image text : List ℕ) (c : Contents) → StandsFor image m → RecoversTo image c
    → c.said ≡ text → Finds m text c
found_stands m image text c stands to said = record {
  image = to.found;
  recovers = to.recovers;
  stands = (same_carries_over image to.found to.same).stands m stands;
  said = said;
}

-- what was found before
pub found_again : (m : Globals) (text : List ℕ) (before : Contents → Type 0) (c : Contents)
    → ((d : Contents) → before d → Finds m text d) → RecoversAsBefore before c → Finds m text c
found_again m text before c each kept =
    let earlier = each kept.earlier kept.was_left in
    let one : earlier.image ≡ kept.found =
    some_same earlier.image kept.found (sym earlier.recovers ∙ kept.recovered_then) in
    found_stands m kept.found text c (subst (λ image. StandsFor image m) one earlier.stands) kept.recovers
    (kept.said ∙ earlier.said)

module _ {H : Type 0} (moment : H → ℕ) (left_since : H → ℕ → Contents → Type 0) (old new : H) where
  pub finds_still : FindsStill moment left_since old new
  finds_still m text each =
      weaker moment left_since old new (AsBefore moment left_since old) (Finds m text)
      (λ c kept. found_again m text (left_since old (moment old)) c each kept)

  pub finds_one_of_two : FindsOneOfTwo moment left_since old new
  finds_one_of_two m next image text each stands =
      weaker moment left_since old new (λ c. AsBefore moment left_since old c ⊎ Stores image text c)
      (λ c. Finds m text c ⊎ Finds next text c)
      (λ c. ⊎_elim
      (λ (kept : AsBefore moment left_since old c). inl (found_again m text (left_since old (moment old)) c each kept))
      (λ (own : Stores image text c). inr (found_stands next image text c stands own.recovers own.said)))

  pub finds_stored : FindsStored moment left_since old new
  finds_stored next image text stands stored c left =
      let own = stored c left in found_stands next image text c stands own.recovers own.said

  pub finds_the_same : FindsTheSame moment left_since old new
  finds_the_same m next image text each stands =
      ⊎_elim
      (λ (kept : EachLeft moment left_since new (AsBefore moment left_since old)).
      inl (λ c left. found_again m text (left_since old (moment old)) c each (kept c left)))
      (λ (stored : IsStored moment left_since image text new). inr (finds_stored next image text stands stored))
