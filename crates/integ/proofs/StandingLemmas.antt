-- What of the kinds that are asked is left to be told.
use Rattle.std.proofs.Common.{ℕ, ◌≡◌, ◌+◌, ◌<◌, Bool, true, false, List, [], ◌∷◌, length, get_or, drop, refl, ◌∙◌}
use Rattle.std.proofs.Common.{ap, add-one, drop-cons}
use Rattle.std.specs.Prelude.{map, filter, if◌then◌else◌}
use Rattle.gds_law.specs.declared.kind.FaultKind.{FaultKind}
use Rattle.integ.specs.Standing.{standing}

module _ (kinds : List (FaultKind × Bool)) (i : ℕ) (d : FaultKind × Bool) (here : i < length kinds) where
  first : drop i kinds ≡ get_or kinds i d ∷ drop (i + 1) kinds
  first = rw (add-one, drop-cons kinds i d) refl

  pub standing-yes : (get_or kinds i d).1 ≡ true
      → standing (drop i kinds) ≡ (get_or kinds i d).0 ∷ standing (drop (i + 1) kinds)
  standing-yes stands = ap standing first ∙ rw stands refl

  pub standing-not : (get_or kinds i d).1 ≡ false → standing (drop i kinds) ≡ standing (drop (i + 1) kinds)
  standing-not stands = ap standing first ∙ rw stands refl

-- The kinds of a table that pass a test, when each was asked.
pub standing-filter : (test : FaultKind → Bool) (kinds : List FaultKind)
    → standing (map (λ kind. (kind, test kind)) kinds) ≡ filter test kinds
standing-filter test [] = refl
standing-filter test (kind ∷ kinds) = step (test kind) (standing-filter test kinds)
  where
    step : (b : Bool) → standing (map (λ kind. (kind, test kind)) kinds) ≡ filter test kinds
        → standing ((kind, b) ∷ map (λ kind. (kind, test kind)) kinds)
        ≡ (if b then kind ∷ filter test kinds else filter test kinds)
    step true rest = ap (λ ks. kind ∷ ks) rest
    step false rest = rest
