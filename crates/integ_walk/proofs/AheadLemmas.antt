-- Paths that stand before others, with all that go on from them.
use Rattle.std.proofs.Common.{◌≡◌, ℕ, ◌<◌, [], ◌∷◌, ◌++◌, ◌⊎◌, inl, inr, Less, nat_cmp, refl, sym, ap, subst, ◌∙◌}
use Rattle.std.proofs.Common.{append_assoc}
use Rattle.std.specs.Ordering.{ordering_then}
use Rattle.std.proofs.lemmas.Cmp.{tied_itself}
use Rattle.std.proofs.lemmas.List.{append-nil}
use Rattle.m_number.proofs.OrderingLemmas.{nat_cmp_less}
use Rattle.gds_law.specs.Path.{Steps, step_cmp, path_cmp}
use Rattle.gds_law.proofs.PathLemmas.{step_total}
use Rattle.integ_walk.specs.Progress.{IsAhead}

-- Two paths go on from a common front, the first one by an earlier record.
abbrev IsApart : Steps → Steps → Type 0
IsApart [] q = ⊥
IsApart (s ∷ p) [] = ⊥
IsApart (s ∷ p) (t ∷ q) = (step_cmp s t ≡ Less) ⊎ ((s ≡ t) × IsApart p q)

below_if_apart : (p q : Steps) → IsApart p q → path_cmp p q ≡ Less
below_if_apart [] q h = absurd h
below_if_apart (s ∷ p) [] h = absurd h
below_if_apart (s ∷ p) (t ∷ q) (inl h) = ap (λ o. ordering_then o (path_cmp p q)) h
below_if_apart (s ∷ p) (t ∷ q) (inr h) =
    subst (λ u. path_cmp (s ∷ p) (u ∷ q) ≡ Less) h.0
    (ap (λ o. ordering_then o (path_cmp p q)) (tied_itself step_total s) ∙ below_if_apart p q h.1)

apart_longer : (p t q : Steps) → IsApart p q → IsApart (p ++ t) q
apart_longer [] t q h = absurd h
apart_longer (s ∷ p) t [] h = absurd h
apart_longer (s ∷ p) t (u ∷ q) (inl h) = inl h
apart_longer (s ∷ p) t (u ∷ q) (inr h) = inr (h.0, apart_longer p t q h.1)

apart_at : (p : Steps) (block a b : ℕ) → a < b → IsApart (p ++ (block, a) ∷ []) (p ++ (block, b) ∷ [])
apart_at [] block a b h = inl (ap (λ o. ordering_then o (nat_cmp block block)) (nat_cmp_less a b h))
apart_at (s ∷ p) block a b h = inr (refl, apart_at p block a b h)

-- So do two records of one block.
pub ahead_at : (p : Steps) (block a b : ℕ) → a < b → IsAhead (p ++ (block, a) ∷ []) (p ++ (block, b) ∷ [])
ahead_at p block a b h rest =
    let first : Steps = p ++ (block, a) ∷ [] in
    let second : Steps = p ++ (block, b) ∷ [] in
    below_if_apart (first ++ rest) second (apart_longer first rest second (apart_at p block a b h))

pub ahead_longer : (p t q : Steps) → IsAhead p q → IsAhead (p ++ t) q
ahead_longer p t q h rest = subst (λ x. path_cmp x q ≡ Less) (sym (append_assoc p t rest)) (h (t ++ rest))

pub ahead_below : (p q : Steps) → IsAhead p q → path_cmp p q ≡ Less
ahead_below p q h = subst (λ x. path_cmp x q ≡ Less) (append-nil p) (h [])

-- A path stands before what goes on from it.
pub below_longer : (p : Steps) (s : ℕ × ℕ) (t : Steps) → path_cmp p (p ++ s ∷ t) ≡ Less
below_longer [] s t = refl
below_longer (u ∷ p) s t = ap (λ o. ordering_then o (path_cmp p (p ++ s ∷ t))) (tied_itself step_total u)
    ∙ below_longer p s t
