-- What three keys share with one another.
use Rattle.std.proofs.Common.{ℕ, ◌≡◌, ◌-◌, ◌≤◌, ◌<◌, List, [], ◌∷◌, ◌⊎◌, inl, inr, refl, sym, ◌∙◌, arith}
use Rattle.std.proofs.lemmas.Bool.{cases_order, cases_lt}
use Rattle.m_key.specs.KeyEnd.{shared}
use Rattle.m_key.proofs.KeyEndLemmas.{shared-nil}
use Rattle.gds_search.proofs.OrderLemmas.{shared-heads, shared-tails}

same_or_not : (x y : ℕ) → (x ≡ y) ⊎ (x ≡ y → ⊥)
same_or_not x y =
    elim (cases_order x y) [
      | inl e ↦ inl e
      | inr d ↦ inr (λ e. elim d [ inl l ↦ omega (arith, l, e) | inr l ↦ omega (arith, l, e) ])
    ]

-- What two keys share doesn't depend on their order.
pub shared-turned : (a b : List ℕ) → shared a b ≡ shared b a
shared-turned [] b = sym (shared-nil b)
shared-turned (x ∷ a) [] = refl
shared-turned (x ∷ a) (y ∷ b) =
    elim (same_or_not x y) [
      | inl e ↦ omega (arith, shared-turned a b, shared-tails x y a b e, shared-tails y x b a (sym e))
      | inr ne ↦ shared-heads x y a b ne ∙ sym (shared-heads y x b a (λ e. ne (sym e)))
    ]

-- A key that shares less with the second than the second with the third shares as much with the third.
pub shared-less : (a b c : List ℕ) → shared a b < shared b c → shared a c ≡ shared a b
shared-less [] b c h = refl
shared-less (x ∷ a) [] c h = absurd (omega arith)
shared-less (x ∷ a) (y ∷ b) [] h = absurd (omega arith)
shared-less (x ∷ a) (y ∷ b) (z ∷ c) h =
    elim (same_or_not y z) [
      | inr ne ↦ absurd (omega (arith, shared-heads y z b c ne))
      | inl f ↦ elim (same_or_not x y) [
        | inr ne ↦ shared-heads x z a c (λ e. ne (e ∙ sym f)) ∙ sym (shared-heads x y a b ne)
        | inl e ↦
            let one = shared-tails x y a b e in
            let two = shared-tails y z b c f in
            omega (arith, shared-less a b c (omega arith), one, shared-tails x z a c (e ∙ f))
      ]
    ]

-- One that shares no less shares no less with the third either.
pub shared-more : (a b c : List ℕ) → shared b c ≤ shared a b → shared b c ≤ shared a c
shared-more [] b c h = h
shared-more (x ∷ a) [] c h = omega arith
shared-more (x ∷ a) (y ∷ b) [] h = omega arith
shared-more (x ∷ a) (y ∷ b) (z ∷ c) h =
    elim (same_or_not y z) [
      | inr ne ↦ omega (arith, shared-heads y z b c ne)
      | inl f ↦ elim (same_or_not x y) [
        | inr ne ↦ absurd (omega (arith, shared-heads x y a b ne, shared-tails y z b c f))
        | inl e ↦
            let one = shared-tails x y a b e in
            let two = shared-tails y z b c f in
            omega (arith, shared-more a b c (omega arith), shared-tails x z a c (e ∙ f))
      ]
    ]

-- What a key shares with the third of three, where it is no more than the second shares with it, as where they rise:
-- the lesser of what neighbours share.
pub shared-neighbours : (a b c : List ℕ) → shared a c ≤ shared b c
    → shared a c ≡ shared b c - (shared b c - shared a b)
shared-neighbours a b c h =
    elim (cases_lt (shared a b) (shared b c)) [
      | inl less ↦ omega (arith, shared-less a b c less)
      | inr more ↦ omega (arith, shared-more a b c more)
    ]
