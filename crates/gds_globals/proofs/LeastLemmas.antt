-- What is found first in a list that rises.
use Rattle.std.proofs.Common.{◌≡◌, Bool, true, false, true≢false, cond, ◌||◌, List}
use Rattle.std.proofs.Common.{[], ◌∷◌, ◌⊎◌, inl, inr, Option, None, Some}
use Rattle.std.proofs.Common.{Ordering, Less, refl, sym, ap, ◌∙◌}
use Rattle.std.specs.Prelude.{find, is_some}
use Rattle.std.specs.List.{list_any}
use Rattle.std.specs.Cmp.{IsTotalOrder}
use Rattle.std.proofs.lemmas.Cmp.{tied_itself}
use Rattle.gds_law.proofs.MembershipLemmas.{IsIn}
use Rattle.gds_law.proofs.RisingLemmas.{Rising}

module _ {A : Type 0} (c : A → A → Ordering) (P : A → Bool) where
  -- the least element that passes a test, if there is one
  abbrev pub IsLeast : List A → Option A → Type 0
  IsLeast xs (Some x) =
      IsIn xs x × (P x ≡ true) × ((y : A) → IsIn xs y → P y ≡ true → (x ≡ y) ⊎ (c x y ≡ Less))
  IsLeast xs None = (y : A) → IsIn xs y → P y ≡ true → ⊥

  differ : (x y : A) → x ≡ y → P x ≡ false → P y ≡ true → ⊥
  differ x y e n h = true≢false (sym h ∙ ap P (sym e) ∙ n)

  one_more : (x : A) (xs : List A) → P x ≡ false → (o : Option A) → IsLeast xs o → IsLeast (x ∷ xs) o
  one_more x xs n None h = λ y i p. elim i [ inl same ↦ differ x y same n p | inr j ↦ h y j p ]
  one_more x xs n (Some z) h =
      (inr h.0, h.1, λ y i p. elim i [ inl same ↦ absurd (differ x y same n p) | inr j ↦ h.2 y j p ])

  pub found_least : (xs : List A) → Rising c xs → IsLeast xs (find P xs)
  found_least [] r = λ y i h. i
  found_least (x ∷ xs) r = by (P x) refl (found_least xs r.1)
    where
      by : (t : Bool) → P x ≡ t → IsLeast xs (find P xs) → IsLeast (x ∷ xs) (cond t (Some x) (find P xs))
      by true e h = (inl refl, e, λ y i p. elim i [ inl same ↦ inl same | inr j ↦ inr (r.0 y j) ])
      by false e h = one_more x xs e (find P xs) h

  one_least : IsTotalOrder c → (xs : List A) (a b : Option A) → IsLeast xs a → IsLeast xs b → a ≡ b
  one_least total xs None None h k = refl
  one_least total xs None (Some y) h k = absurd (h y k.0 k.1)
  one_least total xs (Some x) None h k = absurd (k x h.0 h.1)
  one_least total xs (Some x) (Some y) h k = ap Some (by (h.2 y k.0 k.1) (k.2 x h.0 h.1))
    where
      by : (x ≡ y) ⊎ (c x y ≡ Less) → (y ≡ x) ⊎ (c y x ≡ Less) → x ≡ y
      by (inl e) q = e
      by (inr p) (inl e) = sym e
      by (inr p) (inr q) = absurd (cc (total.trans x y x p q, tied_itself total x))

  -- So it is what a search finds.
  pub finds : IsTotalOrder c → (xs : List A) → Rising c xs → (o : Option A) → IsLeast xs o → find P xs ≡ o
  finds total xs r o h = one_least total xs (find P xs) o (found_least xs r) h

-- Whether any passes is whether one is found.
any_step : {A : Type 0} (x : A) (t b : Bool) (o : Option A) → b ≡ is_some o → (t || b) ≡ is_some (cond t (Some x) o)
any_step x true b o e = refl
any_step x false b o e = e

pub any_found : {A : Type 0} (P : A → Bool) (xs : List A) → list_any P xs ≡ is_some (find P xs)
any_found P [] = refl
any_found P (x ∷ xs) = any_step x (P x) (list_any P xs) (find P xs) (any_found P xs)
