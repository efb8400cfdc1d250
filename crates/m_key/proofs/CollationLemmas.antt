-- Comparing one part after another.
use Rattle.std.proofs.Common.{◌≡◌, ℕ, ◌+◌, ◌<◌, true, false, true≢false, List, [], ◌∷◌, length, get_or, drop, map, min}
use Rattle.std.proofs.Common.{refl, sym, ap, ap₂, ◌∙◌, arith, length-drop, ◌-◌, nat_cmp, Ordering, Less, Equal, Greater}
use Rattle.std.specs.Ordering.{ordering_then, is_ne, on}
use Rattle.std.specs.Cmp.Lexicographic.{slice_cmp}
use Rattle.std.proofs.lemmas.Bool.Decides.{nat_tests}
use Rattle.std.proofs.lemmas.List.{drop_more}

pub then_decided : (o p z : Ordering) → o ≡ p → is_ne o ≡ true → o ≡ ordering_then p z
then_decided o p z e h = e ∙ decided p z (ap is_ne (sym e) ∙ h)
  where
    decided : (p z : Ordering) → is_ne p ≡ true → p ≡ ordering_then p z
    decided Less z h = refl
    decided Equal z h = absurd (true≢false (sym h))
    decided Greater z h = refl

pub then_next : (o p r z : Ordering) → o ≡ p → is_ne o ≡ false → r ≡ z → r ≡ ordering_then p z
then_next o p r z e h f = f ∙ next p z (ap is_ne (sym e) ∙ h)
  where
    next : (p z : Ordering) → is_ne p ≡ false → z ≡ ordering_then p z
    next Less z h = absurd (true≢false h)
    next Equal z h = refl
    next Greater z h = absurd (true≢false h)

pub slice_cmp-map : {X Y : Type 0} (f : X → Y) (R : Y → Y → Ordering) (a b : List X)
    → slice_cmp R (map f a) (map f b) ≡ slice_cmp (on f R) a b
slice_cmp-map f R [] [] = refl
slice_cmp-map f R [] (y ∷ ys) = refl
slice_cmp-map f R (x ∷ xs) [] = refl
slice_cmp-map f R (x ∷ xs) (y ∷ ys) = ap (ordering_then (R (f x) (f y))) (slice_cmp-map f R xs ys)

-- one element of both
pub slice_cmp-drop : {X : Type 0} (R : X → X → Ordering) (a b : List X) (i : ℕ) (x y : X) → i < length a → i < length b
    → x ≡ get_or a i x → y ≡ get_or b i y
    → slice_cmp R (drop i a) (drop i b) ≡ ordering_then (R x y) (slice_cmp R (drop (i + 1) a) (drop (i + 1) b))
slice_cmp-drop R a b i x y h g e f =
    ap₂ (slice_cmp R) (drop_more a i x h ∙ ap (λ z. z ∷ drop (i + 1) a) (sym e)) (drop_more b i y g
    ∙ ap (λ z. z ∷ drop (i + 1) b) (sym f))

-- where one list has ended
pub slice_cmp-end : {X : Type 0} (R : X → X → Ordering) (a b : List X) (i : ℕ) → min (length a) (length b) ≡ i
    → slice_cmp R (drop i a) (drop i b) ≡ nat_cmp (length a) (length b)
slice_cmp-end {X = X} R a b i e =
    by_lengths (length a) (length b) (drop i a) (drop i b) (length-drop i a) (length-drop i b) e
  where
    by_lengths : (m n : ℕ) (xs ys : List X) → length xs ≡ m - i → length ys ≡ n - i → min m n ≡ i
        → slice_cmp R xs ys ≡ nat_cmp m n
    by_lengths m n [] [] p q h = grind (arith, nat_tests)
    by_lengths m n [] (y ∷ ys) p q h = grind (arith, nat_tests)
    by_lengths m n (x ∷ xs) [] p q h = grind (arith, nat_tests)
    by_lengths m n (x ∷ xs) (y ∷ ys) p q h = absurd (omega arith)
