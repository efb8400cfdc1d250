-- A list that has a number twice.
use Rattle.std.proofs.Common.{◌≡◌, ℕ, suc, ◌+◌, ◌<◌, true, false, ◌||◌, eqb, List, [], ◌∷◌, ◌++◌, length, take, drop}
use Rattle.std.proofs.Common.{get_or, sym, ◌∙◌, ap, subst, drop-cons, take-append-drop}
use Rattle.std.specs.List.{IsDistinct, AllByRecursion, list_any}
use Rattle.std.specs.Cmp.{nat_eq_equiv}
use Rattle.std.proofs.lemmas.Map.Keys.{IsDistinct-head, IsDistinct-tail, IsDistinct-push}
use Rattle.std.proofs.lemmas.List.{take_more}

all_behind : {X : Type 0} (P : X → Type 0) (xs : List X) (x : X) (rest : List X) → AllByRecursion P (xs ++ x ∷ rest)
    → P x
all_behind P [] x rest all = all.0
all_behind P (y ∷ ys) x rest all = all_behind P ys x rest all.1

pub twice : (xs : List ℕ) (x : ℕ) (rest : List ℕ) → list_any (eqb x) xs ≡ true → IsDistinct eqb (xs ++ x ∷ rest) → ⊥
twice [] x rest had distinct = cc
twice (y ∷ ys) x rest had distinct =
    let apart : eqb y x ≡ false =
    all_behind (λ z. eqb y z ≡ false) ys x rest (IsDistinct-head eqb y (ys ++ x ∷ rest) distinct) in
    let other : eqb x y ≡ false = nat_eq_equiv.symm x y ∙ apart in
    twice ys x rest (sym (ap (λ b. b || list_any (eqb x) ys) other) ∙ had)
    (IsDistinct-tail eqb y (ys ++ x ∷ rest) distinct)

pub IsDistinct-none : IsDistinct eqb []
unfolding IsDistinct
IsDistinct-none = tt

-- one more, which is none of those before
pub distinct_more : (xs : List ℕ) (i : ℕ) (x : ℕ) → i < length xs → x ≡ get_or xs i 0 → IsDistinct eqb (take i xs)
    → list_any (eqb x) (take i xs) ≡ false → IsDistinct eqb (take (i + 1) xs)
distinct_more xs i x within is distinct new =
    subst (IsDistinct eqb) (sym (take_more xs i 0 within ∙ ap (λ y. take i xs ++ y ∷ []) (sym is)))
    (IsDistinct-push nat_eq_equiv (take i xs) x distinct new)

-- one more, which is one of those before
pub twice_at : (xs : List ℕ) (i : ℕ) (x : ℕ) → i < length xs → x ≡ get_or xs i 0 → list_any (eqb x) (take i xs) ≡ true
    → IsDistinct eqb xs → ⊥
twice_at xs i x within is had distinct =
    twice (take i xs) x (drop (suc i) xs) had
    (subst (IsDistinct eqb)
    (sym (take-append-drop i xs)
    ∙ ap (λ ys. take i xs ++ ys) (drop-cons xs i 0 within ∙ ap (λ y. y ∷ drop (suc i) xs) (sym is))) distinct)
