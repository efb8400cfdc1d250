-- Elements of a list, by recursion: whether one is there, where lists are joined, mapped and searched.
use Rattle.std.proofs.Common.{◌≡◌, zero, suc, List, [], ◌∷◌, ◌++◌, map, flat_map, Contains, ◌⊎◌, inl, inr, refl, sym}
use Rattle.std.proofs.Common.{ap, subst, arith}

-- x is an element of xs
abbrev pub IsIn : {A : Type 0} → List A → A → Type 0
IsIn [] x = ⊥
IsIn (y ∷ ys) x = (y ≡ x) ⊎ IsIn ys x

-- the same by an index, as std says it
pub in_from_Contains : {A : Type 0} (xs : List A) (x : A) → Contains xs x → IsIn xs x
in_from_Contains [] x (k, low, e) = absurd (omega arith)
in_from_Contains (y ∷ ys) x (zero, low, e) = inl e
in_from_Contains (y ∷ ys) x (suc k, low, e) = inr (in_from_Contains ys x (k, omega arith, e))

pub Contains-from_in : {A : Type 0} (xs : List A) (x : A) → IsIn xs x → Contains xs x
Contains-from_in [] x i = absurd i
Contains-from_in (y ∷ ys) x (inl e) = (0, omega arith, e)
Contains-from_in (y ∷ ys) x (inr i) =
    let c = Contains-from_in ys x i in
    (suc c.0, omega (arith, c.1), c.2)

-- of lists one after the other
pub in_left : {A : Type 0} (xs ys : List A) (x : A) → IsIn xs x → IsIn (xs ++ ys) x
in_left [] ys x i = absurd i
in_left (z ∷ zs) ys x (inl e) = inl e
in_left (z ∷ zs) ys x (inr i) = inr (in_left zs ys x i)

pub in_right : {A : Type 0} (xs ys : List A) (x : A) → IsIn ys x → IsIn (xs ++ ys) x
in_right [] ys x i = i
in_right (z ∷ zs) ys x i = inr (in_right zs ys x i)

pub in_either : {A : Type 0} (xs ys : List A) (x : A) → IsIn (xs ++ ys) x → IsIn xs x ⊎ IsIn ys x
in_either [] ys x i = inr i
in_either (z ∷ zs) ys x (inl e) = inl (inl e)
in_either (z ∷ zs) ys x (inr i) = elim (in_either zs ys x i) [ inl j ↦ inl (inr j) | inr j ↦ inr j ]

-- an element more in the middle
pub in_wider : {A : Type 0} (xs : List A) (y : A) (ys : List A) (x : A) → IsIn (xs ++ ys) x → IsIn (xs ++ y ∷ ys) x
in_wider [] y ys x i = inr i
in_wider (z ∷ zs) y ys x (inl e) = inl e
in_wider (z ∷ zs) y ys x (inr i) = inr (in_wider zs y ys x i)

-- of what a function makes of each element
pub in_map : {A B : Type 0} (f : A → B) (xs : List A) (x : A) → IsIn xs x → IsIn (map f xs) (f x)
in_map f [] x i = absurd i
in_map f (y ∷ ys) x (inl e) = inl (ap f e)
in_map f (y ∷ ys) x (inr i) = inr (in_map f ys x i)

pub in_map_from : {A B : Type 0} (f : A → B) (xs : List A) (y : B) → IsIn (map f xs) y → (x : A) × IsIn xs x × (f x ≡ y)
in_map_from f [] y i = absurd i
in_map_from f (x ∷ xs) y (inl e) = (x, inl refl, e)
in_map_from f (x ∷ xs) y (inr i) = let r = in_map_from f xs y i in (r.0, inr r.1, r.2)

pub in_flat_map : {A B : Type 0} (f : A → List B) (xs : List A) (x : A) (y : B) → IsIn xs x → IsIn (f x) y
    → IsIn (flat_map f xs) y
in_flat_map f [] x y i j = absurd i
in_flat_map f (z ∷ zs) x y (inl e) j = in_left (f z) (flat_map f zs) y (subst (λ w. IsIn (f w) y) (sym e) j)
in_flat_map f (z ∷ zs) x y (inr i) j = in_right (f z) (flat_map f zs) y (in_flat_map f zs x y i j)

-- A statement holds or it doesn't, and it is known which.
abbrev pub Decided : Type 0 → Type 0
Decided P = P ⊎ (P → ⊥)

pub decide_both : (P Q : Type 0) → Decided P → Decided Q → Decided (P × Q)
decide_both P Q (inl p) (inl q) = inl (p, q)
decide_both P Q (inl p) (inr n) = inr (λ h. n h.1)
decide_both P Q (inr n) q = inr (λ h. n h.0)

-- Some element of a list is such, or none is.
pub decide_some : {A : Type 0} (P : A → Type 0) → ((x : A) → Decided (P x)) → (xs : List A)
    → Decided ((x : A) × IsIn xs x × P x)
decide_some P d [] = inr (λ h. absurd h.1)
decide_some {A} P d (y ∷ ys) = by (d y) (decide_some P d ys)
  where
    by : Decided (P y) → Decided ((x : A) × IsIn ys x × P x) → Decided ((x : A) × IsIn (y ∷ ys) x × P x)
    by (inl p) rest = inl (y, inl refl, p)
    by (inr n) (inl h) = inl (h.0, inr h.1, h.2)
    by (inr n) (inr m) = inr (λ h. none h.0 h.1 h.2)
      where
        none : (x : A) → IsIn (y ∷ ys) x → P x → ⊥
        none x (inl e) p = n (subst P (sym e) p)
        none x (inr i) p = m (x, i, p)
