-- Lists that rise by an order in which no two values tie.
use Rattle.std.proofs.Common.{◌≡◌, List, [], ◌∷◌, ◌++◌, ◌⊎◌, inl, inr, Ordering, Less, Equal, Greater, refl, sym, ap}
use Rattle.std.proofs.Common.{subst, ◌∙◌}
use Rattle.std.specs.Prelude.{⊤}
use Rattle.std.specs.Cmp.{IsTotalOrder}
use Rattle.std.specs.List.{AllByRecursion}
use Rattle.std.specs.List.Sorted.{IsStrictlySortedBy}
use Rattle.std.specs.Ordering.{ordering_reverse}
use Rattle.std.specs.FinMap.{IsAntisymmetric}
use Rattle.std.proofs.lemmas.Cmp.{tied_itself}
use Rattle.gds_law.proofs.MembershipLemmas.{IsIn, in_right, in_wider, Decided}

-- Each element is below those after it.
abbrev pub Rising : {A : Type 0} → (A → A → Ordering) → List A → Type 0
Rising cmp [] = ⊤
Rising {A} cmp (x ∷ xs) = ((y : A) → IsIn xs y → cmp x y ≡ Less) × Rising cmp xs

-- between this and std's word
each_in : {A : Type 0} (P : A → Type 0) (xs : List A) → AllByRecursion P xs → (x : A) → IsIn xs x → P x
each_in P [] h x i = absurd i
each_in P (y ∷ ys) h x (inl e) = subst P e h.0
each_in P (y ∷ ys) h x (inr i) = each_in P ys h.1 x i

each_from : {A : Type 0} (P : A → Type 0) (xs : List A) → ((x : A) → IsIn xs x → P x) → AllByRecursion P xs
each_from P [] h = tt
each_from P (y ∷ ys) h = (h y (inl refl), each_from P ys (λ x i. h x (inr i)))

pub Rising-from_sorted : {A : Type 0} (cmp : A → A → Ordering) (xs : List A) → IsStrictlySortedBy cmp xs → Rising cmp xs
unfolding IsStrictlySortedBy
Rising-from_sorted cmp [] h = tt
Rising-from_sorted cmp (x ∷ xs) h = (each_in (λ y. cmp x y ≡ Less) xs h.0, Rising-from_sorted cmp xs h.1)

pub sorted_from_Rising : {A : Type 0} (cmp : A → A → Ordering) (xs : List A) → Rising cmp xs → IsStrictlySortedBy cmp xs
unfolding IsStrictlySortedBy
sorted_from_Rising cmp [] h = tt
sorted_from_Rising cmp (x ∷ xs) h = (each_from (λ y. cmp x y ≡ Less) xs h.0, sorted_from_Rising cmp xs h.1)

-- What stands before is below what stands behind.
pub rises : {A : Type 0} (cmp : A → A → Ordering) (xs ys : List A) → Rising cmp (xs ++ ys) → (x y : A) → IsIn xs x
    → IsIn ys y → cmp x y ≡ Less
rises cmp [] ys r x y i j = absurd i
rises cmp (z ∷ zs) ys r x y (inl e) j = subst (λ w. cmp w y ≡ Less) e (r.0 y (in_right zs ys y j))
rises cmp (z ∷ zs) ys r x y (inr i) j = rises cmp zs ys r.1 x y i j

pub Rising-behind : {A : Type 0} (cmp : A → A → Ordering) (xs ys : List A) → Rising cmp (xs ++ ys) → Rising cmp ys
Rising-behind cmp [] ys r = r
Rising-behind cmp (z ∷ zs) ys r = Rising-behind cmp zs ys r.1

pub Rising-without : {A : Type 0} (cmp : A → A → Ordering) (xs : List A) (y : A) (ys : List A)
    → Rising cmp (xs ++ y ∷ ys) → Rising cmp (xs ++ ys)
Rising-without cmp [] y ys r = r.1
Rising-without cmp (z ∷ zs) y ys r = (λ w i. r.0 w (in_wider zs y ys w i), Rising-without cmp zs y ys r.1)

module _ (A : Type 0) (cmp : A → A → Ordering) (total : IsTotalOrder cmp) (exact : IsAntisymmetric cmp) where
  pub not_below_itself : (x : A) → cmp x x ≡ Less → ⊥
  not_below_itself x h = cc (tied_itself total x)

  pub below_from_above : (x y : A) → cmp x y ≡ Greater → cmp y x ≡ Less
  below_from_above x y h = total.antisymm y x ∙ ap ordering_reverse h

  pub not_both_below : (x y : A) → cmp x y ≡ Less → cmp y x ≡ Less → ⊥
  not_both_below x y h k = not_below_itself x (total.trans x y x h k)

  pub decide_same : (x y : A) → Decided (x ≡ y)
  decide_same x y = by (cmp x y) refl
    where
      by : (o : Ordering) → cmp x y ≡ o → Decided (x ≡ y)
      by Less h = inr (λ e. not_below_itself y (subst (λ w. cmp w y ≡ Less) e h))
      by Equal h = inl (exact x y h)
      by Greater h = inr (λ e. not_below_itself x (subst (λ w. cmp w x ≡ Less) (sym e) (below_from_above x y h)))

  pub decide_in : (xs : List A) (x : A) → Decided (IsIn xs x)
  decide_in [] x = inr (λ i. i)
  decide_in (y ∷ ys) x = by (decide_same y x) (decide_in ys x)
    where
      by : Decided (y ≡ x) → Decided (IsIn ys x) → Decided (IsIn (y ∷ ys) x)
      by (inl e) d = inl (inl e)
      by (inr n) (inl i) = inl (inr i)
      by (inr n) (inr m) = inr (λ i. elim i [ inl e ↦ n e | inr j ↦ m j ])

  -- Each list has one that rises and has its elements, and no others but what is put in first.
  record Inserted (x : A) (ys zs : List A) : Type 0 where
    rising : Rising cmp zs
    from : (z : A) → IsIn zs z → (x ≡ z) ⊎ IsIn ys z
    new : IsIn zs x
    old : (z : A) → IsIn ys z → IsIn zs z

  insert : (x : A) (ys : List A) → Rising cmp ys → (zs : List A) × Inserted x ys zs
  insert x [] r =
      (x ∷ [], record { rising = ((λ y i. absurd i), tt); from = λ z i. i; new = inl refl; old = λ z i. absurd i })
  insert x (y ∷ ys) r = by (cmp x y) refl (insert x ys r.1)
    where
      first : cmp x y ≡ Less → (z : A) → IsIn (y ∷ ys) z → cmp x z ≡ Less
      first h z (inl e) = subst (λ w. cmp x w ≡ Less) e h
      first h z (inr i) = total.trans x y z h (r.0 z i)

      above : (zs : List A) → cmp y x ≡ Less → Inserted x ys zs → (z : A) → IsIn zs z → cmp y z ≡ Less
      above zs h s z i = elim (s.from z i) [ inl e ↦ subst (λ w. cmp y w ≡ Less) e h | inr j ↦ r.0 z j ]

      from_later : (zs : List A) → Inserted x ys zs → (z : A) → IsIn (y ∷ zs) z → (x ≡ z) ⊎ IsIn (y ∷ ys) z
      from_later zs s z (inl e) = inr (inl e)
      from_later zs s z (inr i) = elim (s.from z i) [ inl e ↦ inl e | inr j ↦ inr (inr j) ]

      old_later : (zs : List A) → Inserted x ys zs → (z : A) → IsIn (y ∷ ys) z → IsIn (y ∷ zs) z
      old_later zs s z (inl e) = inl e
      old_later zs s z (inr i) = inr (s.old z i)

      by : (o : Ordering) → cmp x y ≡ o → ((zs : List A) × Inserted x ys zs) → (zs : List A) × Inserted x (y ∷ ys) zs
      by Less h rest =
          (x ∷ y ∷ ys, record { rising = (first h, r); from = λ z i. i; new = inl refl; old = λ z i. inr i })
      by Equal h rest =
          (y ∷ ys, record { rising = r; from = λ z i. inr i; new = inl (sym (exact x y h)); old = λ z i. i })
      by Greater h rest = (
        y ∷ rest.0,
        record {
          rising = (above rest.0 (below_from_above x y h) rest.1, rest.1.rising);
          from = from_later rest.0 rest.1;
          new = inr rest.1.new;
          old = old_later rest.0 rest.1;
        },
      )

  pub arranged : (xs : List A) → (ys : List A) × Rising cmp ys × ((x : A) → IsIn xs x → IsIn ys x)
  arranged [] = ([], tt, λ x i. i)
  arranged (x ∷ xs) = by (arranged xs)
    where
      all : (ys zs : List A) → ((z : A) → IsIn xs z → IsIn ys z) → Inserted x ys zs → (z : A) → IsIn (x ∷ xs) z
          → IsIn zs z
      all ys zs h s z (inl e) = subst (IsIn zs) e s.new
      all ys zs h s z (inr i) = s.old z (h z i)

      by : ((ys : List A) × Rising cmp ys × ((z : A) → IsIn xs z → IsIn ys z))
          → (ys : List A) × Rising cmp ys × ((z : A) → IsIn (x ∷ xs) z → IsIn ys z)
      by rest = let more = insert x rest.0 rest.1 in (more.0, more.1.rising, all rest.0 more.0 rest.2 more.1)
