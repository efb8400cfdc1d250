-- Lists without a byte 0, each ended by one.
use Rattle.std.proofs.Common.{◌≡◌, ℕ, ◌<◌, ◌⊎◌, inl, inr, true, true≢false, List, [], ◌∷◌, ◌++◌, refl, sym, ap, ◌∙◌}
use Rattle.std.proofs.Common.{arith, append_assoc, nat_cmp, is_lt, is_le, Ordering, Less, Equal, Greater}
use Rattle.std.specs.Ordering.{ordering_then}
use Rattle.std.specs.Cmp.Lexicographic.{slice_cmp}
use Rattle.std.specs.List.{AllByRecursion}
use Rattle.std.proofs.lemmas.Bool.{cases_order}
use Rattle.m_number.proofs.OrderingLemmas.{nat_cmp_less, nat_cmp_same, nat_cmp_greater, then_assoc}

abbrev pub NoZero : List ℕ → Type 0
NoZero xs = AllByRecursion (λ b. 0 < b) xs

pub NoZero-append : (a b : List ℕ) → NoZero a → NoZero b → NoZero (a ++ b)
NoZero-append [] b p q = q
NoZero-append (x ∷ xs) b p q = (p.0, NoZero-append xs b p.1 q)

-- comparing what 0 ends is comparing that, and then the rest
pub cmp-ended : (a b x y : List ℕ) → NoZero a → NoZero b
    → slice_cmp nat_cmp (a ++ 0 ∷ x) (b ++ 0 ∷ y) ≡ ordering_then (slice_cmp nat_cmp a b) (slice_cmp nat_cmp x y)
cmp-ended [] [] x y p q = refl
cmp-ended [] (b ∷ bs) x y p q = ap (λ o. ordering_then o (slice_cmp nat_cmp x (bs ++ 0 ∷ y))) (nat_cmp_less 0 b q.0)
cmp-ended (a ∷ ls) [] x y p q = ap (λ o. ordering_then o (slice_cmp nat_cmp (ls ++ 0 ∷ x) y)) (nat_cmp_greater a 0 p.0)
cmp-ended (a ∷ ls) (b ∷ bs) x y p q =
    ap (ordering_then (nat_cmp a b)) (cmp-ended ls bs x y p.1 q.1)
    ∙ sym (then_assoc (nat_cmp a b) (slice_cmp nat_cmp ls bs) (slice_cmp nat_cmp x y))

-- what 0 ends is known from the whole
pub split-ended : (a b x y : List ℕ) → NoZero a → NoZero b → a ++ 0 ∷ x ≡ b ++ 0 ∷ y → (a ≡ b) × (x ≡ y)
split-ended [] [] x y p q e = (refl, cc)
split-ended [] (b ∷ bs) x y p q e = let h : 0 ≡ b = cc in absurd (omega arith)
split-ended (a ∷ ls) [] x y p q e = let h : a ≡ 0 = cc in absurd (omega arith)
split-ended (a ∷ ls) (b ∷ bs) x y p q e =
    let h : a ≡ b = cc in
    let t : ls ++ 0 ∷ x ≡ bs ++ 0 ∷ y = cc in
    let r = split-ended ls bs x y p.1 q.1 t in
    (λ i. h i ∷ r.0 i, r.1)

pub cmp-same : (xs : List ℕ) → slice_cmp nat_cmp xs xs ≡ Equal
cmp-same [] = refl
cmp-same (x ∷ xs) = ap (λ o. ordering_then o (slice_cmp nat_cmp xs xs)) (nat_cmp_same x) ∙ cmp-same xs

-- what two lists begin with says nothing of their order
pub cmp-prefix : (p x y : List ℕ) → slice_cmp nat_cmp (p ++ x) (p ++ y) ≡ slice_cmp nat_cmp x y
cmp-prefix [] x y = refl
cmp-prefix (a ∷ ls) x y = ap (λ o. ordering_then o (slice_cmp nat_cmp (ls ++ x) (ls ++ y))) (nat_cmp_same a)
    ∙ cmp-prefix ls x y

-- no list that a 0 ends stands before the 0 alone
pub zero_least : (xs : List ℕ) → is_le (slice_cmp nat_cmp (0 ∷ []) (xs ++ 0 ∷ [])) ≡ true
zero_least [] = refl
zero_least (x ∷ xs) = zero_least_step x xs (cases_order 0 x)
  where
    zero_least_more : (xs : List ℕ) → is_le (slice_cmp nat_cmp [] (xs ++ 0 ∷ [])) ≡ true
    zero_least_more [] = refl
    zero_least_more (x ∷ xs) = refl

    zero_least_step : (x : ℕ) (xs : List ℕ) → (0 ≡ x) ⊎ ((0 < x) ⊎ (x < 0))
        → is_le (ordering_then (nat_cmp 0 x) (slice_cmp nat_cmp [] (xs ++ 0 ∷ []))) ≡ true
    zero_least_step x xs (inl e) =
        ap (λ n. is_le (ordering_then (nat_cmp 0 n) (slice_cmp nat_cmp [] (xs ++ 0 ∷ [])))) (sym e) ∙ zero_least_more xs
    zero_least_step x xs (inr (inl h)) =
        ap (λ o. is_le (ordering_then o (slice_cmp nat_cmp [] (xs ++ 0 ∷ [])))) (nat_cmp_less 0 x h)
    zero_least_step x xs (inr (inr h)) = absurd (omega arith)

-- what comes before a list comes before what begins it, or is that
pub le_front : (p q x : List ℕ) → is_le (slice_cmp nat_cmp (p ++ q) x) ≡ true → is_le (slice_cmp nat_cmp p x) ≡ true
le_front [] q [] h = refl
le_front [] q (b ∷ bs) h = refl
le_front (a ∷ ls) q [] h = h
le_front (a ∷ ls) q (b ∷ bs) h =
    le_front_step (nat_cmp a b) (slice_cmp nat_cmp (ls ++ q) bs) (slice_cmp nat_cmp ls bs) (le_front ls q bs) h
  where
    le_front_step : (o r t : Ordering) → (is_le r ≡ true → is_le t ≡ true) → is_le (ordering_then o r) ≡ true
        → is_le (ordering_then o t) ≡ true
    le_front_step Less r t f h = refl
    le_front_step Equal r t f h = f h
    le_front_step Greater r t f h = h

-- which lists begin with p and a 0
pub begins-from : (p rest : List ℕ) → is_lt (slice_cmp nat_cmp ((p ++ 0 ∷ []) ++ rest) (p ++ 1 ∷ [])) ≡ true
begins-from p rest =
    ap is_lt (ap (λ l. slice_cmp nat_cmp l (p ++ 1 ∷ [])) (append_assoc p (0 ∷ []) rest)
    ∙ cmp-prefix p (0 ∷ rest) (1 ∷ []))

pub between_begins : (p x : List ℕ) → is_le (slice_cmp nat_cmp (p ++ 0 ∷ []) x) ≡ true
    → is_lt (slice_cmp nat_cmp x (p ++ 1 ∷ [])) ≡ true → (rest : List ℕ) × (x ≡ (p ++ 0 ∷ []) ++ rest)
between_begins [] [] h g = absurd (true≢false (sym h))
between_begins [] (b ∷ bs) h g = between_first b bs g (cases_order b 1)
  where
    no_less : (bs : List ℕ) → is_lt (slice_cmp nat_cmp bs []) ≡ true → ⊥
    no_less [] g = true≢false (sym g)
    no_less (c ∷ cs) g = true≢false (sym g)

    between_first : (b : ℕ) (bs : List ℕ) → is_lt (ordering_then (nat_cmp b 1) (slice_cmp nat_cmp bs [])) ≡ true
        → (b ≡ 1) ⊎ ((b < 1) ⊎ (1 < b)) → (rest : List ℕ) × (b ∷ bs ≡ 0 ∷ rest)
    between_first b bs g (inl e) =
        absurd (no_less bs (ap (λ n. is_lt (ordering_then (nat_cmp n 1) (slice_cmp nat_cmp bs []))) (sym e) ∙ g))
    between_first b bs g (inr (inl h)) = let e : b ≡ 0 = omega arith in (bs, λ i. e i ∷ bs)
    between_first b bs g (inr (inr h)) =
        absurd (true≢false (sym (ap (λ o. is_lt (ordering_then o (slice_cmp nat_cmp bs [])))
        (sym (nat_cmp_greater b 1 h)) ∙ g)))
between_begins (a ∷ ls) [] h g = absurd (true≢false (sym h))
between_begins (a ∷ ls) (b ∷ bs) h g = between_more a ls b bs h g (cases_order a b) (between_begins ls bs)
  where
    between_more : (a : ℕ) (ls : List ℕ) (b : ℕ) (bs : List ℕ)
        → is_le (ordering_then (nat_cmp a b) (slice_cmp nat_cmp (ls ++ 0 ∷ []) bs)) ≡ true
        → is_lt (ordering_then (nat_cmp b a) (slice_cmp nat_cmp bs (ls ++ 1 ∷ []))) ≡ true
        → (a ≡ b) ⊎ ((a < b) ⊎ (b < a))
        → (is_le (slice_cmp nat_cmp (ls ++ 0 ∷ []) bs) ≡ true → is_lt (slice_cmp nat_cmp bs (ls ++ 1 ∷ [])) ≡ true
        → (rest : List ℕ) × (bs ≡ (ls ++ 0 ∷ []) ++ rest)) → (rest : List ℕ) × (b ∷ bs ≡ (a ∷ ls ++ 0 ∷ []) ++ rest)
    between_more a ls b bs h g (inl e) more =
        let h' : is_le (slice_cmp nat_cmp (ls ++ 0 ∷ []) bs) ≡ true =
        ap (λ o. is_le (ordering_then o (slice_cmp nat_cmp (ls ++ 0 ∷ []) bs))) (sym (ap (nat_cmp a) (sym e)
        ∙ nat_cmp_same a)) ∙ h in
        let g' : is_lt (slice_cmp nat_cmp bs (ls ++ 1 ∷ [])) ≡ true =
        ap (λ o. is_lt (ordering_then o (slice_cmp nat_cmp bs (ls ++ 1 ∷ [])))) (sym (ap (nat_cmp b) e
        ∙ nat_cmp_same b)) ∙ g in
        let r = more h' g' in
        (r.0, λ i. sym e i ∷ r.1 i)
    between_more a ls b bs h g (inr (inl l)) more =
        absurd (true≢false (sym (ap (λ o. is_lt (ordering_then o (slice_cmp nat_cmp bs (ls ++ 1 ∷ []))))
        (sym (nat_cmp_greater b a l)) ∙ g)))
    between_more a ls b bs h g (inr (inr l)) more =
        absurd (true≢false (sym (ap (λ o. is_le (ordering_then o (slice_cmp nat_cmp (ls ++ 0 ∷ []) bs)))
        (sym (nat_cmp_greater a b l)) ∙ h)))
