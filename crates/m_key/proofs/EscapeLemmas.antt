-- Escaping leaves no byte 0, can be undone, and keeps the order.
use Rattle.std.proofs.Common.{◌≡◌, ℕ, zero, suc, ◌<◌, ◌≤◌, ◌⊎◌, inl, inr, List, [], ◌∷◌, ◌++◌, length, drop, refl, sym}
use Rattle.std.proofs.Common.{ap, ◌∙◌, arith, nat_cmp, Less, Greater, flat_map}
use Rattle.std.specs.Prelude.{slice_index}
use Rattle.std.specs.Ordering.{ordering_then}
use Rattle.std.specs.Cmp.Lexicographic.{slice_cmp}
use Rattle.std.proofs.lemmas.Bool.Decides.{nat_tests}
use Rattle.std.specs.FinMap.{slice_cmp-IsAntisymmetric, nat_cmp-IsAntisymmetric}
use Rattle.m_key.specs.Key.{escaped}
use Rattle.m_key.proofs.ZeroLemmas.{NoZero, NoZero-append, cmp-same}
use Rattle.m_number.proofs.OrderingLemmas.{nat_cmp_less, nat_cmp_same, nat_cmp_greater}

-- a byte is 0 or 1, which have two bytes each, or stands for itself
data Escaped (b : ℕ) : Type 0 where
  none : b ≡ 0 → escaped b ≡ 1 ∷ 1 ∷ [] → Escaped b
  one : b ≡ 1 → escaped b ≡ 1 ∷ 2 ∷ [] → Escaped b
  more : 2 ≤ b → escaped b ≡ b ∷ [] → Escaped b

pub escaped-plain : (b : ℕ) → 1 < b → escaped b ≡ b ∷ []
escaped-plain b h = grind (arith, nat_tests)

cases : (b : ℕ) → (b ≡ 0) ⊎ ((b ≡ 1) ⊎ (2 ≤ b)) → Escaped b
cases b (inl e) = none e (ap escaped e)
cases b (inr (inl e)) = one e (ap escaped e)
cases b (inr (inr h)) = more h (escaped-plain b (omega arith))

three_ways : (b : ℕ) → (b ≡ 0) ⊎ ((b ≡ 1) ⊎ (2 ≤ b))
three_ways zero = inl refl
three_ways (suc zero) = inr (inl refl)
three_ways (suc (suc b)) = inr (inr (omega arith))

escaped_cases : (b : ℕ) → Escaped b
escaped_cases b = cases b (three_ways b)

-- one byte more, in the order of escaped lists
module _ (x y : ℕ) (a b : List ℕ) where
  same_step : {l m : List ℕ} → escaped x ≡ l → escaped y ≡ m → x ≡ y
      → slice_cmp nat_cmp (l ++ a) (m ++ b) ≡ slice_cmp nat_cmp a b
      → slice_cmp nat_cmp (escaped x ++ a) (escaped y ++ b) ≡ ordering_then (nat_cmp x y) (slice_cmp nat_cmp a b)
  same_step ex ey e t =
      rw (ex, ey) (t
      ∙ sym (ap (λ o. ordering_then o (slice_cmp nat_cmp a b)) (ap (nat_cmp x) (sym e) ∙ nat_cmp_same x)))

  less_step : {l m : List ℕ} → escaped x ≡ l → escaped y ≡ m → x < y → slice_cmp nat_cmp (l ++ a) (m ++ b) ≡ Less
      → slice_cmp nat_cmp (escaped x ++ a) (escaped y ++ b) ≡ ordering_then (nat_cmp x y) (slice_cmp nat_cmp a b)
  less_step ex ey h t = rw (ex, ey) (t ∙ sym (ap (λ o. ordering_then o (slice_cmp nat_cmp a b)) (nat_cmp_less x y h)))

  greater_step : {l m : List ℕ} → escaped x ≡ l → escaped y ≡ m → y < x → slice_cmp nat_cmp (l ++ a) (m ++ b) ≡ Greater
      → slice_cmp nat_cmp (escaped x ++ a) (escaped y ++ b) ≡ ordering_then (nat_cmp x y) (slice_cmp nat_cmp a b)
  greater_step ex ey h t =
      rw (ex, ey) (t ∙ sym (ap (λ o. ordering_then o (slice_cmp nat_cmp a b)) (nat_cmp_greater x y h)))

  step : Escaped x → Escaped y
      → slice_cmp nat_cmp (escaped x ++ a) (escaped y ++ b) ≡ ordering_then (nat_cmp x y) (slice_cmp nat_cmp a b)
  step (none e ex) (none f ey) = same_step ex ey (omega arith) refl
  step (none e ex) (one f ey) = less_step ex ey (omega arith) refl
  step (none e ex) (more f ey) =
      less_step ex ey (omega arith) (ap (λ o. ordering_then o (slice_cmp nat_cmp (1 ∷ a) b))
      (nat_cmp_less 1 y (omega arith)))
  step (one e ex) (none f ey) = greater_step ex ey (omega arith) refl
  step (one e ex) (one f ey) = same_step ex ey (omega arith) refl
  step (one e ex) (more f ey) =
      less_step ex ey (omega arith) (ap (λ o. ordering_then o (slice_cmp nat_cmp (2 ∷ a) b))
      (nat_cmp_less 1 y (omega arith)))
  step (more e ex) (none f ey) =
      greater_step ex ey (omega arith) (ap (λ o. ordering_then o (slice_cmp nat_cmp a (1 ∷ b)))
      (nat_cmp_greater x 1 (omega arith)))
  step (more e ex) (one f ey) =
      greater_step ex ey (omega arith) (ap (λ o. ordering_then o (slice_cmp nat_cmp a (2 ∷ b)))
      (nat_cmp_greater x 1 (omega arith)))
  step (more e ex) (more f ey) = rw (ex, ey) refl

-- an escaped byte stands before nothing
first_step : (y : ℕ) (b : List ℕ) → Escaped y → slice_cmp nat_cmp [] (escaped y ++ b) ≡ Less
first_step y b (none f e) = rw e refl
first_step y b (one f e) = rw e refl
first_step y b (more f e) = rw e refl

last_step : (x : ℕ) (a : List ℕ) → Escaped x → slice_cmp nat_cmp (escaped x ++ a) [] ≡ Greater
last_step x a (none f e) = rw e refl
last_step x a (one f e) = rw e refl
last_step x a (more f e) = rw e refl

pub cmp-escaped : (s t : List ℕ) → slice_cmp nat_cmp (flat_map escaped s) (flat_map escaped t) ≡ slice_cmp nat_cmp s t
cmp-escaped [] [] = refl
cmp-escaped [] (y ∷ ys) = first_step y (flat_map escaped ys) (escaped_cases y)
cmp-escaped (x ∷ xs) [] = last_step x (flat_map escaped xs) (escaped_cases x)
cmp-escaped (x ∷ xs) (y ∷ ys) =
    step x y (flat_map escaped xs) (flat_map escaped ys) (escaped_cases x) (escaped_cases y)
    ∙ ap (ordering_then (nat_cmp x y)) (cmp-escaped xs ys)

no_zero : (b : ℕ) → Escaped b → NoZero (escaped b)
no_zero b (none f e) = rw e (omega arith, (omega arith, tt))
no_zero b (one f e) = rw e (omega arith, (omega arith, tt))
no_zero b (more f e) = rw e (omega arith, tt)

pub NoZero-escaped : (s : List ℕ) → NoZero (flat_map escaped s)
NoZero-escaped [] = tt
NoZero-escaped (b ∷ bs) =
    NoZero-append (escaped b) (flat_map escaped bs) (no_zero b (escaped_cases b)) (NoZero-escaped bs)

-- escaping can be undone
pub escaped-injective : (s t : List ℕ) → flat_map escaped s ≡ flat_map escaped t → s ≡ t
escaped-injective s t e =
    slice_cmp-IsAntisymmetric nat_cmp-IsAntisymmetric s t
    (sym (cmp-escaped s t) ∙ ap (slice_cmp nat_cmp (flat_map escaped s)) (sym e) ∙ cmp-same (flat_map escaped s))

-- what one byte is escaped to is known from the front
front_split : (x y : ℕ) (a b : List ℕ) → Escaped x → Escaped y → escaped x ++ a ≡ escaped y ++ b → (x ≡ y) × (a ≡ b)
front_split x y a b (none e ex) (none f ey) h =
    let g : 1 ∷ 1 ∷ a ≡ 1 ∷ 1 ∷ b = ap (λ l. l ++ a) (sym ex) ∙ h ∙ ap (λ l. l ++ b) ey in (e ∙ sym f, ap (drop 2) g)
front_split x y a b (none e ex) (one f ey) h =
    let g : 1 ∷ 1 ∷ a ≡ 1 ∷ 2 ∷ b = ap (λ l. l ++ a) (sym ex) ∙ h ∙ ap (λ l. l ++ b) ey in
    let k : ◌≡◌ {A = ℕ} 1 2 = ap (λ l. slice_index l 1) g in absurd (omega arith)
front_split x y a b (none e ex) (more f ey) h =
    let g : 1 ∷ 1 ∷ a ≡ y ∷ b = ap (λ l. l ++ a) (sym ex) ∙ h ∙ ap (λ l. l ++ b) ey in
    let k : 1 ≡ y = ap (λ l. slice_index l 0) g in absurd (omega arith)
front_split x y a b (one e ex) (none f ey) h =
    let g : 1 ∷ 2 ∷ a ≡ 1 ∷ 1 ∷ b = ap (λ l. l ++ a) (sym ex) ∙ h ∙ ap (λ l. l ++ b) ey in
    let k : ◌≡◌ {A = ℕ} 2 1 = ap (λ l. slice_index l 1) g in absurd (omega arith)
front_split x y a b (one e ex) (one f ey) h =
    let g : 1 ∷ 2 ∷ a ≡ 1 ∷ 2 ∷ b = ap (λ l. l ++ a) (sym ex) ∙ h ∙ ap (λ l. l ++ b) ey in (e ∙ sym f, ap (drop 2) g)
front_split x y a b (one e ex) (more f ey) h =
    let g : 1 ∷ 2 ∷ a ≡ y ∷ b = ap (λ l. l ++ a) (sym ex) ∙ h ∙ ap (λ l. l ++ b) ey in
    let k : 1 ≡ y = ap (λ l. slice_index l 0) g in absurd (omega arith)
front_split x y a b (more e ex) (none f ey) h =
    let g : x ∷ a ≡ 1 ∷ 1 ∷ b = ap (λ l. l ++ a) (sym ex) ∙ h ∙ ap (λ l. l ++ b) ey in
    let k : x ≡ 1 = ap (λ l. slice_index l 0) g in absurd (omega arith)
front_split x y a b (more e ex) (one f ey) h =
    let g : x ∷ a ≡ 1 ∷ 2 ∷ b = ap (λ l. l ++ a) (sym ex) ∙ h ∙ ap (λ l. l ++ b) ey in
    let k : x ≡ 1 = ap (λ l. slice_index l 0) g in absurd (omega arith)
front_split x y a b (more e ex) (more f ey) h =
    let g : x ∷ a ≡ y ∷ b = ap (λ l. l ++ a) (sym ex) ∙ h ∙ ap (λ l. l ++ b) ey in
    (ap (λ l. slice_index l 0) g, ap (drop 1) g)

pub escaped-split : (x y : ℕ) (a b : List ℕ) → escaped x ++ a ≡ escaped y ++ b → (x ≡ y) × (a ≡ b)
escaped-split x y a b h = front_split x y a b (escaped_cases x) (escaped_cases y) h

-- each byte has some bytes
pub escaped-begun : (x : ℕ) (a : List ℕ) → escaped x ++ a ≡ [] → ⊥
escaped-begun x a h = begun x a (escaped_cases x) h
  where
    begun : (x : ℕ) (a : List ℕ) → Escaped x → escaped x ++ a ≡ [] → ⊥
    begun x a (none e ex) h = let k : suc (suc (length a)) ≡ 0 = ap length (ap (λ l. l ++ a) (sym ex) ∙ h) in
        absurd (omega arith)
    begun x a (one e ex) h = let k : suc (suc (length a)) ≡ 0 = ap length (ap (λ l. l ++ a) (sym ex) ∙ h) in
        absurd (omega arith)
    begun x a (more e ex) h = let k : suc (length a) ≡ 0 = ap length (ap (λ l. l ++ a) (sym ex) ∙ h) in
        absurd (omega arith)
