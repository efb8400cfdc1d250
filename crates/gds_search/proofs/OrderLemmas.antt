-- What a key shares with one of two keys that rise, and its order with the other.
use Rattle.std.proofs.Common.{ℕ, zero, suc, ◌≡◌, ◌+◌, ◌<◌, List, [], ◌∷◌, length, get_or, take, inl, inr, refl, sym}
use Rattle.std.proofs.Common.{◌∙◌, ap, arith}
use Rattle.std.specs.Prelude.{nat_eq}
use Rattle.std.specs.Ordering.{nat_cmp, ordering_then}
use Rattle.std.specs.Cmp.Lexicographic.{slice_cmp}
use Rattle.std.specs.declared.cmp.Ordering.TheVariants.{Less}
use Rattle.std.proofs.lemmas.Bool.{cases_order, eq-eqb, ne_eqb, cond-true, cond-false}
use Rattle.m_number.proofs.OrderingLemmas.{nat_cmp_less, nat_cmp_equal}
use Rattle.m_key.specs.KeyEnd.{shared}
use Rattle.gds_pack.proofs.BoundLemmas.{Heads, heads_of}

-- the first key is below the second
abbrev Rises : List ℕ → List ℕ → Type 0
Rises a b = slice_cmp nat_cmp a b ≡ Less

module _ (x y : ℕ) (a b : List ℕ) where
  rises-heads : x < y → Rises (x ∷ a) (y ∷ b)
  rises-heads l = ap (λ o. ordering_then o (slice_cmp nat_cmp a b)) (nat_cmp_less x y l)

  rises-tails : x ≡ y → Rises a b → Rises (x ∷ a) (y ∷ b)
  rises-tails e h = ap (λ o. ordering_then o (slice_cmp nat_cmp a b)) (nat_cmp_equal x y e) ∙ h

  pub shared-heads : (x ≡ y → ⊥) → shared (x ∷ a) (y ∷ b) ≡ 0
  shared-heads ne = cond-false (nat_eq x y) (1 + shared a b) 0 (ne_eqb x y ne)

  pub shared-tails : x ≡ y → shared (x ∷ a) (y ∷ b) ≡ 1 + shared a b
  shared-tails e = cond-true (nat_eq x y) (1 + shared a b) 0 (eq-eqb x y e)

  heads : Rises (x ∷ a) (y ∷ b) → Heads x y a b
  heads h = heads_of x y a b (nat_cmp x y) refl h

-- how the first key stands to the second, and how many leading bytes they share
pub record Stands (a b : List ℕ) (n : ℕ) : Type 0 where
  pub below : slice_cmp nat_cmp a b ≡ Less
  pub shares : shared a b ≡ n
  pub shared_by : shared b a ≡ n

stands-heads : (x y : ℕ) (a b : List ℕ) → x < y → Stands (x ∷ a) (y ∷ b) 0
stands-heads x y a b l = record {
  below = rises-heads x y a b l;
  shares = shared-heads x y a b (λ e. omega (arith, l, e));
  shared_by = shared-heads y x b a (λ e. omega (arith, l, e));
}

stands-tails : (x y : ℕ) (a b : List ℕ) (m n : ℕ) → x ≡ y → Stands a b m → n ≡ 1 + m → Stands (x ∷ a) (y ∷ b) n
stands-tails x y a b m n e h is = record {
  below = rises-tails x y a b e h.below;
  shares = omega (arith, shared-tails x y a b e, h.shares, is);
  shared_by = omega (arith, shared-tails y x b a (sym e), h.shared_by, is);
}

-- A key that shares less with the first of two rising keys than they share with one another, and that is above the
-- first, is above the second.
pub stands-above : (p n k : List ℕ) → slice_cmp nat_cmp p n ≡ Less → slice_cmp nat_cmp p k ≡ Less
    → shared p k < shared p n → Stands n k (shared p k)
stands-above [] n k h l less = absurd (omega arith)
stands-above (x ∷ p) [] k h l less = absurd (cc)
stands-above (x ∷ p) (y ∷ n) [] h l less = absurd (cc)
stands-above (x ∷ p) (y ∷ n) (z ∷ k) h l less =
    let one = heads x y p n h in
    let two = heads x z p k l in
    elim (cases_order x y) [
      | inl e ↦
          elim (cases_order x z) [
            | inl f ↦
                let a = shared-tails x y p n e in
                let b = shared-tails x z p k f in
                stands-tails y z n k (shared p k) _ (sym e ∙ f)
                (stands-above p n k (one.tails e) (two.tails f) (omega (arith, a, b))) b
            | inr d ↦
                let ne : x ≡ z → ⊥ = λ f. elim d [ inl u ↦ omega (arith, u, f) | inr u ↦ omega (arith, u, f) ] in
                rw (shared-heads x z p k ne)
                (stands-heads y z n k (elim d [
                  | inl u ↦ omega (arith, u, e)
                  | inr u ↦ absurd (omega
                      (arith, u, two.below))
                ]))
          ]
      | inr d ↦
          let ne : x ≡ y → ⊥ = λ f. elim d [ inl u ↦ omega (arith, u, f) | inr u ↦ omega (arith, u, f) ] in
          absurd (omega (arith, shared-heads x y p n ne))
    ]

-- A key that shares more with the first of two rising keys than they share with one another is below the second.
pub stands-below : (p n k : List ℕ) → slice_cmp nat_cmp p n ≡ Less → shared p n < shared p k
    → Stands k n (shared p n)
stands-below [] n k h less = absurd (omega arith)
stands-below (x ∷ p) [] k h less = absurd (cc)
stands-below (x ∷ p) (y ∷ n) [] h less = absurd (omega arith)
stands-below (x ∷ p) (y ∷ n) (z ∷ k) h less =
    let one = heads x y p n h in
    elim (cases_order x z) [
      | inl f ↦
          elim (cases_order x y) [
            | inl e ↦
                let a = shared-tails x y p n e in
                let b = shared-tails x z p k f in
                stands-tails z y k n (shared p n) _ (sym f ∙ e)
                (stands-below p n k (one.tails e) (omega (arith, a, b))) a
            | inr d ↦
                let ne : x ≡ y → ⊥ = λ e. elim d [ inl u ↦ omega (arith, u, e) | inr u ↦ omega (arith, u, e) ] in
                rw (shared-heads x y p n ne)
                (stands-heads z y k n (elim d [
                  | inl u ↦ omega (arith, u, f)
                  | inr u ↦ absurd (omega
                      (arith, u, one.below))
                ]))
          ]
      | inr d ↦
          let ne : x ≡ z → ⊥ = λ f. elim d [ inl u ↦ omega (arith, u, f) | inr u ↦ omega (arith, u, f) ] in
          absurd (omega (arith, shared-heads x z p k ne))
    ]

-- Keys with the same first bytes, of which the first then has the smaller byte.
pub stands-parted : (m : ℕ) (a b : List ℕ) → take m a ≡ take m b → m < length a → m < length b
    → get_or a m 0 < get_or b m 0 → Stands a b m
stands-parted m [] b e h k l = absurd (omega arith)
stands-parted m (x ∷ a) [] e h k l = absurd (omega arith)
stands-parted zero (x ∷ a) (y ∷ b) e h k l = stands-heads x y a b l
stands-parted (suc m) (x ∷ a) (y ∷ b) e h k l =
    let same : x ≡ y = cc in
    let more : take m a ≡ take m b = cc in
    stands-tails x y a b m _ same (stands-parted m a b more (omega arith) (omega arith) l) (omega arith)

-- Behind the bytes that they share two keys have other bytes.
pub shared-stops : (a b : List ℕ) (n : ℕ) → shared a b ≡ n → n < length a → n < length b
    → get_or a n 0 ≡ get_or b n 0 → ⊥
shared-stops [] b n s h k e = absurd (omega arith)
shared-stops (x ∷ a) [] n s h k e = absurd (omega arith)
shared-stops (x ∷ a) (y ∷ b) zero s h k e = absurd (omega (arith, s, shared-tails x y a b e))
shared-stops (x ∷ a) (y ∷ b) (suc n) s h k e =
    elim (cases_order x y) [
      | inl same ↦
          shared-stops a b n (omega (arith, s, shared-tails x y a b same)) (omega arith) (omega arith) e
      | inr d ↦
          let ne : x ≡ y → ⊥ = λ f. elim d [ inl u ↦ omega (arith, u, f) | inr u ↦ omega (arith, u, f) ] in
          absurd (omega (arith, s, shared-heads x y a b ne))
    ]

pub shared-itself : (a : List ℕ) → shared a a ≡ length a
shared-itself [] = refl
shared-itself (x ∷ a) = shared-tails x x a a refl ∙ omega (arith, shared-itself a)
