-- Bounds of the packed size where a list changes.
use Rattle.std.proofs.Common.{ℕ, zero, suc, ◌≡◌, ◌+◌, ◌≤◌, List, [], ◌∷◌, ◌++◌, length, take, drop, inl, inr, refl, sym}
use Rattle.std.proofs.Common.{◌∙◌, ap, subst, arith, append_assoc}
use Rattle.std.specs.Prelude.{nat_eq}
use Rattle.std.specs.Ordering.{nat_cmp}
use Rattle.std.specs.Cmp.Lexicographic.{slice_cmp}
use Rattle.std.specs.declared.cmp.Ordering.{Ordering}
use Rattle.std.specs.declared.cmp.Ordering.TheVariants.{Less, Equal, Greater}
use Rattle.std.specs.Ordering.{ordering_then}
use Rattle.std.proofs.lemmas.Bool.{cases_order, eq-eqb, ne_eqb, cond-true, cond-false}
use Rattle.std.proofs.lemmas.Bool.Decides.{nat_tests}
use Rattle.std.proofs.lemmas.List.{take_at, drop_at, take_all, drop_all}
use Rattle.gds_block.specs.Item.{Item}
use Rattle.m_key.specs.KeyEnd.{shared}
use Rattle.gds_pack.specs.Packed.{records_size, packed_size, key_behind, first_key}
use Rattle.gds_pack.specs.Packable.{IsNext, AreLeaves, AreIndex, ArePackable}
use Rattle.gds_pack.specs.Cut.{CanBeCut}
use Rattle.m_key.proofs.KeyEndLemmas.{shared-le, shared-nil}
use Rattle.gds_pack.proofs.SizeLemmas.{records_size-append, records_size-behind}

-- Another key before the records changes what the first of them leaves out.
pub records_size-moved : (p q : List ℕ) (is : List Item)
    → records_size q is + shared q (first_key is) ≡ records_size p is + shared p (first_key is)
records_size-moved p q [] = omega (arith, shared-nil p, shared-nil q)
records_size-moved p q (i ∷ is) =
    let one = shared-le p i.key in
    let two = shared-le q i.key in
    omega arith

pub packed_size-joined : (a b : List Item) → packed_size (a ++ b) + 16 ≤ packed_size a + packed_size b
packed_size-joined a b =
    let behind = records_size-behind (key_behind [] a) b in
    omega (arith, records_size-append [] a b, behind.0)

pub packed_size-added : (a b : List Item) (i : Item)
    → packed_size (a ++ i ∷ b) + shared i.key (first_key b)
    ≤ packed_size (a ++ b) + 4 + length i.key + length i.rest + shared (key_behind [] a) (first_key b)
packed_size-added a b i =
    omega (
      arith,
      records_size-append [] a (i ∷ b),
      records_size-append [] a b,
      records_size-moved (key_behind [] a) i.key b,
    )

-- ---- where keys rise

-- What the first bytes of two rising keys say.
pub record Heads (x y : ℕ) (a b : List ℕ) : Type 0 where
  pub below : x ≤ y
  pub tails : x ≡ y → slice_cmp nat_cmp a b ≡ Less

pub heads_of : (x y : ℕ) (a b : List ℕ) (o : Ordering) → o ≡ nat_cmp x y
    → ordering_then o (slice_cmp nat_cmp a b) ≡ Less → Heads x y a b
heads_of x y a b Less e h = record { below = grind (arith, nat_tests); tails = λ s. absurd (grind (arith, nat_tests)) }
heads_of x y a b Equal e h = record { below = grind (arith, nat_tests); tails = λ s. h }
heads_of x y a b Greater e h = absurd (cc)

-- A key between two others shares with the upper one what the lower one shares with it.
pub shared-between : (a b c : List ℕ) → slice_cmp nat_cmp a b ≡ Less → slice_cmp nat_cmp b c ≡ Less
    → shared a c ≤ shared b c
shared-between [] b c h k = omega arith
shared-between (x ∷ a) b [] h k = omega (arith, shared-nil (x ∷ a))
shared-between (x ∷ a) [] (z ∷ c) h k = absurd (cc)
shared-between (x ∷ a) (y ∷ b) (z ∷ c) h k =
    let one = heads_of x y a b (nat_cmp x y) refl h in
    let two = heads_of y z b c (nat_cmp y z) refl k in
    elim (cases_order x z) [
      | inl e ↦
          let up : x ≡ y = omega (arith, one.below, two.below) in
          let over : y ≡ z = omega (arith, one.below, two.below) in
          let rest = shared-between a b c (one.tails up) (two.tails over) in
          omega (
            arith,
            rest,
            cond-true (nat_eq x z) (1 + shared a c) 0 (eq-eqb x z e),
            cond-true (nat_eq y z) (1 + shared b c) 0 (eq-eqb y z over),
          )
      | inr d ↦
          let ne : x ≡ z → ⊥ = λ e. elim d [ inl l ↦ omega (arith, l, e) | inr l ↦ omega (arith, l, e) ] in
          omega (arith, cond-false (nat_eq x z) (1 + shared a c) 0 (ne_eqb x z ne))
    ]

leaves_at : (p : List ℕ) (a b : List Item) (i : Item) → AreLeaves p (a ++ i ∷ b)
    → IsNext (key_behind p a) i × AreLeaves i.key b
leaves_at p [] b i h = h
leaves_at p (x ∷ a) b i h = leaves_at x.key a b i h.1

leaves_share : (p : List ℕ) (b : List Item) (i : Item) → IsNext p i → AreLeaves i.key b
    → shared p (first_key b) ≤ shared i.key (first_key b)
leaves_share p [] i next more = omega (arith, shared-nil p)
leaves_share p (j ∷ b) i next more = shared-between p i.key j.key next.above more.0.above

index_at : (p : List ℕ) (a b : List Item) (i j : Item) → AreIndex p (a ++ i ∷ j ∷ b)
    → IsNext (key_behind p a) i × AreIndex i.key (j ∷ b)
index_at p [] b i j h = (h.0, h.2)
index_at p (x ∷ []) b i j h = index_at x.key [] b i j h.2
index_at p (x ∷ y ∷ a) b i j h = index_at x.key (y ∷ a) b i j h.2

index_share : (p : List ℕ) (b : List Item) (i j : Item) → IsNext p i → AreIndex i.key (j ∷ b)
    → shared p j.key ≤ shared i.key j.key
index_share p [] i j next (nokey, four) = omega (arith, ap (shared p) nokey, shared-nil p)
index_share p (k ∷ b) i j next more = shared-between p i.key j.key next.above more.0.above

pub share : (level : ℕ) (a b : List Item) (i : Item) → ArePackable level (a ++ i ∷ b)
    → shared (key_behind [] a) (first_key b) ≤ shared i.key (first_key b)
share zero a b i h =
    let both = leaves_at [] a b i h in
    leaves_share (key_behind [] a) b i both.0 both.1
share (suc level) a [] i h = omega (arith, shared-nil (key_behind [] a))
share (suc level) a (j ∷ b) i h =
    let both = index_at [] a b i j h in
    index_share (key_behind [] a) b i j both.0 both.1

pub packed_size-added_rising : (level : ℕ) (a b : List Item) (i : Item) → ArePackable level (a ++ i ∷ b)
    → packed_size (a ++ i ∷ b) ≤ packed_size (a ++ b) + 4 + length i.key + length i.rest
packed_size-added_rising level a b i h = omega (arith, packed_size-added a b i, share level a b i h)

-- ---- runs

pub CanBeCut-three : (limit : ℕ) (a put b : List Item) → packed_size a ≤ limit → packed_size put ≤ limit
    → packed_size b ≤ limit → CanBeCut 3 limit (a ++ put ++ b)
CanBeCut-three limit a put b first second third =
    let back : drop (length a) (a ++ put ++ b) ≡ put ++ b =
    ap (drop (length a)) (append_assoc a put b) ∙ drop_at a (put ++ b) (length a) refl in
    let front : take (length a) (a ++ put ++ b) ≡ a =
    ap (take (length a)) (append_assoc a put b) ∙ take_at a (put ++ b) (length a) refl in
    let last : CanBeCut 1 limit b = (
      length b,
      subst (λ (xs : List Item). packed_size xs ≤ limit) (sym (take_all (length b) b (omega arith))) third,
      drop_all (length b) b (omega arith),
    ) in
    let more : CanBeCut 2 limit (put ++ b) = (
      length put,
      subst (λ (xs : List Item). packed_size xs ≤ limit) (sym (take_at put b (length put) refl)) second,
      subst (CanBeCut 1 limit) (sym (drop_at put b (length put) refl)) last,
    ) in (
      length a,
      subst (λ (xs : List Item). packed_size xs ≤ limit) (sym front) first,
      subst (CanBeCut 2 limit) (sym back) more,
    )
