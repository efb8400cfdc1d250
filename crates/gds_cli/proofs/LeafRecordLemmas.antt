-- One record of a leaf: where its key ends, and whether the key may follow the one before.
use Rattle.std.proofs.Common.{ℕ, ◌≡◌, ◌↔◌, ap₂, drop-cons, ◌+◌, ◌≤◌, ◌<◌, Bool, true, false, List, [], ◌∷◌, ◌++◌}
use Rattle.std.proofs.Common.{length, get_or, take, drop, Option, None, Some, refl, sym, ◌∙◌, ap, arith}
use Rattle.std.proofs.Common.{append-nil, length-take, true≢false, is_lt, nat_cmp, Ordering}
use Rattle.std.specs.Prelude.{nat_eq, nat_lt, option_map}
use Rattle.std.specs.Ordering.{ordering_then}
use Rattle.std.specs.Cmp.Lexicographic.{slice_cmp}
use Rattle.std.proofs.Math.Seq.{take-append-add}
use Rattle.std.proofs.lemmas.Bool.{iff_false}
use Rattle.std.proofs.lemmas.Bool.Decides.{nat_tests}
use Rattle.std.proofs.lemmas.List.{take_at, take-append-drop, drop_all}
use Rattle.m_key.specs.Node.{Node, IsNode}
use Rattle.m_key.specs.Key.{key_bytes}
use Rattle.m_key.specs.KeyEnd.{key_len, end_within, shared}
use Rattle.m_key.proofs.KeyEndLemmas.{shared-le, take-shared, key_within-end_within, key_len-take_less}
use Rattle.m_key.proofs.KeyEndLemmas.{key_len-take_more}
use Rattle.m_key.proofs.NodeEndLemmas.{key_len-key_bytes}
use Rattle.m_key.proofs.ZeroLemmas.{cmp-prefix}
use Rattle.gds_block.specs.Record.{Record}
use Rattle.gds_cli.specs.Leaf.{IsSplit}

-- ---- the next key

common-prefix : (s x y : List ℕ) → shared (s ++ x) (s ++ y) ≡ length s + shared x y
common-prefix [] x y = omega arith
common-prefix (a ∷ s) x y = grind (arith, nat_tests, common-prefix s x y)

-- Whether a list is less at its first element, where the other begins with another element or not at all.
abbrev first_less : List ℕ → List ℕ → Bool
first_less x [] = false
first_less [] (y ∷ ys) = true
first_less (x ∷ xs) (y ∷ ys) = nat_lt x y

record Next (x y : List ℕ) : Type 0 where
  none : shared x y ≡ 0
  less : is_lt (slice_cmp nat_cmp x y) ≡ true

heads : (x y n : ℕ) (o : Ordering) → nat_lt x y ≡ true
    → (nat_eq x y ≡ false) × (is_lt (ordering_then (nat_cmp x y) o) ≡ true)
heads x y n o h = (grind (arith, nat_tests), grind (arith, nat_tests))

first_next : (x y : List ℕ) → first_less x y ≡ true → Next x y
first_next x [] h = absurd (true≢false (sym h))
first_next [] (y ∷ ys) h = record { none = refl; less = refl }
first_next (x ∷ xs) (y ∷ ys) h = record { none = grind (arith, nat_tests); less = grind (arith, nat_tests) }

next_first : (x y : List ℕ) → Next x y → first_less x y ≡ true
next_first [] [] h = absurd (true≢false (sym h.less))
next_first (x ∷ xs) [] h = absurd (true≢false (sym h.less))
next_first [] (y ∷ ys) h = refl
next_first (x ∷ xs) (y ∷ ys) h = grind (arith, nat_tests, h.none, h.less)

-- Two lists that share their first elements, which are no more than either has.
module _ (p k : List ℕ) (count : ℕ) (front : take count p ≡ take count k) (within_p : count ≤ length p)
    (within_k : count ≤ length k) where
  apart : (take count p ++ drop count p ≡ p) × (take count p ++ drop count k ≡ k)
  apart = (take-append-drop count p, ap (λ l. l ++ drop count k) front ∙ take-append-drop count k)

  shared_len : shared p k ≡ count + shared (drop count p) (drop count k)
  shared_len =
      (λ i. shared (sym apart.0 i) (sym apart.1 i))
      ∙ common-prefix (take count p) (drop count p) (drop count k)
      ∙ ap (λ n. n + shared (drop count p) (drop count k)) (omega (arith, length-take count p))

  order_of : slice_cmp nat_cmp p k ≡ slice_cmp nat_cmp (drop count p) (drop count k)
  order_of =
      (λ i. slice_cmp nat_cmp (sym apart.0 i) (sym apart.1 i)) ∙ cmp-prefix (take count p) (drop count p) (drop count k)

  forth : first_less (drop count p) (drop count k) ≡ true
      → (count ≡ shared p k) × (is_lt (slice_cmp nat_cmp p k) ≡ true)
  forth h =
      let n =
      first_next (drop count p) (drop count k) h in (omega (arith, shared_len, n.none), ap is_lt order_of ∙ n.less)

  back : (count ≡ shared p k) × (is_lt (slice_cmp nat_cmp p k) ≡ true) → first_less (drop count p) (drop count k) ≡ true
  back (e, h) =
      next_first (drop count p) (drop count k)
      (record { none = omega (arith, shared_len, e); less = ap is_lt (sym order_of) ∙ h })

  -- the test of the first elements behind the shared ones
  tested : (b : Bool) → first_less (drop count p) (drop count k) ≡ b
      → (b ≡ true) ↔ ((count ≡ shared p k) × (is_lt (slice_cmp nat_cmp p k) ≡ true))
  tested b e = (λ h. forth (e ∙ h), λ h. sym e ∙ back h)

  pub next_at_end : (b : Bool) → b ≡ true → count ≡ length p → count < length k
      → (b ≡ true) ↔ ((count ≡ shared p k) × (is_lt (slice_cmp nat_cmp p k) ≡ true))
  next_at_end b t e h = tested b (ap₂ first_less (drop_all count p (omega arith)) (drop-cons k count 0 h) ∙ sym t)

  pub next_past : (b : Bool) → b ≡ false → length k ≤ count
      → (b ≡ true) ↔ ((count ≡ shared p k) × (is_lt (slice_cmp nat_cmp p k) ≡ true))
  next_past b f h = tested b (ap (first_less (drop count p)) (drop_all count k h) ∙ never (drop count p) ∙ sym f)
    where
      never : (x : List ℕ) → first_less x [] ≡ false
      never [] = refl
      never (x ∷ xs) = refl

  pub next_apart : count < length p → count < length k
      → (nat_lt (get_or p count 0) (get_or k count 0) ≡ true) ↔
      ((count ≡ shared p k) × (is_lt (slice_cmp nat_cmp p k) ≡ true))
  next_apart h g = tested _ (ap₂ first_less (drop-cons p count 0 h) (drop-cons k count 0 g))

-- a key shares fewer bytes with a greater one than that has
shared-less : (p k : List ℕ) → is_lt (slice_cmp nat_cmp p k) ≡ true → shared p k < length k
shared-less [] [] h = absurd (true≢false (sym h))
shared-less [] (y ∷ ys) h = omega arith
shared-less (x ∷ xs) [] h = absurd (true≢false (sym h))
shared-less (x ∷ xs) (y ∷ ys) h = grind (arith, nat_tests, shared-less xs ys)

-- ---- a record's key and value

-- the key that a record's bytes begin with, whose end stands at this place in the record's body
pub record Known (previous : List ℕ) (r : Record) (key : List ℕ) (end : ℕ) : Type 0 where
  pub long : r.count + end ≡ length key
  pub bytes : key ≡ take r.count previous ++ take end r.body

some_at : (o : Option ℕ) (front whole : ℕ) → option_map (λ n. front + n) o ≡ Some whole
    → (end : ℕ) × (o ≡ Some end) × (front + end ≡ whole)
some_at None front whole e = absurd (cc)
some_at (Some end) front whole e = (end, refl, cc)

module _ (most : ℕ) (previous : List ℕ) (r : Record) (n : Node) (value : List ℕ) (node : IsNode n)
    (s : IsSplit most previous r (key_bytes n) value) where
  long_front : length (take r.count previous) ≡ r.count
  long_front = omega (arith, s.exact, (shared-le previous (key_bytes n)).0, length-take r.count previous)

  shorter : r.count < length (key_bytes n)
  shorter = omega (arith, s.exact, shared-less previous (key_bytes n) s.above)

  same_front : take r.count previous ≡ take r.count (key_bytes n)
  same_front =
      ap (λ m. take m previous) s.exact ∙ take-shared previous (key_bytes n)
      ∙ ap (λ m. take m (key_bytes n)) (sym s.exact)

  key_ends : key_len (key_bytes n) ≡ Some (length (key_bytes n))
  key_ends = ap key_len (sym (append-nil (key_bytes n))) ∙ key_len-key_bytes n [] node

  front-open : key_len (take r.count previous) ≡ None
  front-open =
      ap key_len same_front ∙ key_len-take_less (key_bytes n) r.count (length (key_bytes n)) key_ends shorter

  -- where the key ends in the body
  ends : (end : ℕ) × (end_within most (take r.count previous) r.body ≡ Some end)
      × (length (take r.count previous) + end ≡ length (key_bytes n))
  ends =
      some_at (end_within most (take r.count previous) r.body) (length (take r.count previous))
      (length (key_bytes n))
      (sym (key_within-end_within most (take r.count previous) r.body front-open)
      ∙ key_len-take_more (take r.count previous ++ r.body) most (length (key_bytes n))
      (ap key_len s.bytes ∙ key_len-key_bytes n value node) s.within)

  pub not_endless : None ≡ end_within most (take r.count previous) r.body → ⊥
  not_endless e =
      let both : None ≡ Some ends.0 = e ∙ ends.1 in
      absurd (cc)

  pub known : (end : ℕ) → Some end ≡ end_within most (take r.count previous) r.body
      → Known previous r (key_bytes n) end
  known end e =
      let both : Some end ≡ Some ends.0 = e ∙ ends.1 in
      let same : end ≡ ends.0 = cc in
      let whole : length (take r.count previous) + end ≡ length (key_bytes n) = omega (arith, same, ends.2) in
      record {
        long = omega (arith, whole, long_front);
        bytes =
            sym (take_at (key_bytes n) value (length (key_bytes n)) refl)
            ∙ ap (take (length (key_bytes n))) (sym s.bytes)
            ∙ ap (λ m. take m (take r.count previous ++ r.body)) (sym whole)
            ∙ take-append-add (take r.count previous) r.body end;
      }

pub within_previous : (most : ℕ) (previous key value : List ℕ) (r : Record) → IsSplit most previous r key value
    → r.count ≤ length previous
within_previous most previous key value r s = omega (arith, s.exact, (shared-le previous key).0)

pub not_next : (passed : Bool) (count : ℕ) (previous key other : List ℕ)
    → (passed ≡ true) ↔ ((count ≡ shared previous key) × (is_lt (slice_cmp nat_cmp previous key) ≡ true))
    → passed ≡ false → key ≡ other → count ≡ shared previous other → is_lt (slice_cmp nat_cmp previous other) ≡ true → ⊥
not_next passed count previous key other test failed same exact above =
    iff_false test failed
    (exact ∙ ap (shared previous) (sym same), ap (λ k. is_lt (slice_cmp nat_cmp previous k)) same ∙ above)
