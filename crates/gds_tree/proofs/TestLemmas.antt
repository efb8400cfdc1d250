-- The tests by which faults are told, and the words by which keys, rests and pointers are lawful: one from the other.
use Rattle.std.proofs.Common.{◌≡◌, ℕ, zero, suc, ◌%◌, ◌≤◌, ◌==◌, true, false, not, ◌&&◌, ◌||◌, List}
use Rattle.std.proofs.Common.{length, Option, None, Some, Ordering, Less, Equal, Greater, is_lt, inl, inr}
use Rattle.std.proofs.Common.{◌⊎◌, refl, sym, ap, subst, ◌∙◌, arith}
use Rattle.std.specs.Prelude.{nat_lt, nat_le, is_none, bytes_eq}
use Rattle.std.specs.Ordering.{is_le, ordering_reverse}
use Rattle.std.proofs.lemmas.Bool.{not-false, eqb-false, ne_eqb, lt-ltb, ltb-true, ltb-false}
use Rattle.std.proofs.lemmas.Bool.{lt-leb, and_left, and_right, and_parts, and_from, or_parts}
use Rattle.std.proofs.lemmas.Bool.{or_from, not_from_false, true≢false, not-true}
use Rattle.std.proofs.lemmas.Bool.{false_from_ne_true}
use Rattle.std.proofs.lemmas.Cmp.{tied_itself}
use Rattle.std.proofs.lemmas.List.{nil_from_length}
use Rattle.std.proofs.lemmas.Slice.Eq.{bytes_eq-Decides}
use Rattle.m_key.specs.Key.{AtMost, Below}
use Rattle.m_key.specs.KeyParts.{name_part, subscript_parts}
use Rattle.gds_law.specs.Key.{key_fault}
use Rattle.gds_law.specs.Visit.{TreeRole, directory, global}
use Rattle.gds_law.specs.BlockReading.{BlockReading}
use Rattle.gds_law.specs.Record.{is_below, is_directory, is_other_global, is_above_bound, is_below_bound, is_sound}
use Rattle.gds_sound.proofs.OrderLemmas.{cmp, cmp_total, cmp_exact}
use Rattle.gds_tree.specs.Lawful.{IsTreeNumber, IsOfRole, IsAboveLow, IsBelowHigh}

-- ---- orders of keys

at_most_from : (o p : Ordering) → o ≡ ordering_reverse p → is_lt p ≡ false → is_le o ≡ true
at_most_from o Less e h = absurd (true≢false h)
at_most_from o Equal e h = ap is_le e
at_most_from o Greater e h = ap is_le e

not_less_from : (o p : Ordering) → o ≡ ordering_reverse p → is_le p ≡ true → is_lt o ≡ false
not_less_from o Less e h = ap is_lt e
not_less_from o Equal e h = ap is_lt e
not_less_from o Greater e h = absurd (true≢false (sym h))

-- A key isn't below another exactly where that is at most the key.
pub at_most : (low key : List ℕ) → is_below key low ≡ false → AtMost low key
at_most low key h = at_most_from (cmp low key) (cmp key low) (cmp_total.antisymm low key) h

pub not_below : (low key : List ℕ) → AtMost low key → is_below key low ≡ false
not_below low key h = not_less_from (cmp key low) (cmp low key) (cmp_total.antisymm key low) h

pub less_from : (o : Ordering) → is_lt o ≡ true → o ≡ Less
less_from Less h = refl
less_from Equal h = absurd (true≢false (sym h))
less_from Greater h = absurd (true≢false (sym h))

pub below_less : (a b : List ℕ) → Below a b → cmp a b ≡ Less
below_less a b h = less_from (cmp a b) h

pub less_below : (a b : List ℕ) → cmp a b ≡ Less → Below a b
less_below a b h = ap is_lt h

less_or_same : (o : Ordering) → is_le o ≡ true → (o ≡ Less) ⊎ (o ≡ Equal)
less_or_same Less h = inl refl
less_or_same Equal h = inr refl
less_or_same Greater h = absurd (true≢false (sym h))

pub most_cases : (a b : List ℕ) → AtMost a b → (cmp a b ≡ Less) ⊎ (a ≡ b)
most_cases a b h =
    elim (less_or_same (cmp a b) h) [ inl e ↦ inl e | inr e ↦ inr (cmp_exact a b e) ]

pub most_from : (a b : List ℕ) → (cmp a b ≡ Less) ⊎ (a ≡ b) → AtMost a b
most_from a b (inl e) = ap is_le e
most_from a b (inr e) = subst (AtMost a) e (ap is_le (tied_itself cmp_total a))

pub most_most : (a b c : List ℕ) → AtMost a b → AtMost b c → AtMost a c
most_most a b c h k = by (most_cases a b h) (most_cases b c k)
  where
    by : (cmp a b ≡ Less) ⊎ (a ≡ b) → (cmp b c ≡ Less) ⊎ (b ≡ c) → AtMost a c
    by (inl e) (inl f) = ap is_le (cmp_total.trans a b c e f)
    by (inl e) (inr f) = subst (AtMost a) f (ap is_le e)
    by (inr e) q = subst (λ x. AtMost x c) (sym e) k

pub most_below : (a b c : List ℕ) → AtMost a b → Below b c → Below a c
most_below a b c h k =
    elim (most_cases a b h) [
      | inl e ↦ ap is_lt (cmp_total.trans a b c e (below_less b c k))
      | inr e ↦ subst (λ x. Below x c) (sym e) k
    ]

pub below_most : (a b c : List ℕ) → Below a b → AtMost b c → Below a c
below_most a b c h k =
    elim (most_cases b c k) [
      | inl e ↦ ap is_lt (cmp_total.trans a b c (below_less a b h) e)
      | inr e ↦ subst (Below a) e h
    ]

-- ---- roles

pub role_from : (role : TreeRole) (key : List ℕ) → key_fault key ≡ None → is_other_global role (name_part key) ≡ false
    → (is_directory role && is_none (key_fault key) && nat_lt 0 (length (subscript_parts key))) ≡ false
    → IsOfRole role key
role_from (global name) key right own plain = sym ((bytes_eq-Decides name (name_part key)).0 (not-false _ own))
role_from directory key right own plain =
    let none : nat_lt 0 (length (subscript_parts key)) ≡ false =
    ap (λ o. is_none o && nat_lt 0 (length (subscript_parts key))) (sym right) ∙ plain in
    let empty = ltb-false 0 (length (subscript_parts key)) none in
    nil_from_length (subscript_parts key) (omega arith)

pub role_global : (role : TreeRole) (key : List ℕ) → IsOfRole role key → is_other_global role (name_part key) ≡ false
role_global directory key h = refl
role_global (global name) key h = ap not ((bytes_eq-Decides name (name_part key)).1 (sym h))

pub role_directory : (role : TreeRole) (key : List ℕ) → IsOfRole role key
    → (is_directory role && is_none (key_fault key) && nat_lt 0 (length (subscript_parts key))) ≡ false
role_directory (global name) key h = refl
role_directory directory key h =
    and_right (is_none (key_fault key)) (nat_lt 0 (length (subscript_parts key)))
    (ap (λ (parts : List (List ℕ)). nat_lt 0 (length parts)) h)

-- ---- bounds

pub below_from : (high : Option (List ℕ)) (key : List ℕ) → is_above_bound high key ≡ false → IsBelowHigh high key
below_from None key h = tt
below_from (Some high) key h = not-false (is_below key high) h

pub below_to : (high : Option (List ℕ)) (key : List ℕ) → IsBelowHigh high key → is_above_bound high key ≡ false
below_to None key h = refl
below_to (Some high) key h = ap not h

-- not below and not equal
above_both : (low key : List ℕ) → is_below key low ≡ false → bytes_eq key low ≡ false → Below low key
above_both low key h k =
    elim (most_cases low key (at_most low key h)) [
      | inl e ↦ less_below low key e
      | inr e ↦ absurd (true≢false (sym ((bytes_eq-Decides key low).1 (sym e)) ∙ k))
    ]

pub above_from : (level : ℕ) (low : Option (List ℕ)) (key : List ℕ) → is_below_bound level low key ≡ false
    → IsAboveLow level low key
above_from level None key h = tt
above_from zero (Some low) key h = at_most low key (or_parts (is_below key low) (nat_lt 0 0 && bytes_eq key low) h).0
above_from (suc level) (Some low) key h =
    let p = or_parts (is_below key low) (nat_lt 0 (suc level) && bytes_eq key low) h in
    let over : nat_lt 0 (suc level) ≡ true = lt-ltb 0 (suc level) (omega arith) in
    above_both low key p.0 (ap (λ t. t && bytes_eq key low) (sym over) ∙ p.1)

pub above_to : (level : ℕ) (low : Option (List ℕ)) (key : List ℕ) → IsAboveLow level low key
    → is_below_bound level low key ≡ false
above_to level None key h = refl
above_to zero (Some low) key h =
    or_from (is_below key low) (nat_lt 0 0 && bytes_eq key low) (not_below low key h) refl
above_to (suc level) (Some low) key h =
    or_from (is_below key low) (nat_lt 0 (suc level) && bytes_eq key low)
    (not_below low key (ap is_le (below_less low key h)))
    (and_right (nat_lt 0 (suc level)) (bytes_eq key low)
    (false_from_ne_true (bytes_eq key low) (λ e.
    let same : low ≡ low = refl in
    let tied = tied_itself cmp_total low in
    let less : cmp low low ≡ Less =
    subst (λ x. cmp low x ≡ Less) ((bytes_eq-Decides key low).0 e) (below_less low key h) in
    absurd (cc (tied, less)))))

-- ---- pointers

pub number_from : (b : BlockReading) (p : ℕ) → is_sound b p ≡ true → IsTreeNumber b.header.total p
number_from b p h =
    let q = and_parts (nat_lt 0 p && nat_lt p b.header.total) (not (p % 512 == 0)) h in
    let r = and_parts (nat_lt 0 p) (nat_lt p b.header.total) q.0 in
    record {
      positive = ltb-true 0 p r.0;
      within = ltb-true p b.header.total r.1;
      no_map = eqb-false (p % 512) 0 (not-true (p % 512 == 0) q.1);
    }

pub number_sound : (b : BlockReading) (p : ℕ) → IsTreeNumber b.header.total p → is_sound b p ≡ true
number_sound b p n =
    and_from (nat_lt 0 p && nat_lt p b.header.total) (not (p % 512 == 0))
    (and_from (nat_lt 0 p) (nat_lt p b.header.total) (lt-ltb 0 p n.positive) (lt-ltb p b.header.total n.within))
    (not_from_false (p % 512 == 0) (ne_eqb (p % 512) 0 n.no_map))

-- The three kinds that are asked of a pointer.
pub record NoPointerKind (total size p : ℕ) : Type 0 where
  pub positive : ((p == 0) || nat_le size p) ≡ false
  pub small : (nat_le total p && nat_lt p size) ≡ false
  pub no_map : (nat_lt 0 p && nat_lt p total && (p % 512 == 0)) ≡ false

pub number_to : (total size p : ℕ) → total ≤ size → IsTreeNumber total p → NoPointerKind total size p
number_to total size p low n =
    let high = n.within in
    let positive = n.positive in
    record {
      positive = or_from (p == 0) (nat_le size p) (ne_eqb p 0 (λ e. omega arith)) (lt-leb size p (omega arith));
      small = and_left (nat_le total p) (nat_lt p size) (lt-leb total p high);
      no_map = and_right (nat_lt 0 p && nat_lt p total) (p % 512 == 0) (ne_eqb (p % 512) 0 n.no_map);
    }
