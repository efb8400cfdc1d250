-- Entries whose keys are among those of others need no more bytes than these.
use Rattle.std.proofs.Common.{◌≡◌, ◌+◌, ◌≤◌, ℕ, Bool, true, false, List, [], ◌∷◌, ◌++◌, length, ◌⊎◌, inl, inr}
use Rattle.std.proofs.Common.{refl, sym, ap, ◌∙◌, subst, arith}
use Rattle.std.specs.Prelude.{bytes_eq, nat_eq, ◌||◌}
use Rattle.std.specs.List.{AllByRecursion}
use Rattle.std.specs.Ordering.{nat_cmp}
use Rattle.std.specs.Cmp.Lexicographic.{slice_cmp}
use Rattle.std.specs.declared.cmp.Ordering.TheVariants.{Less}
use Rattle.std.proofs.lemmas.Bool.{cond-true, cond-false, eq-eqb, eqb-true, false≢true, or_cases, or_right}
use Rattle.std.proofs.lemmas.Cmp.{nat_list_cmp_total, tied_itself}
use Rattle.std.proofs.lemmas.Slice.Eq.{bytes_eq-Decides}
use Rattle.gds_block.specs.Item.{Item}
use Rattle.m_key.specs.KeyEnd.{shared}
use Rattle.m_key.proofs.KeyEndLemmas.{shared-le, shared-nil}
use Rattle.gds_pack.specs.Packable.{AreIndex, IsNext}
use Rattle.gds_pack.specs.Packed.{first_key, key_behind, packed_size, records_size}
use Rattle.gds_pack.proofs.BoundLemmas.{records_size-moved}
use Rattle.gds_pack.proofs.SizeLemmas.{records_size-append}
use Rattle.gds_tree.proofs.FineLemmas.{some_key}
use Rattle.gds_splice.specs.NewKeys.{has_key}

-- ---- one entry less

-- What a key shares with two others is at most its bytes and what they share with one another.
shared-both : (a b c : List ℕ) → shared a b + shared b c ≤ length b + shared a c
shared-both [] b c = omega (arith, (shared-le b c).0)
shared-both (x ∷ a) [] c = omega arith
shared-both (x ∷ a) (y ∷ b) [] = omega (arith, (shared-le (x ∷ a) (y ∷ b)).1, shared-nil (y ∷ b))
shared-both (x ∷ a) (y ∷ b) (z ∷ c) = by (nat_eq x y) (nat_eq y z) refl refl (shared-both a b c)
  where
    by : (s t : Bool) → nat_eq x y ≡ s → nat_eq y z ≡ t → shared a b + shared b c ≤ length b + shared a c
        → shared (x ∷ a) (y ∷ b) + shared (y ∷ b) (z ∷ c) ≤ length (y ∷ b) + shared (x ∷ a) (z ∷ c)
    by true true s t rest =
        let same : x ≡ z = eqb-true x y s ∙ eqb-true y z t in
        omega (
          arith,
          rest,
          cond-true (nat_eq x y) (1 + shared a b) 0 s,
          cond-true (nat_eq y z) (1 + shared b c) 0 t,
          cond-true (nat_eq x z) (1 + shared a c) 0 (eq-eqb x z same),
        )
    by true false s t rest =
        omega (arith, cond-false (nat_eq y z) (1 + shared b c) 0 t, (shared-le (x ∷ a) (y ∷ b)).1)
    by false t s _ rest =
        omega (arith, cond-false (nat_eq x y) (1 + shared a b) 0 s, (shared-le (y ∷ b) (z ∷ c)).0)

records_less : (p : List ℕ) (e : Item) (es : List Item) → records_size p es ≤ records_size p (e ∷ es)
records_less p e es =
    omega (
      arith,
      records_size-moved p e.key es,
      shared-both p e.key (first_key es),
      (shared-le p e.key).1,
      (shared-le e.key (first_key es)).0,
    )

pub packed_less : (a : List Item) (e : Item) (b : List Item) → packed_size (a ++ b) ≤ packed_size (a ++ e ∷ b)
packed_less a e b =
    omega (
      arith,
      records_size-append [] a b,
      records_size-append [] a (e ∷ b),
      records_less (key_behind [] a) e b,
    )

-- ---- the order of keys

abbrev IsLess : List ℕ → List ℕ → Type 0
IsLess a b = slice_cmp nat_cmp a b ≡ Less

not_less : (a : List ℕ) → IsLess a a → ⊥
not_less a h = let tied = tied_itself nat_list_cmp_total a in cc

-- An entry of an index block is the star or has a key above the one before the block's entries.
above_all : (p : List ℕ) (es : List Item) → AreIndex p es → (key : List ℕ) → has_key es key ≡ true
    → (key ≡ []) ⊎ IsLess p key
above_all p [] index key there = absurd index
above_all p (e ∷ []) index key there =
    elim (or_cases (bytes_eq key e.key) false there) [
      | inl same ↦ inl ((bytes_eq-Decides key e.key).0 same ∙ index.0)
      | inr none ↦ absurd (false≢true none)
    ]
above_all p (e ∷ f ∷ es) index key there =
    elim (or_cases (bytes_eq key e.key) (has_key (f ∷ es) key) there) [
      | inl same ↦ inr (subst (IsLess p) (sym ((bytes_eq-Decides key e.key).0 same)) index.0.above)
      | inr rest ↦ elim (above_all e.key (f ∷ es) index.2 key rest) [
        | inl star ↦ inl star
        | inr above ↦ inr (nat_list_cmp_total.trans p e.key key index.0.above above)
      ]
    ]

pub has_star : (p : List ℕ) (es : List Item) → AreIndex p es → has_key es [] ≡ true
has_star p [] index = absurd index
has_star p (e ∷ []) index = ap (λ key. bytes_eq [] key || false) index.0
has_star p (e ∷ f ∷ es) index =
    or_right (bytes_eq [] e.key) (has_key (f ∷ es) []) (has_star e.key (f ∷ es) index.2)

-- ---- keys that are among others

-- Each of these entries has a key that one of those has.
abbrev pub AreAmong : List Item → List Item → Type 0
AreAmong others es = AllByRecursion (λ e. has_key others e.key ≡ true) es

pub behind : (p : List ℕ) (e f : Item) (es : List Item) → AreIndex p (e ∷ f ∷ es) → AreIndex p (f ∷ es)
behind p e f [] index = index.2
behind p e f (g ∷ es) index = (
  record {
    is_key = index.2.0.is_key;
    above = nat_list_cmp_total.trans p e.key f.key index.0.above index.2.0.above;
  },
  index.2.1,
  index.2.2,
)

other_key : (o : Item) (others : List Item) (key : List ℕ) → (key ≡ o.key → ⊥) → has_key (o ∷ others) key ≡ true
    → has_key others key ≡ true
other_key o others key other there =
    elim (or_cases (bytes_eq key o.key) (has_key others key) there) [
      | inl same ↦ absurd (other ((bytes_eq-Decides key o.key).0 same))
      | inr rest ↦ rest
    ]

-- Entries behind a key that isn't below the first of those are among the rest of those.
among_rest : (o : Item) (others : List Item) (p : List ℕ) (es : List Item) → (o.key ≡ [] → ⊥)
    → (o.key ≡ p) ⊎ IsLess o.key p → AreIndex p es → AreAmong (o ∷ others) es → AreAmong others es
among_rest o others p [] keyed low index among = tt
among_rest o others p (e ∷ []) keyed low index among =
    (other_key o others e.key (λ same. keyed (sym same ∙ index.0)) among.0, tt)
among_rest o others p (e ∷ f ∷ es) keyed low index among =
    let less : IsLess o.key e.key = elim low [
      | inl same ↦ subst (λ key. IsLess key e.key) (sym same) index.0.above
      | inr less ↦ nat_list_cmp_total.trans o.key p e.key less index.0.above
    ] in (
      other_key o others e.key (λ same. not_less o.key (subst (IsLess o.key) same less)) among.0,
      among_rest o others e.key (f ∷ es) keyed (inr less) index.2 among.1,
    )

-- ---- they need no more bytes

fewer_records : (p : List ℕ) (es others : List Item) → AreIndex p es → AreIndex p others → AreAmong others es
    → records_size p es ≤ records_size p others
fewer_records p [] others index was among = absurd index
fewer_records p (e ∷ es) [] index was among = absurd was
fewer_records p (e ∷ []) (o ∷ []) index was among =
    omega (
      arith,
      ap length index.0,
      ap length was.0,
      index.1,
      was.1,
      (shared-le p e.key).1,
      (shared-le p o.key).1,
    )
fewer_records p (e ∷ f ∷ es) (o ∷ []) index was among =
    elim (or_cases (bytes_eq e.key o.key) false among.0) [
      | inl same ↦ absurd (some_key e.key index.0.is_key ((bytes_eq-Decides e.key o.key).0 same ∙ was.0))
      | inr none ↦ absurd (false≢true none)
    ]
fewer_records p (e ∷ []) (o ∷ j ∷ others) index was among =
    let rest = among_rest o (j ∷ others) o.key (e ∷ []) (some_key o.key was.0.is_key) (inl refl) index among in
    omega (
      arith,
      fewer_records p (e ∷ []) (j ∷ others) index (behind p o j others was) rest,
      records_less p o (j ∷ others),
    )
fewer_records p (e ∷ f ∷ es) (o ∷ j ∷ others) index was among =
    by (bytes_eq e.key o.key) refl (fewer_records e.key (f ∷ es) (j ∷ others) index.2)
    (fewer_records p (e ∷ f ∷ es) (j ∷ others) index (behind p o j others was))
  where
    by : (same : Bool) → bytes_eq e.key o.key ≡ same
        → (AreIndex e.key (j ∷ others) → AreAmong (j ∷ others) (f ∷ es)
        → records_size e.key (f ∷ es) ≤ records_size e.key (j ∷ others))
        → (AreAmong (j ∷ others) (e ∷ f ∷ es) → records_size p (e ∷ f ∷ es) ≤ records_size p (j ∷ others))
        → records_size p (e ∷ f ∷ es) ≤ records_size p (o ∷ j ∷ others)
    by true is behind_same behind_other =
        let same : e.key ≡ o.key = (bytes_eq-Decides e.key o.key).0 is in
        let rest = among_rest o (j ∷ others) e.key (f ∷ es) (some_key o.key was.0.is_key) (inl (sym same)) index.2
        among.1 in
        omega (
          arith,
          behind_same (subst (λ key. AreIndex key (j ∷ others)) (sym same) was.2) rest,
          ap length same,
          ap (shared p) same,
          ap (λ key. records_size key (j ∷ others)) same,
          index.1,
          was.1,
        )
    by false is behind_same behind_other =
        let other : e.key ≡ o.key → ⊥ = λ same.
        false≢true (sym is ∙ (bytes_eq-Decides e.key o.key).1 same) in
        let there = other_key o (j ∷ others) e.key other among.0 in
        let less : IsLess o.key e.key = elim (above_all o.key (j ∷ others) was.2 e.key there) [
          | inl star ↦ absurd (some_key e.key index.0.is_key star)
          | inr less ↦ less
        ] in
        let next : IsNext o.key e = record { is_key = index.0.is_key; above = less } in
        let later : AreIndex o.key (e ∷ f ∷ es) = (next, index.1, index.2) in
        let rest = among_rest o (j ∷ others) o.key (e ∷ f ∷ es) (some_key o.key was.0.is_key) (inl refl) later among in
        omega (arith, behind_other rest, records_less p o (j ∷ others))

pub packed_fewer : (es others : List Item) → AreIndex [] es → AreIndex [] others → AreAmong others es
    → packed_size es ≤ packed_size others
packed_fewer es others index was among = omega (arith, fewer_records [] es others index was among)
