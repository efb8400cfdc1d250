-- Items of a leaf that are left by a test: they are packable and lawful still, and need no more bytes.
use Rattle.std.proofs.Common.{◌≡◌, ◌≢◌, ◌≤◌, ℕ, Bool, true, false, not, List, [], ◌∷◌, ◌++◌, length, filter}
use Rattle.std.proofs.Common.{refl, sym, ap, subst, arith, append_assoc, ◌∙◌}
use Rattle.std.specs.List.{AllByRecursion}
use Rattle.std.proofs.lemmas.Bool.{cond-true, cond-false}
use Rattle.std.proofs.lemmas.Cmp.{nat_list_cmp_total}
use Rattle.std.proofs.lemmas.List.Elements.{All-from_recursion, recursion_from_All}
use Rattle.gds_block.specs.Item.{Item}
use Rattle.gds_header.specs.declared.header.Header.{Header}
use Rattle.gds_law.specs.Visit.{Visit}
use Rattle.gds_pack.specs.Entry.{item, items}
use Rattle.gds_pack.specs.declared.entry.Entry.{Entry}
use Rattle.gds_pack.specs.Packable.{AreLeaves}
use Rattle.gds_pack.specs.Packed.{packed_size}
use Rattle.gds_tree.specs.Lawful.{IsLawful, IsLawfulEntry}
use Rattle.gds_splice.proofs.FewerLemmas.{packed_less}
use Rattle.gds_remove.specs.Range.{Range, is_in, left_by}

module _ {X : Type 0} (test : X → Bool) where
  -- by whether the first one is left
  filter_by : (P : List X → Type 0) (x : X) (xs : List X) → (test x ≡ true → P (x ∷ filter test xs))
      → (test x ≡ false → P (filter test xs)) → P (filter test (x ∷ xs))
  filter_by P x xs left out = by (test x) refl
    where
      by : (b : Bool) → test x ≡ b → P (filter test (x ∷ xs))
      by true is = subst P (sym (cond-true (test x) (x ∷ filter test xs) (filter test xs) is)) (left is)
      by false is = subst P (sym (cond-false (test x) (x ∷ filter test xs) (filter test xs) is)) (out is)

  pub filter_all : (P : X → Type 0) (xs : List X) → AllByRecursion P xs → AllByRecursion P (filter test xs)
  filter_all P [] all = tt
  filter_all P (x ∷ xs) all =
      filter_by (AllByRecursion P) x xs (λ is. (all.0, filter_all P xs all.1)) (λ is. filter_all P xs all.1)

  filter_short : (xs : List X) → length (filter test xs) ≤ length xs
  filter_short [] = omega arith
  filter_short (x ∷ xs) =
      filter_by (λ ys. length ys ≤ length (x ∷ xs)) x xs (λ is. omega (arith, filter_short xs))
      (λ is. omega (arith, filter_short xs))

  -- As many are all.
  pub filter_same : (xs : List X) → length xs ≤ length (filter test xs) → filter test xs ≡ xs
  filter_same [] = λ long. refl
  filter_same (x ∷ xs) =
      filter_by (λ ys. length (x ∷ xs) ≤ length ys → ys ≡ x ∷ xs) x xs
      (λ is long. ap (λ ys. x ∷ ys) (filter_same xs (omega (arith, long))))
      (λ is long. absurd (omega (arith, long, filter_short xs)))

module _ (test : Item → Bool) where
  -- without the first one
  lower : (p : List ℕ) (e : Item) (es : List Item) → AreLeaves p (e ∷ es) → AreLeaves p es
  lower p e [] are = tt
  lower p e (f ∷ es) are = (
    record {
      is_key = are.1.0.is_key;
      above = nat_list_cmp_total.trans p e.key f.key are.0.above are.1.0.above;
    },
    are.1.1,
  )

  pub filter_leaves : (p : List ℕ) (es : List Item) → AreLeaves p es → AreLeaves p (filter test es)
  filter_leaves p [] are = tt
  filter_leaves p (e ∷ es) are =
      filter_by test (AreLeaves p) e es (λ is. (are.0, filter_leaves e.key es are.1))
      (λ is. filter_leaves p es (lower p e es are))

  filter_packed : (a es : List Item) → packed_size (a ++ filter test es) ≤ packed_size (a ++ es)
  filter_packed a [] = omega arith
  filter_packed a (e ∷ es) =
      filter_by test (λ xs. packed_size (a ++ xs) ≤ packed_size (a ++ e ∷ es)) e es
      (λ is. omega (
        arith,
        filter_packed (a ++ e ∷ []) es,
        ap packed_size (append_assoc a (e ∷ []) (filter test es)),
        ap packed_size (append_assoc a (e ∷ []) es),
      )) (λ is. omega (arith, filter_packed a es, packed_less a e es))

  pub left_packed : (es : List Item) → packed_size (filter test es) ≤ packed_size es
  left_packed es = filter_packed [] es

  pub left_lawful : (h : Header) (v : Visit) (es : List Item) → filter test es ≢ [] → IsLawful h v 0 es
      → IsLawful h v 0 (filter test es)
  left_lawful h v es some l = record {
    packable = filter_leaves [] es l.packable;
    each = All-from_recursion (IsLawfulEntry h v 0) (filter test es)
        (filter_all test (IsLawfulEntry h v 0) es (recursion_from_All (IsLawfulEntry h v 0) es l.each));
    none = λ none. absurd (some none);
  }

-- ---- entries in memory

abbrev is_out : Range → Entry → Bool
is_out range e = not (is_in range e.key.items)

pub items_left : (range : Range) (es : List Entry)
    → items (filter (λ e. not (is_in range e.key.items)) es) ≡ left_by range (items es)
items_left range [] = refl
items_left range (e ∷ es) =
    filter_by (is_out range) (λ ys. items ys ≡ left_by range (item e ∷ items es)) e es
    (λ is. ap (λ xs. item e ∷ xs) (items_left range es)
    ∙ sym (cond-true (is_out range e) (item e ∷ left_by range (items es)) (left_by range (items es)) is))
    (λ is. items_left range es
    ∙ sym (cond-false (is_out range e) (item e ∷ left_by range (items es)) (left_by range (items es)) is))
