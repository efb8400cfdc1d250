-- How many bytes pieces take, and the entries that lead to them.
use Rattle.std.proofs.Common.{◌≢◌, ℕ, zero, suc, ◌+◌, ◌*◌, ◌≤◌, List, [], ◌∷◌, ◌++◌, length, arith}
use Rattle.std.specs.Prelude.{All}
use Rattle.std.specs.List.{AllByRecursion}
use Rattle.std.proofs.lemmas.List.Elements.{recursion_from_All}
use Rattle.gds_block.specs.Item.{Item}
use Rattle.gds_header.specs.declared.header.Header.{Header}
use Rattle.gds_law.specs.Visit.{Visit}
use Rattle.gds_pack.specs.Packed.{record_size, records_size, packed_size}
use Rattle.m_key.proofs.KeyEndLemmas.{shared-le, shared-nil}
use Rattle.gds_tree.specs.Lawful.{IsLawfulEntry, IsLawful}
use Rattle.gds_tree.proofs.BelowLemmas.{all_left, all_right}
use Rattle.gds_tree.proofs.KeepLemmas.{pointers}
use Rattle.gds_tree.proofs.LawfulLemmas.{each}
use Rattle.gds_split.specs.Pieces.{starred, own_entries}

-- ---- a piece in its own block

starred_size : (previous : List ℕ) (es : List Item) → records_size previous (starred es) ≤ records_size previous es
starred_size previous [] = omega arith
starred_size previous (e ∷ []) = omega (arith, shared-nil previous, shared-le previous e.key)
starred_size previous (e ∷ f ∷ es) = omega (arith, starred_size e.key (f ∷ es))

pub own_size : (level : ℕ) (es : List Item) → packed_size (own_entries level es) ≤ packed_size es
own_size zero es = omega arith
own_size (suc level) es = omega (arith, starred_size [] es)

-- ---- at most three entries of an index block

short : (most : ℕ) (key : List ℕ) → (key ≢ [] → length key ≤ most) → length key ≤ most
short most [] keyed = omega arith
short most (b ∷ key) keyed = keyed (λ none. absurd (cc))

module _ (h : Header) (v : Visit) (level : ℕ) where
  one : (previous : List ℕ) (e : Item) → IsLawfulEntry h v (suc level) e → record_size previous e ≤ 8 + h.key_max
  one previous e l =
      omega (
        arith,
        short h.key_max e.key (λ some. (l.key some).short),
        (pointers h v v.role level e.rest l.rest).size,
      )

  three : (previous : List ℕ) (es : List Item) → AllByRecursion (IsLawfulEntry h v (suc level)) es → length es ≤ 3
      → records_size previous es ≤ 3 * (8 + h.key_max)
  three previous [] l few = omega arith
  three previous (x ∷ []) l few = omega (arith, one previous x l.0)
  three previous (x ∷ y ∷ []) l few = omega (arith, one previous x l.0, one x.key y l.1.0)
  three previous (x ∷ y ∷ z ∷ []) l few =
      omega (arith, one previous x l.0, one x.key y l.1.0, one y.key z l.1.1.0)
  three previous (x ∷ y ∷ z ∷ a ∷ es) l few = absurd (omega (arith, few))

  pub few_entries : (es : List Item) → All (IsLawfulEntry h v (suc level)) es → length es ≤ 3
      → packed_size es ≤ 16 + 3 * (8 + h.key_max)
  few_entries es l few =
      omega (arith, three [] es (recursion_from_All (IsLawfulEntry h v (suc level)) es l) few)

  pub few_between : (a es b : List Item) → IsLawful h v (suc level) (a ++ es ++ b) → length es ≤ 3
      → packed_size es ≤ 16 + 3 * (8 + h.key_max)
  few_between a es b l few =
      omega (
        arith,
        three [] es (all_right (IsLawfulEntry h v (suc level)) a es
            (all_left (IsLawfulEntry h v (suc level)) (a ++ es) b (each h v (suc level) (a ++ es ++ b) l))) few,
      )
