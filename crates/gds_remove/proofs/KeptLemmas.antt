-- Some of the entries of an index block are kept, one after another, and the last of them becomes the star.
use Rattle.std.proofs.Common.{◌≡◌, ◌≤◌, ℕ, suc, List, [], ◌∷◌, ◌++◌, ◌⊎◌, inl, inr}
use Rattle.std.proofs.Common.{refl, sym, ap, ◌∙◌, subst, arith, append_assoc}
use Rattle.std.proofs.lemmas.List.Elements.{All-from_recursion}
use Rattle.gds_block.specs.Item.{Item}
use Rattle.gds_header.specs.declared.header.Header.{Header}
use Rattle.gds_law.specs.Visit.{Visit}
use Rattle.gds_pack.specs.Packable.{AreIndex}
use Rattle.gds_pack.specs.Packed.{packed_size}
use Rattle.gds_pack.proofs.SizeLemmas.{records_size-append}
use Rattle.gds_split.specs.Pieces.{starred}
use Rattle.gds_splice.proofs.FewerLemmas.{behind, packed_less}
use Rattle.gds_tree.specs.Below.{as_star}
use Rattle.gds_tree.specs.Lawful.{IsLawful, IsLawfulEntry}
use Rattle.gds_tree.proofs.BelowLemmas.{all_both, all_left, all_right}
use Rattle.gds_tree.proofs.LawfulLemmas.{each}
use Rattle.gds_ancestors.proofs.StarLemmas.{star_lawful}

-- ---- the last entry

-- Entries are none or have a last one.
pub data IsEnded (es : List Item) : Type 0 where
  nothing : es ≡ [] → IsEnded es
  ends_with : (front : List Item) (last : Item) → es ≡ front ++ last ∷ [] → IsEnded es

pub ended : (es : List Item) → IsEnded es
ended [] = nothing refl
ended (e ∷ es) = elim (ended es) [
  | nothing none ↦ ends_with [] e (ap (λ xs. e ∷ xs) none)
  | ends_with front last is ↦ ends_with (e ∷ front) last (ap (λ xs. e ∷ xs) is)
]

pub starred_behind : (a : List Item) (e : Item) (b : List Item) → starred (a ++ e ∷ b) ≡ a ++ starred (e ∷ b)
starred_behind [] e b = refl
starred_behind (x ∷ []) e b = refl
starred_behind (x ∷ y ∷ a) e b = ap (λ es. x ∷ es) (starred_behind (y ∷ a) e b)

-- Entries of an index block have the star at their end.
pub starred_index : (p : List ℕ) (es : List Item) → AreIndex p es → starred es ≡ es
starred_index p [] index = refl
starred_index p (e ∷ []) index = ap (λ key. record { key = key; rest = e.rest } ∷ []) (sym index.0)
starred_index p (e ∷ f ∷ es) index = ap (λ xs. e ∷ xs) (starred_index e.key (f ∷ es) index.2)

-- ---- one entry goes

less_index : (p : List ℕ) (a : List Item) (e f : Item) (b : List Item) → AreIndex p (a ++ e ∷ f ∷ b)
    → AreIndex p (a ++ f ∷ b)
less_index p [] e f b index = behind p e f b index
less_index p (x ∷ []) e f b index = (index.0, index.1, behind x.key e f b index.2)
less_index p (x ∷ y ∷ a) e f b index = (index.0, index.1, less_index x.key (y ∷ a) e f b index.2)

not_empty : (a : List Item) (f : Item) (b : List Item) → a ++ f ∷ b ≡ [] → ⊥
not_empty [] f b e = cc
not_empty (x ∷ a) f b e = cc

less_lawful : (h : Header) (v : Visit) (level : ℕ) (a : List Item) (e f : Item) (b : List Item)
    → IsLawful h v (suc level) (a ++ e ∷ f ∷ b) → IsLawful h v (suc level) (a ++ f ∷ b)
less_lawful h v level a e f b l =
    let all = each h v (suc level) (a ++ e ∷ f ∷ b) l in
    let rest = all_right (IsLawfulEntry h v (suc level)) a (e ∷ f ∷ b) all in
    record {
      packable = less_index [] a e f b l.packable;
      each = All-from_recursion (IsLawfulEntry h v (suc level)) (a ++ f ∷ b)
          (all_both (IsLawfulEntry h v (suc level)) a (f ∷ b)
          (all_left (IsLawfulEntry h v (suc level)) a (e ∷ f ∷ b) all) rest.1);
      none = λ none. absurd (not_empty a f b none);
    }

-- the star needs no more bytes than the entry that it was
star_less : (a : List Item) (m : Item) (b : List Item) → packed_size (a ++ as_star m ∷ []) ≤ packed_size (a ++ m ∷ b)
star_less a m b =
    omega (arith, records_size-append [] a (as_star m ∷ []), records_size-append [] a (m ∷ b))

-- ---- what is kept of some first entries, with those that follow

-- With the star at their end they are lawful in the block, and need no more bytes than it had; or there are none.
abbrev pub AreKept : Header → Visit → ℕ → ℕ → List Item → Type 0
AreKept h v level most es =
    (es ≡ []) ⊎ (IsLawful h v (suc level) (starred es) × (packed_size (starred es) ≤ most))

-- One goes.
pub one_less : (h : Header) (v : Visit) (level most : ℕ) (a : List Item) (e : Item) (b : List Item)
    → AreKept h v level most (a ++ e ∷ b) → AreKept h v level most (a ++ b)
one_less h v level most a e b (inl none) = absurd (not_empty a e b none)
one_less h v level most a e (f ∷ b) (inr l) = by (starred (f ∷ b)) refl
  where
    whole : starred (a ++ e ∷ f ∷ b) ≡ a ++ e ∷ starred (f ∷ b)
    whole = starred_behind a e (f ∷ b)

    by : (es : List Item) → starred (f ∷ b) ≡ es → AreKept h v level most (a ++ f ∷ b)
    by [] is = absurd (some b is)
      where
        some : (b : List Item) → starred (f ∷ b) ≡ [] → ⊥
        some [] is = cc
        some (g ∷ b) is = cc
    by (g ∷ es) is =
        let was : starred (a ++ e ∷ f ∷ b) ≡ a ++ e ∷ g ∷ es = whole ∙ ap (λ xs. a ++ e ∷ xs) is in
        let now : starred (a ++ f ∷ b) ≡ a ++ g ∷ es = starred_behind a f b ∙ ap (λ xs. a ++ xs) is in
        inr (
          subst (IsLawful h v (suc level)) (sym now)
              (less_lawful h v level a e g es (subst (IsLawful h v (suc level)) was l.0)),
          omega (arith, l.1, ap packed_size was, ap packed_size now, packed_less a e (g ∷ es)),
        )
one_less h v level most a e [] (inr l) = by (ended a)
  where
    by : IsEnded a → AreKept h v level most (a ++ [])
    by (nothing none) = inl (ap (λ xs. xs ++ []) none)
    by (ends_with front last is) =
        let was : starred (a ++ e ∷ []) ≡ front ++ last ∷ as_star e ∷ [] =
        starred_behind a e [] ∙ ap (λ xs. xs ++ as_star e ∷ []) is ∙ append_assoc front (last ∷ []) (as_star e ∷ []) in
        let now : starred (a ++ []) ≡ front ++ as_star last ∷ [] =
        ap (λ xs. starred (xs ++ [])) is ∙ ap starred (append_assoc front (last ∷ []) [])
        ∙ starred_behind front last [] in
        inr (
          subst (IsLawful h v (suc level)) (sym now)
              (star_lawful h v level front last (as_star e ∷ []) (subst (IsLawful h v (suc level)) was l.0)),
          omega (arith, l.1, ap packed_size was, ap packed_size now, star_less front last (as_star e ∷ [])),
        )
