-- Lawful lists of entries that are cut, joined and changed.
use Rattle.std.proofs.Common.{◌≡◌, ℕ, zero, suc, List, [], ◌∷◌, ◌++◌, Some, inl, refl}
use Rattle.std.proofs.Common.{subst}
use Rattle.std.specs.List.{AllByRecursion}
use Rattle.std.proofs.lemmas.List.Elements.{All-from_recursion, recursion_from_All}
use Rattle.gds_block.specs.Item.{Item}
use Rattle.gds_header.specs.declared.header.Header.{Header}
use Rattle.gds_law.specs.Visit.{Visit}
use Rattle.m_key.specs.Key.{Below}
use Rattle.gds_pack.specs.Packed.{key_behind}
use Rattle.gds_pack.specs.Packable.{AreLeaves}
use Rattle.gds_tree.specs.Lawful.{IsOfRole, IsAboveLow, IsBelowHigh, IsLawfulRest, IsLawfulKey, IsLawfulEntry}
use Rattle.gds_tree.specs.Lawful.{IsLawful}
use Rattle.gds_tree.specs.Below.{below_key, from_key, as_star}
use Rattle.gds_tree.proofs.TestLemmas.{below_less, most_from}
use Rattle.gds_tree.proofs.BelowLemmas.{all_left, all_right, all_both}
use Rattle.gds_tree.proofs.WidenLemmas.{most_same}
use Rattle.gds_tree.proofs.ListLemmas.{Keys, leaves_first, leaves_left, leaves_right, leaves_join, keys_below}
use Rattle.gds_tree.proofs.ListLemmas.{keys_above}
use Rattle.gds_tree.proofs.ListLemmas.{index_first, index_front, index_join, KeyedAbove, keyed_above}

-- ---- one entry at another visit

-- Its role, and where it has a key its bounds, decide.
pub moved : (h : Header) (c d : Visit) (level : ℕ) (e : Item) → c.role ≡ d.role
    → ((e.key ≡ [] → ⊥) → IsLawfulKey h c level e.key → IsAboveLow level d.low e.key × IsBelowHigh d.high e.key)
    → IsLawfulEntry h c level e → IsLawfulEntry h d level e
moved h c d level e role bounds l = record {
  key = λ some.
      let k = l.key some in
      let b = bounds some k in
      record {
        short = k.short;
        right = k.right;
        role = subst (λ role. IsOfRole role e.key) role k.role;
        above = b.0;
        below = b.1;
      };
  rest = subst (λ role. IsLawfulRest h role level e.rest) role l.rest;
}

-- entries that have a key below one, at the visit with this key as its upper bound
front_each : (h : Header) (v : Visit) (level : ℕ) (k : List ℕ) (es : List Item) → Keys (λ key. Below key k) es
    → AllByRecursion (IsLawfulEntry h v level) es → AllByRecursion (IsLawfulEntry h (below_key v k) level) es
front_each h v level k [] low l = tt
front_each h v level k (e ∷ es) low l = (
  moved h v (below_key v k) level e refl (λ some key. (key.above, low.0)) l.0,
  front_each h v level k es low.1 l.1,
)

-- those that have one above it, at the visit with this key as its lower bound
back_above : (level : ℕ) (k key : List ℕ) → Below k key → IsAboveLow level (Some k) key
back_above zero k key h = most_from k key (inl (below_less k key h))
back_above (suc level) k key h = h

back_each : (h : Header) (v : Visit) (level : ℕ) (k : List ℕ) (es : List Item) → KeyedAbove k es
    → AllByRecursion (IsLawfulEntry h v level) es → AllByRecursion (IsLawfulEntry h (from_key v k) level) es
back_each h v level k [] low l = tt
back_each h v level k (e ∷ es) low l = (
  moved h v (from_key v k) level e refl (λ some key. (back_above level k e.key (low.0 some), key.below)) l.0,
  back_each h v level k es low.1 l.1,
)

keyed : (k : List ℕ) (es : List Item) → Keys (Below k) es → KeyedAbove k es
keyed k [] h = tt
keyed k (e ∷ es) h = (λ some. h.0, keyed k es h.1)

pub each : (h : Header) (v : Visit) (level : ℕ) (es : List Item) → IsLawful h v level es
    → AllByRecursion (IsLawfulEntry h v level) es
each h v level es l = recursion_from_All (IsLawfulEntry h v level) es l.each

-- ---- a leaf that is cut

pub leaf_front : (h : Header) (v : Visit) (a : List Item) (f : Item) (b : List Item) → IsLawful h v 0 (a ++ f ∷ b)
    → (a ≡ [] → ⊥) → IsLawful h (below_key v f.key) 0 a
leaf_front h v a f b l some = record {
  packable = leaves_left [] a (f ∷ b) l.packable;
  each = All-from_recursion (IsLawfulEntry h (below_key v f.key) 0) a
      (front_each h v 0 f.key a (keys_below [] a f b l.packable)
      (all_left (IsLawfulEntry h v 0) a (f ∷ b) (each h v 0 (a ++ f ∷ b) l)));
  none = λ e. absurd (some e);
}

pub leaf_back : (h : Header) (v : Visit) (a : List Item) (f : Item) (b : List Item) → IsLawful h v 0 (a ++ f ∷ b)
    → IsLawful h (from_key v f.key) 0 (f ∷ b)
leaf_back h v a f b l =
    let leaves : AreLeaves (key_behind [] a) (f ∷ b) = leaves_right [] a (f ∷ b) l.packable in
    let all = all_right (IsLawfulEntry h v 0) a (f ∷ b) (each h v 0 (a ++ f ∷ b) l) in
    record {
      packable = leaves_first (key_behind [] a) (f ∷ b) leaves;
      each = All-from_recursion (IsLawfulEntry h (from_key v f.key) 0) (f ∷ b) (
        moved h v (from_key v f.key) 0 f refl (λ some key. (most_same f.key, key.below)) all.0,
        back_each h v 0 f.key b (keyed f.key b (keys_above f.key b leaves.1)) all.1,
      );
      none = λ e. absurd (cc);
    }

-- ---- an index block that is cut

pub index_cut_front : (h : Header) (v : Visit) (level : ℕ) (a : List Item) (m f : Item) (b : List Item)
    → IsLawful h v (suc level) (a ++ m ∷ f ∷ b) → IsLawful h (below_key v m.key) (suc level) (a ++ as_star m ∷ [])
index_cut_front h v level a m f b l =
    let front = index_front [] a m (f ∷ b) l.packable in
    let all = each h v (suc level) (a ++ m ∷ f ∷ b) l in
    let low = keys_below [] a m [] (leaves_join [] a (m ∷ []) front.leaves (front.rest.0, tt)) in
    let star = (all_right (IsLawfulEntry h v (suc level)) a (m ∷ f ∷ b) all).0 in
    record {
      packable = index_join [] a (as_star m ∷ []) front.leaves front.fours (refl, front.rest.1);
      each = All-from_recursion (IsLawfulEntry h (below_key v m.key) (suc level)) (a ++ as_star m ∷ [])
          (all_both (IsLawfulEntry h (below_key v m.key) (suc level)) a (as_star m ∷ [])
          (front_each h v (suc level) m.key a low
          (all_left (IsLawfulEntry h v (suc level)) a (m ∷ f ∷ b) all))
          (record { key = λ some. absurd (some refl); rest = star.rest }, tt));
      none = λ e. absurd (not_empty a (as_star m) e);
    }
  where
    not_empty : (xs : List Item) (x : Item) → xs ++ x ∷ [] ≡ [] → ⊥
    not_empty [] x e = cc
    not_empty (y ∷ xs) x e = cc

pub index_cut_back : (h : Header) (v : Visit) (level : ℕ) (a : List Item) (m f : Item) (b : List Item)
    → IsLawful h v (suc level) (a ++ m ∷ f ∷ b) → IsLawful h (from_key v m.key) (suc level) (f ∷ b)
index_cut_back h v level a m f b l =
    let front = index_front [] a m (f ∷ b) l.packable in
    let all = all_right (IsLawfulEntry h v (suc level)) a (m ∷ f ∷ b) (each h v (suc level) (a ++ m ∷ f ∷ b) l) in
    record {
      packable = index_first m.key (f ∷ b) front.rest.2;
      each = All-from_recursion (IsLawfulEntry h (from_key v m.key) (suc level)) (f ∷ b)
          (back_each h v (suc level) m.key (f ∷ b) (keyed_above m.key (f ∷ b) front.rest.2) all.1);
      none = λ e. absurd (cc);
    }
