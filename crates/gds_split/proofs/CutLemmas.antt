-- Lawful entries that are cut in two, at any level.
use Rattle.std.proofs.Common.{◌≡◌, ℕ, zero, suc, List, [], ◌∷◌, ◌++◌, Option, None, Some, refl, sym, ap, subst}
use Rattle.std.proofs.Common.{append_assoc}
use Rattle.gds_block.specs.Item.{Item}
use Rattle.gds_header.specs.declared.header.Header.{Header}
use Rattle.gds_law.specs.Visit.{Visit}
use Rattle.gds_pack.specs.Packable.{AreLeaves, AreIndex, ArePackable}
use Rattle.gds_pack.specs.Packed.{key_behind}
use Rattle.gds_pack.proofs.SizeLemmas.{key_behind-append}
use Rattle.m_key.specs.Key.{Below}
use Rattle.m_key.specs.KeyEnd.{IsKey}
use Rattle.gds_tree.specs.Below.{as_star, below_key, from_key}
use Rattle.gds_tree.specs.Lawful.{IsAboveLow, IsLawfulKey, IsLawfulEntry, IsLawful}
use Rattle.gds_tree.proofs.BelowLemmas.{all_right}
use Rattle.gds_tree.proofs.FineLemmas.{some_key}
use Rattle.gds_tree.proofs.LawfulLemmas.{each, leaf_front, leaf_back, index_cut_front, index_cut_back}
use Rattle.gds_tree.proofs.ListLemmas.{leaves_right, keys_below, index_front}
use Rattle.gds_tree.proofs.TestLemmas.{most_below}
use Rattle.gds_split.specs.Pieces.{parting_key, starred, own_entries}

-- ---- the last of some entries

pub record HasLast (es : List Item) : Type 0 where
  pub front : List Item
  pub last : Item
  pub whole : front ++ last ∷ [] ≡ es

pub last_of : (es : List Item) → (es ≡ [] → ⊥) → HasLast es
last_of [] some = absurd (some refl)
last_of (e ∷ []) some = record { front = []; last = e; whole = refl }
last_of (e ∷ f ∷ es) some =
    let l = last_of (f ∷ es) (λ none. absurd (cc)) in
    record { front = e ∷ l.front; last = l.last; whole = ap (λ xs. e ∷ xs) l.whole }

pub starred_last : (a : List Item) (m : Item) → starred (a ++ m ∷ []) ≡ a ++ as_star m ∷ []
starred_last [] m = refl
starred_last (e ∷ []) m = refl
starred_last (e ∷ f ∷ a) m = ap (λ xs. e ∷ xs) (starred_last (f ∷ a) m)

-- Entries that end with the star stay as they are.
starred_index : (previous : List ℕ) (es : List Item) → AreIndex previous es → starred es ≡ es
starred_index previous [] h = refl
starred_index previous (e ∷ []) h = λ i. record { key = sym h.0 i; rest = e.rest } ∷ []
starred_index previous (e ∷ f ∷ es) h = ap (λ xs. e ∷ xs) (starred_index e.key (f ∷ es) h.2)

pub own_whole : (level : ℕ) (es : List Item) → ArePackable level es → own_entries level es ≡ es
own_whole zero es h = refl
own_whole (suc level) es h = starred_index [] es h

-- ---- the key that parts them

-- It is strictly above the lower bound, and what else is wanted of a key above level 0.
pub record IsCut (h : Header) (w : Visit) (level : ℕ) (run behind : List Item) : Type 0 where
  pub front : IsLawful h (below_key w (parting_key level run behind)) level (own_entries level run)
  pub back : IsLawful h (from_key w (parting_key level run behind)) level behind
  pub is_key : IsKey (parting_key level run behind)
  pub lawful : IsLawfulKey h w 1 (parting_key level run behind)

above_more : (low : Option (List ℕ)) (a b : List ℕ) → IsAboveLow 0 low a → Below a b → IsAboveLow 1 low b
above_more None a b h k = tt
above_more (Some low) a b h k = most_below low a b h k

-- A key that another stands before is strictly above the lower bound.
above_first : (h : Header) (w : Visit) (run : List Item) (f : Item) (b : List Item) → IsLawful h w 0 (run ++ f ∷ b)
    → (run ≡ [] → ⊥) → IsAboveLow 1 w.low f.key
above_first h w [] f b l some = absurd (some refl)
above_first h w (e ∷ run) f b l some =
    above_more w.low e.key f.key
    ((each h w 0 (e ∷ (run ++ f ∷ b)) l).0.key (some_key e.key l.packable.0.is_key)).above
    (keys_below [] (e ∷ run) f b l.packable).0

pub any_level : (level : ℕ) (low : Option (List ℕ)) (key : List ℕ) → IsAboveLow (suc level) low key
    → IsAboveLow 1 low key
any_level level None key h = tt
any_level level (Some low) key h = h

cut_leaf : (h : Header) (w : Visit) (run : List Item) (f : Item) (b : List Item) → IsLawful h w 0 (run ++ f ∷ b)
    → (run ≡ [] → ⊥) → IsCut h w 0 run (f ∷ b)
cut_leaf h w run f b l some =
    let leaves : AreLeaves (key_behind [] run) (f ∷ b) = leaves_right [] run (f ∷ b) l.packable in
    let entry = (all_right (IsLawfulEntry h w 0) run (f ∷ b) (each h w 0 (run ++ f ∷ b) l)).0 in
    let key = entry.key (some_key f.key leaves.0.is_key) in
    record {
      front = leaf_front h w run f b l some;
      back = leaf_back h w run f b l;
      is_key = leaves.0.is_key;
      lawful = record {
        short = key.short;
        right = key.right;
        role = key.role;
        above = above_first h w run f b l some;
        below = key.below;
      };
    }

cut_index : (h : Header) (w : Visit) (level : ℕ) (a : List Item) (m f : Item) (b : List Item)
    → IsLawful h w (suc level) (a ++ m ∷ f ∷ b) → IsCut h w (suc level) (a ++ m ∷ []) (f ∷ b)
cut_index h w level a m f b l =
    let index = (index_front [] a m (f ∷ b) l.packable).rest in
    let entry = (all_right (IsLawfulEntry h w (suc level)) a (m ∷ f ∷ b)
    (each h w (suc level) (a ++ m ∷ f ∷ b) l)).0 in
    let key = entry.key (some_key m.key index.0.is_key) in
    let same : m.key ≡ key_behind [] (a ++ m ∷ []) = sym (key_behind-append [] a (m ∷ [])) in
    let lawful : IsLawfulKey h w 1 m.key = record {
      short = key.short;
      right = key.right;
      role = key.role;
      above = any_level level w.low m.key key.above;
      below = key.below;
    } in
    record {
      front = subst (λ k. IsLawful h (below_key w k) (suc level) (starred (a ++ m ∷ []))) same
          (subst (IsLawful h (below_key w m.key) (suc level)) (sym (starred_last a m))
          (index_cut_front h w level a m f b l));
      back = subst (λ k. IsLawful h (from_key w k) (suc level) (f ∷ b)) same (index_cut_back h w level a m f b l);
      is_key = subst IsKey same index.0.is_key;
      lawful = subst (IsLawfulKey h w 1) same lawful;
    }

pub cut : (h : Header) (w : Visit) (level : ℕ) (run behind : List Item) → IsLawful h w level (run ++ behind)
    → (run ≡ [] → ⊥) → (behind ≡ [] → ⊥) → IsCut h w level run behind
cut h w level run [] l some more = absurd (more refl)
cut h w zero run (f ∷ b) l some more = cut_leaf h w run f b l some
cut h w (suc level) run (f ∷ b) l some more =
    let x = last_of run some in
    subst (λ r. IsCut h w (suc level) r (f ∷ b)) x.whole
    (cut_index h w level x.front x.last f b
    (subst (IsLawful h w (suc level)) (append_assoc x.front (x.last ∷ []) (f ∷ b))
    (subst (λ r. IsLawful h w (suc level) (r ++ f ∷ b)) (sym x.whole) l)))
