-- The items of a sound tree are lawful entries of one level-0 block at its visit.
use Rattle.std.proofs.Common.{◌≡◌, ℕ, zero, suc, ◌<◌, List, [], ◌∷◌, ◌++◌, Option, None, Some, inl}
use Rattle.std.proofs.Common.{refl, sym, ap, subst, ◌∙◌, append-nil}
use Rattle.std.specs.Prelude.{⊤}
use Rattle.std.specs.List.{AllByRecursion}
use Rattle.std.proofs.lemmas.List.Elements.{All-from_recursion}
use Rattle.gds_block.specs.Item.{Item}
use Rattle.gds_header.specs.declared.header.Header.{Header}
use Rattle.gds_header.specs.Fields.{fields_of}
use Rattle.gds_law.specs.Visit.{Visit}
use Rattle.gds_pack.specs.Packable.{AreLeaves, AreIndex, ArePackable}
use Rattle.gds_sound.specs.Sound.{Tree, sound_tree}
use Rattle.gds_sound.proofs.BlockLemmas.{nil_parts}
use Rattle.m_key.specs.Key.{AtMost, Below}
use Rattle.gds_tree.specs.Lawful.{IsOfRole, IsAboveLow, IsBelowHigh, IsLawfulRest, IsLawfulKey, IsLawfulEntry}
use Rattle.gds_tree.specs.Lawful.{MayBeEmpty, IsLawful}
use Rattle.gds_tree.specs.Below.{high_below, visit_below, trees_below, HasEntries}
use Rattle.gds_tree.specs.Keeps.{IsImage}
use Rattle.gds_tree.proofs.TestLemmas.{below_less, less_below, below_most, most_from, most_most}
use Rattle.gds_tree.proofs.FineLemmas.{some_key}
use Rattle.gds_tree.proofs.BelowLemmas.{all_both, all_weaker, both_parts}
use Rattle.gds_tree.proofs.KeepLemmas.{pointers}
use Rattle.gds_tree.proofs.PartLemmas.{lawful_index}
use Rattle.gds_tree.proofs.TreeByLemmas.{by_leaf, by_index}

-- lawful entries of a level-0 block, and their keys
pub record AreItems (h : Header) (v : Visit) (items : List Item) : Type 0 where
  pub leaves : AreLeaves [] items
  pub each : AllByRecursion (IsLawfulEntry h v 0) items
  pub none : items ≡ [] → MayBeEmpty v 0

abbrev Keys : (List ℕ → Type 0) → List Item → Type 0
Keys P items = AllByRecursion (λ (e : Item). P e.key) items

pub keys_lawful : (h : Header) (v : Visit) (previous : List ℕ) (items : List Item) → AreLeaves previous items
    → AllByRecursion (IsLawfulEntry h v 0) items → Keys (IsLawfulKey h v 0) items
keys_lawful h v previous [] leaves each = tt
keys_lawful h v previous (e ∷ items) leaves each =
    (each.0.key (some_key e.key leaves.0.is_key), keys_lawful h v e.key items leaves.1 each.1)

-- ---- two lists with a key between them

leaves_behind : (p k : List ℕ) (xs ys : List Item) → Below p k → AreLeaves p xs → AreLeaves [] ys
    → Keys (λ key. Below key k) xs → Keys (AtMost k) ys → AreLeaves p (xs ++ ys)
leaves_behind p k [] [] low h g below above = tt
leaves_behind p k [] (y ∷ ys) low h g below above =
    (record { is_key = g.0.is_key; above = below_less p y.key (below_most p k y.key low above.0) }, g.1)
leaves_behind p k (x ∷ xs) ys low h g below above =
    (h.0, leaves_behind x.key k xs ys below.0 h.1 g below.1 above)

pub leaves_both : (k : List ℕ) (xs ys : List Item) → AreLeaves [] xs → AreLeaves [] ys
    → Keys (λ key. Below key k) xs → Keys (AtMost k) ys → AreLeaves [] (xs ++ ys)
leaves_both k [] ys h g below above = g
leaves_both k (x ∷ xs) ys h g below above = (h.0, leaves_behind x.key k xs ys below.0 h.1 g below.1 above)

-- ---- bounds

-- A key below one that is within the upper bound is so, and so is one from there on within the lower bound.
pub below_to_high : (high : Option (List ℕ)) (k key : List ℕ) → IsBelowHigh high k → Below key k → IsBelowHigh high key
below_to_high None k key h b = tt
below_to_high (Some high) k key h b = below_most key k high b (most_from k high (inl (below_less k high h)))

pub above_key : (level : ℕ) (low : Option (List ℕ)) (k key : List ℕ) → IsAboveLow (suc level) low k → AtMost k key
    → IsAboveLow 0 low key
above_key level None k key h m = tt
above_key level (Some low) k key h m = most_most low k key (most_from low k (inl (below_less low k h))) m

below_some : (high : Option (List ℕ)) (k key : List ℕ) → (k ≡ [] → ⊥) → IsBelowHigh (high_below high k) key
    → Below key k
below_some high [] key some h = absurd (some refl)
below_some high (b ∷ k) key some h = h

high_not_none : (high : Option (List ℕ)) (k : List ℕ) → (k ≡ [] → ⊥) → high_below high k ≡ None → ⊥
high_not_none high [] some e = some refl
high_not_none high (b ∷ k) some e = absurd (cc)

-- ---- visits

-- the visit with another lower bound
abbrev pub from_low : Visit → Option (List ℕ) → Visit
from_low v low = record { block = v.block; role = v.role; level = v.level; low = low; high = v.high }

-- what is said of entries asks the role and the bounds of a visit alone
entry_moved : (h : Header) (c d : Visit) (e : Item) → c.role ≡ d.role
    → (IsLawfulKey h c 0 e.key → IsAboveLow 0 d.low e.key × IsBelowHigh d.high e.key)
    → IsLawfulEntry h c 0 e → IsLawfulEntry h d 0 e
entry_moved h c d e role bounds l = record {
  key = λ some.
      let k = l.key some in
      let b = bounds k in
      record {
        short = k.short;
        right = k.right;
        role = subst (λ role. IsOfRole role e.key) role k.role;
        above = b.0;
        below = b.1;
      };
  rest = subst (λ role. IsLawfulRest h role 0 e.rest) role l.rest;
}

each_moved : (h : Header) (c d : Visit) (items : List Item) → c.role ≡ d.role
    → ((key : List ℕ) → IsLawfulKey h c 0 key → IsAboveLow 0 d.low key × IsBelowHigh d.high key)
    → AllByRecursion (IsLawfulEntry h c 0) items → AllByRecursion (IsLawfulEntry h d 0) items
each_moved h c d items role bounds l =
    all_weaker (IsLawfulEntry h c 0) (IsLawfulEntry h d 0) items
    (λ e k. entry_moved h c d e role (bounds e.key) k) l

-- ---- trees

-- Where the first entry of an index block has a key, the bound below it is lower.
abbrev pub LowBelow : Option (List ℕ) → List Item → Type 0
LowBelow low [] = ⊤
LowBelow low (e ∷ []) = ⊤
LowBelow low (e ∷ f ∷ es) = IsAboveLow 1 low e.key

module _ (image : List ℕ) (i : IsImage image) where
  abbrev ItemsAt : ℕ → Type 0
  ItemsAt level = (v : Visit) (t : Tree) → v.block < (fields_of image).total → sound_tree image level v ≡ Some t
      → AreItems (fields_of image) v t.items

  -- below the star alone
  star_items : (v : Visit) (level : ℕ) (low : Option (List ℕ)) (e : Item) (items : List Item) → e.key ≡ []
      → AreItems (fields_of image) (visit_below v level low e) items
      → AreItems (fields_of image) (from_low v low) items
  star_items v level low e items none a =
      let high : high_below v.high e.key ≡ v.high = ap (high_below v.high) none in
      record {
        leaves = a.leaves;
        each = each_moved (fields_of image) (visit_below v level low e) (from_low v low) items refl
            (λ key k. (k.above, subst (λ bound. IsBelowHigh bound key) high k.below)) a.each;
        none = λ empty.
            let m = a.none empty in
            record { leaf = refl; role = m.role; low = m.low; high = sym high ∙ m.high };
      }

  -- below an entry with a key, and behind it
  two_items : (v : Visit) (level : ℕ) (low : Option (List ℕ)) (e : Item) (xs ys : List Item) → (e.key ≡ [] → ⊥)
      → IsAboveLow 1 low e.key → IsBelowHigh v.high e.key
      → AreItems (fields_of image) (visit_below v level low e) xs
      → AreItems (fields_of image) (from_low v (Some e.key)) ys
      → AreItems (fields_of image) (from_low v low) (xs ++ ys)
  two_items v level low e xs ys some above below a b =
      let c : Visit = visit_below v level low e in
      let d : Visit = from_low v (Some e.key) in
      let h : Header = fields_of image in
      let first = all_weaker (λ (x : Item). IsLawfulKey h c 0 x.key) (λ (x : Item). Below x.key e.key) xs
      (λ x k. below_some v.high e.key x.key some k.below) (keys_lawful h c [] xs a.leaves a.each) in
      let second = all_weaker (λ (y : Item). IsLawfulKey h d 0 y.key) (λ (y : Item). AtMost e.key y.key) ys
      (λ y k. k.above) (keys_lawful h d [] ys b.leaves b.each) in
      record {
        leaves = leaves_both e.key xs ys a.leaves b.leaves first second;
        each = all_both (IsLawfulEntry h (from_low v low) 0) xs ys
            (each_moved h c (from_low v low) xs refl
            (λ key k. (k.above, below_to_high v.high e.key key below (below_some v.high e.key key some k.below)))
            a.each)
            (each_moved h d (from_low v low) ys refl (λ key k. (above_key 0 low e.key key above k.above, k.below))
            b.each);
        none = λ empty. absurd (high_not_none v.high e.key some (a.none (nil_parts xs ys empty).0).high);
      }

  pub next_low : (e : Item) (es : List Item) → AreIndex e.key es → LowBelow (Some e.key) es
  next_low e [] h = tt
  next_low e (f ∷ []) h = tt
  next_low e (f ∷ g ∷ es) h = less_below e.key f.key h.0.above

  below_items : (v : Visit) (level : ℕ) (low : Option (List ℕ)) (previous : List ℕ) (es : List Item) (t : Tree)
      → ItemsAt level → AreIndex previous es → AllByRecursion (IsLawfulEntry (fields_of image) v (suc level)) es
      → LowBelow low es → trees_below image v level low es ≡ Some t
      → AreItems (fields_of image) (from_low v low) t.items
  below_items v level low previous [] t each index lawful lower h = absurd index
  below_items v level low previous (e ∷ []) t each index lawful lower h =
      let c : Visit = visit_below v level low e in
      let p = both_parts (sound_tree image level c) (Some (record { blocks = []; items = [] })) t h in
      let pointer = pointers (fields_of image) v v.role level e.rest lawful.0.rest in
      let none : record { blocks = []; items = [] } ≡ p.second = cc (p.later) in
      let whole : p.first.items ≡ t.items =
      sym (append-nil p.first.items) ∙ ap (λ (w : Tree). p.first.items ++ w.items) none
      ∙ ap (λ (w : Tree). w.items) (sym p.is) in
      subst (AreItems (fields_of image) (from_low v low)) whole
      (star_items v level low e p.first.items index.0 (each c p.first pointer.leads.within p.here))
  below_items v level low previous (e ∷ f ∷ es) t each index lawful lower h =
      let c : Visit = visit_below v level low e in
      let p = both_parts (sound_tree image level c) (trees_below image v level (Some e.key) (f ∷ es)) t h in
      let pointer = pointers (fields_of image) v v.role level e.rest lawful.0.rest in
      let some = some_key e.key index.0.is_key in
      subst (λ (w : Tree). AreItems (fields_of image) (from_low v low) w.items) (sym p.is)
      (two_items v level low e p.first.items p.second.items some lower (lawful.0.key some).below
      (each c p.first pointer.leads.within p.here)
      (below_items v level (Some e.key) e.key (f ∷ es) p.second each index.2 lawful.1 (next_low e (f ∷ es) index.2)
      p.later))

  pub first_low : (v : Visit) (level : ℕ) (es : List Item) → AreIndex [] es
      → AllByRecursion (IsLawfulEntry (fields_of image) v (suc level)) es → LowBelow v.low es
  first_low v level [] index lawful = tt
  first_low v level (e ∷ []) index lawful = tt
  first_low v level (e ∷ f ∷ es) index lawful =
      any_level v.low (lawful.0.key (some_key e.key index.0.is_key)).above
    where
      any_level : (low : Option (List ℕ)) → IsAboveLow (suc level) low e.key → IsAboveLow 1 low e.key
      any_level None h = tt
      any_level (Some low) h = h

  pub packable : (v : Visit) (level : ℕ) (es : List Item) → HasEntries image v level es → ArePackable level es
  packable v level es has = subst (λ n. ArePackable n es) has.level has.right.lawful.packable

  pub items_of_tree : (level : ℕ) → ItemsAt level
  items_of_tree zero v t low h =
      let p = by_leaf image v t i low h in
      subst (λ (w : Tree). AreItems (fields_of image) v w.items) (sym p.is) (record {
        leaves = packable v 0 p.es p.has;
        each = lawful_index image v 0 p.es p.has;
        none = λ e. subst (MayBeEmpty v) p.has.level (p.has.right.lawful.none e);
      })
  items_of_tree (suc level) v t low h =
      let p = by_index image v level t i low h in
      let index : AreIndex [] p.es = packable v (suc level) p.es p.has in
      let lawful = lawful_index image v (suc level) p.es p.has in
      subst (λ (w : Tree). AreItems (fields_of image) v w.items) (sym p.is)
      (below_items v level v.low [] p.es p.below (items_of_tree level) index lawful
      (first_low v level p.es index lawful) p.trees)

  pub lawful_items : (v : Visit) (level : ℕ) (t : Tree) → v.block < (fields_of image).total
      → sound_tree image level v ≡ Some t → IsLawful (fields_of image) v 0 t.items
  lawful_items v level t low h =
      let a = items_of_tree level v t low h in
      record {
        packable = a.leaves;
        each = All-from_recursion (IsLawfulEntry (fields_of image) v 0) t.items a.each;
        none = a.none;
      }
