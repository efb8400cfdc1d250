-- The items beside the way of a key: those before it are below the key, and those behind it above.
use Rattle.std.proofs.Common.{◌≡◌, ℕ, suc, List, [], ◌∷◌, ◌++◌, Option, None, Some, inl, refl, sym, subst}
use Rattle.std.specs.Prelude.{⊤}
use Rattle.std.specs.List.{AllByRecursion}
use Rattle.gds_ancestors.specs.Ancestors.{Ancestor, IsAncestor, AreAncestors, items_before, items_behind}
use Rattle.gds_block.specs.Item.{Item}
use Rattle.gds_header.specs.Fields.{fields_of}
use Rattle.gds_law.specs.Visit.{Visit}
use Rattle.gds_pack.specs.Packable.{AreLeaves, AreIndex}
use Rattle.gds_pack.specs.Packed.{key_behind}
use Rattle.gds_sound.specs.Sound.{Tree, sound_tree}
use Rattle.gds_tree.specs.Below.{high_below, visit_below, low_behind, trees_below}
use Rattle.gds_tree.specs.Keeps.{IsImage}
use Rattle.gds_tree.specs.Lawful.{IsAboveLow, IsBelowHigh, IsLawfulKey, IsLawfulEntry}
use Rattle.gds_tree.proofs.BelowLemmas.{all_both, all_left, all_right, all_weaker, both_parts}
use Rattle.gds_tree.proofs.FineLemmas.{some_key}
use Rattle.gds_tree.proofs.ItemLemmas.{above_key, below_to_high, items_of_tree, keys_lawful, packable}
use Rattle.gds_tree.proofs.KeepLemmas.{pointers}
use Rattle.gds_tree.proofs.ListLemmas.{IsFront, index_front}
use Rattle.gds_tree.proofs.PartLemmas.{lawful_index}
use Rattle.gds_tree.proofs.TestLemmas.{below_most, less_below, most_from}
use Rattle.m_key.specs.Key.{AtMost, Below}
use Rattle.gds_find.specs.Trail.{HoldsKey}

abbrev pub AllBelow : List ℕ → List Item → Type 0
AllBelow key items = AllByRecursion (λ (e : Item). Below e.key key) items

abbrev pub AllAbove : List ℕ → List Item → Type 0
AllAbove key items = AllByRecursion (λ (e : Item). Below key e.key) items

-- ---- the bounds above

-- the first of these is above the lower bound
abbrev LowAbove : Option (List ℕ) → List Item → Type 0
LowAbove low [] = ⊤
LowAbove low (e ∷ es) = IsAboveLow 1 low e.key

next_above : (p : List ℕ) (es : List Item) → AreLeaves p es → LowAbove (Some p) es
next_above p [] leaves = tt
next_above p (e ∷ es) leaves = less_below p e.key leaves.0.above

low_up : (key : List ℕ) (low : Option (List ℕ)) (p : List ℕ) (front : List Item) → AreLeaves p front
    → LowAbove low front → IsAboveLow 0 (low_behind low front) key → IsAboveLow 0 low key
low_up key low p [] leaves lower h = h
low_up key low p (e ∷ front) leaves lower h =
    above_key 0 low e.key key lower
    (low_up key (Some e.key) e.key front leaves.1 (next_above e.key front leaves.1) h)

-- No key of these is above one that is within the bound behind them.
none_above : (key : List ℕ) (low : Option (List ℕ)) (p : List ℕ) (front : List Item) → AreLeaves p front
    → IsAboveLow 0 (low_behind low front) key → AllByRecursion (λ (e : Item). AtMost e.key key) front
none_above key low p [] leaves h = tt
none_above key low p (e ∷ front) leaves h = (
  low_up key (Some e.key) e.key front leaves.1 (next_above e.key front leaves.1) h,
  none_above key (Some e.key) e.key front leaves.1 h,
)

high_up : (key : List ℕ) (high : Option (List ℕ)) (own : List ℕ) → ((own ≡ [] → ⊥) → IsBelowHigh high own)
    → IsBelowHigh (high_below high own) key → IsBelowHigh high key
high_up key high [] within h = h
high_up key high (b ∷ own) within h = below_to_high high (b ∷ own) key (within (λ e. cc)) h

first_above : (level : ℕ) (low : Option (List ℕ)) (key : List ℕ) → IsAboveLow (suc level) low key → IsAboveLow 1 low key
first_above level None key h = tt
first_above level (Some low) key h = h

-- ---- the items beside

below_some : (high : Option (List ℕ)) (k key : List ℕ) → (k ≡ [] → ⊥) → IsBelowHigh (high_below high k) key
    → Below key k
below_some high [] key some h = absurd (some refl)
below_some high (b ∷ k) key some h = h

module _ (image : List ℕ) (i : IsImage image) (key : List ℕ) where
  nothing_above : (t : Tree) → Some (record { blocks = []; items = [] }) ≡ Some t → AllAbove key t.items
  nothing_above t h =
      let none : record { blocks = []; items = [] } ≡ t = cc in
      subst (λ (w : Tree). AllAbove key w.items) none tt

  -- below entries whose keys aren't above the key
  items_below : (v : Visit) (level : ℕ) (low : Option (List ℕ)) (p : List ℕ) (front : List Item) (t : Tree)
      → AreLeaves p front → AllByRecursion (IsLawfulEntry (fields_of image) v (suc level)) front
      → AllByRecursion (λ (e : Item). AtMost e.key key) front → trees_below image v level low front ≡ Some t
      → AllBelow key t.items
  items_below v level low p [] t leaves lawful most h =
      let none : record { blocks = []; items = [] } ≡ t = cc in
      subst (λ (w : Tree). AllBelow key w.items) none tt
  items_below v level low p (e ∷ front) t leaves lawful most h =
      let c : Visit = visit_below v level low e in
      let q = both_parts (sound_tree image level c) (trees_below image v level (Some e.key) front) t h in
      let pointer = pointers (fields_of image) v v.role level e.rest lawful.0.rest in
      let own = items_of_tree image i level c q.first pointer.leads.within q.here in
      let some = some_key e.key leaves.0.is_key in
      subst (λ (w : Tree). AllBelow key w.items) (sym q.is)
      (all_both (λ (x : Item). Below x.key key) q.first.items q.second.items
      (all_weaker (λ (x : Item). IsLawfulKey (fields_of image) c 0 x.key) (λ (x : Item). Below x.key key) q.first.items
      (λ x k. below_most x.key e.key key (below_some v.high e.key x.key some k.below) most.0)
      (keys_lawful (fields_of image) c [] q.first.items own.leaves own.each))
      (items_below v level (Some e.key) e.key front q.second leaves.1 lawful.1 most.1 q.later))

  -- below an entry, and below those behind it
  entry_above : (v : Visit) (level : ℕ) (p : List ℕ) (e : Item) (back : List Item) (t : Tree) → Below key p
      → IsLawfulEntry (fields_of image) v (suc level) e → trees_below image v level (Some p) (e ∷ back) ≡ Some t
      → ((u : Tree) → trees_below image v level (Some e.key) back ≡ Some u → AllAbove key u.items)
      → AllAbove key t.items
  entry_above v level p e back t above lawful h next =
      let c : Visit = visit_below v level (Some p) e in
      let q = both_parts (sound_tree image level c) (trees_below image v level (Some e.key) back) t h in
      let pointer = pointers (fields_of image) v v.role level e.rest lawful.rest in
      let own = items_of_tree image i level c q.first pointer.leads.within q.here in
      subst (λ (w : Tree). AllAbove key w.items) (sym q.is)
      (all_both (λ (x : Item). Below key x.key) q.first.items q.second.items
      (all_weaker (λ (x : Item). IsLawfulKey (fields_of image) c 0 x.key) (λ (x : Item). Below key x.key) q.first.items
      (λ x k. below_most key p x.key above k.above)
      (keys_lawful (fields_of image) c [] q.first.items own.leaves own.each))
      (next q.second q.later))

  -- below entries behind a key that is above the key
  items_above : (v : Visit) (level : ℕ) (p : List ℕ) (back : List Item) (t : Tree) → Below key p → AreIndex p back
      → AllByRecursion (IsLawfulEntry (fields_of image) v (suc level)) back
      → trees_below image v level (Some p) back ≡ Some t → AllAbove key t.items
  items_above v level p [] t above index lawful h = absurd index
  items_above v level p (e ∷ []) t above index lawful h =
      entry_above v level p e [] t above lawful.0 h (λ u found. nothing_above u found)
  items_above v level p (e ∷ f ∷ back) t above index lawful h =
      let behind = below_most key p e.key above (most_from p e.key (inl index.0.above)) in
      entry_above v level p e (f ∷ back) t above lawful.0 h
      (λ u found. items_above v level e.key (f ∷ back) u behind index.2 lawful.1 found)

  -- ---- beside one ancestor

  module _ (a : Ancestor) (w : Visit) (level : ℕ) (is : IsAncestor image a w level) (holds : HoldsKey w key) where
    lawful : AllByRecursion (IsLawfulEntry (fields_of image) a.visit (suc level)) (a.front ++ a.entry ∷ a.back)
    lawful = lawful_index image a.visit (suc level) (a.front ++ a.entry ∷ a.back) is.has

    front : IsFront [] a.front (a.entry ∷ a.back)
    front =
        index_front [] a.front a.entry a.back
        (packable image i a.visit (suc level) (a.front ++ a.entry ∷ a.back) is.has)

    own : IsLawfulEntry (fields_of image) a.visit (suc level) a.entry
    own = (all_right (IsLawfulEntry (fields_of image) a.visit (suc level)) a.front (a.entry ∷ a.back) lawful).0

    low : IsAboveLow 0 (low_behind a.visit.low a.front) key
    low = subst (λ (v : Visit). IsAboveLow 0 v.low key) is.leads holds.above

    high : IsBelowHigh (high_below a.visit.high a.entry.key) key
    high = subst (λ (v : Visit). IsBelowHigh v.high key) is.leads holds.below

    holds_above : HoldsKey a.visit key
    holds_above = record {
      above = low_up key a.visit.low [] a.front front.leaves (first a.front front.leaves lawful) low;
      below = high_up key a.visit.high a.entry.key (λ some. (own.key some).below) high;
    }
      where
        first : (es : List Item) → AreLeaves [] es
            → AllByRecursion (IsLawfulEntry (fields_of image) a.visit (suc level)) (es ++ a.entry ∷ a.back)
            → LowAbove a.visit.low es
        first [] leaves each = tt
        first (e ∷ es) leaves each =
            first_above level a.visit.low e.key (each.0.key (some_key e.key leaves.0.is_key)).above

    pub left_below : AllBelow key a.left.items
    left_below =
        items_below a.visit level a.visit.low [] a.front a.left front.leaves
        (all_left (IsLawfulEntry (fields_of image) a.visit (suc level)) a.front (a.entry ∷ a.back) lawful)
        (none_above key a.visit.low [] a.front front.leaves low) is.left

    pub right_above : AllAbove key a.right.items
    right_above =
        behind a.back front.rest
        (all_right (IsLawfulEntry (fields_of image) a.visit (suc level)) a.front (a.entry ∷ a.back) lawful).1 is.right
      where
        behind : (back : List Item) → AreIndex (key_behind [] a.front) (a.entry ∷ back)
            → AllByRecursion (IsLawfulEntry (fields_of image) a.visit (suc level)) back
            → trees_below image a.visit level (Some a.entry.key) back ≡ Some a.right → AllAbove key a.right.items
        behind [] index each h = nothing_above a.right h
        behind (f ∷ back) index each h =
            items_above a.visit level a.entry.key (f ∷ back) a.right
            (below_some a.visit.high a.entry.key key (some_key a.entry.key index.0.is_key) high) index.2 each h

  -- ---- beside all of them

  pub root_holds : (root w : Visit) (above : List Ancestor) (level : ℕ) → AreAncestors image root above w level
      → HoldsKey w key → HoldsKey root key
  root_holds root w [] level same holds = subst (λ v. HoldsKey v key) same holds
  root_holds root w (a ∷ above) level lead holds =
      root_holds root a.visit above (suc level) lead.1 (holds_above a w level lead.0 holds)

  pub before_below : (root w : Visit) (above : List Ancestor) (level : ℕ) → AreAncestors image root above w level
      → HoldsKey w key → AllBelow key (items_before above)
  before_below root w [] level same holds = tt
  before_below root w (a ∷ above) level lead holds =
      all_both (λ (e : Item). Below e.key key) (items_before above) a.left.items
      (before_below root a.visit above (suc level) lead.1 (holds_above a w level lead.0 holds))
      (left_below a w level lead.0 holds)

  pub behind_above : (root w : Visit) (above : List Ancestor) (level : ℕ) → AreAncestors image root above w level
      → HoldsKey w key → AllAbove key (items_behind above)
  behind_above root w [] level same holds = tt
  behind_above root w (a ∷ above) level lead holds =
      all_both (λ (e : Item). Below key e.key) a.right.items (items_behind above)
      (right_above a w level lead.0 holds)
      (behind_above root a.visit above (suc level) lead.1 (holds_above a w level lead.0 holds))
