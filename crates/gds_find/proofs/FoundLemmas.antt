-- A trail parts the items of its tree at the key.
use Rattle.std.proofs.Common.{◌≡◌, ℕ, ◌+◌, ◌<◌, Bool, true, false, List, [], ◌∷◌, ◌++◌, length, Some, inl, inr}
use Rattle.std.proofs.Common.{sym, ap, subst, ◌∙◌, arith, append_assoc}
use Rattle.std.specs.Bool.{OnFalse, OnTrue}
use Rattle.std.specs.List.{AllByRecursion}
use Rattle.std.proofs.lemmas.List.Elements.{All-from_recursion, recursion_from_All}
use Rattle.gds_ancestors.specs.Ancestors.{Ancestor, items_before, items_behind, whole_with}
use Rattle.gds_ancestors.proofs.AlongLemmas.{ancestors_of}
use Rattle.gds_ancestors.proofs.ContentLemmas.{whole_items}
use Rattle.gds_block.specs.Block.{level_of}
use Rattle.gds_block.specs.Item.{Item}
use Rattle.gds_header.specs.Fields.{fields_of, block_of}
use Rattle.gds_law.specs.Path.{Steps}
use Rattle.gds_law.specs.Visit.{Visit}
use Rattle.gds_pack.specs.Packable.{AreLeaves}
use Rattle.gds_pack.specs.Packed.{key_behind}
use Rattle.gds_pack.specs.Unpacked.{entries_of}
use Rattle.gds_search.specs.Place.{BeginsAbove, BeginsAt, IsBelow}
use Rattle.gds_search.specs.declared.place.Place.{Place}
use Rattle.gds_sound.specs.Sound.{Tree, sound_tree, tree_at}
use Rattle.gds_tree.specs.Below.{leaf_tree}
use Rattle.gds_tree.specs.Keeps.{IsImage}
use Rattle.gds_tree.proofs.BelowLemmas.{all_both, all_weaker}
use Rattle.gds_tree.proofs.FineLemmas.{some_key}
use Rattle.gds_tree.proofs.ItemLemmas.{packable}
use Rattle.gds_tree.proofs.ListLemmas.{keys_above, leaves_right}
use Rattle.gds_tree.proofs.RootLemmas.{same_entries}
use Rattle.gds_tree.proofs.TestLemmas.{below_less, below_most, most_from}
use Rattle.gds_tree.proofs.TreeByLemmas.{by_leaf}
use Rattle.m_key.specs.Key.{Below}
use Rattle.gds_find.specs.Found.{BeginsFound, PartsItems}
use Rattle.gds_find.specs.Trail.{IsTrail}
use Rattle.gds_find.proofs.SideLemmas.{before_below, behind_above}

abbrev AllAbove : List ℕ → List Item → Type 0
AllAbove key items = AllByRecursion (λ (e : Item). Below key e.key) items

-- what rises behind a key that is above another is above that one
behind_both : (key p : List ℕ) (es : List Item) → Below key p → AreLeaves p es → AllAbove key es
behind_both key p es above leaves =
    all_weaker (λ (e : Item). Below p e.key) (λ (e : Item). Below key e.key) es
    (λ e low. below_most key p e.key above (most_from p e.key (inl (below_less p e.key low)))) (keys_above p es leaves)

begins_above : (key p : List ℕ) (behind right : List Item) → AreLeaves p behind → BeginsAbove key behind
    → AllAbove key right → AllAbove key (behind ++ right)
begins_above key p [] right leaves above rest = rest
begins_above key p (e ∷ behind) right leaves (inl none) rest = absurd (some_key e.key leaves.0.is_key none)
begins_above key p (e ∷ behind) right leaves (inr above) rest =
    (above, all_both (λ (x : Item). Below key x.key) behind right (behind_both key e.key behind above leaves.1) rest)

begins_at : (key p : List ℕ) (behind right : List Item) → AreLeaves p behind → BeginsAt key behind
    → AllAbove key right → BeginsFound true key (behind ++ right)
begins_at key p [] right leaves at rest = absurd at
begins_at key p (e ∷ behind) right leaves at rest = (
  at,
  All-from_recursion (λ (x : Item). Below key x.key) (behind ++ right)
      (all_both (λ (x : Item). Below key x.key) behind right
      (subst (λ k. AllAbove k behind) at (keys_above e.key behind leaves.1)) rest),
)

begins : (key p : List ℕ) (behind right : List Item) (found is_equal : Bool) → found ≡ is_equal → AreLeaves p behind
    → OnTrue is_equal (BeginsAt key behind) → OnFalse is_equal (BeginsAbove key behind) → AllAbove key right
    → BeginsFound found key (behind ++ right)
begins key p behind right true true same leaves at above rest = begins_at key p behind right leaves at rest
begins key p behind right false false same leaves at above rest =
    All-from_recursion (λ (x : Item). Below key x.key) (behind ++ right)
    (begins_above key p behind right leaves above rest)
begins key p behind right true false same leaves at above rest = absurd (cc)
begins key p behind right false true same leaves at above rest = absurd (cc)

four_parts : (items left inner right before behind : List Item) → items ≡ left ++ inner ++ right
    → inner ≡ before ++ behind → items ≡ (left ++ before) ++ (behind ++ right)
four_parts items left inner right before behind whole parts =
    whole ∙ ap (λ xs. left ++ xs ++ right) parts
    ∙ ap (λ xs. xs ++ right) (sym (append_assoc left before behind)) ∙ append_assoc (left ++ before) behind right

whole_parts : (t : Tree) (above : List Ancestor) (inner : Tree) → t ≡ whole_with above inner
    → t.items ≡ items_before above ++ inner.items ++ items_behind above
whole_parts t above inner is = ap (λ (w : Tree). w.items) is ∙ whole_items above inner

leaf_items : (t : Tree) (leaf : Visit) (es entries : List Item) → t ≡ leaf_tree leaf es → es ≡ entries
    → t.items ≡ entries
leaf_items t leaf es entries is same = ap (λ (w : Tree). w.items) is ∙ same

-- The items of a tree around those of the block in which a trail ends, which stand before and behind a place.
pub record AreAround (items before behind : List Item) (key : List ℕ) : Type 0 where
  pub left : List Item
  pub right : List Item
  pub parts : items ≡ (left ++ before) ++ (behind ++ right)
  pub below : AllByRecursion (λ (e : Item). Below e.key key) left
  pub above : AllAbove key right

module _ (image : List ℕ) (root : Visit) (key : List ℕ) (steps : Steps) (found : Bool) (place : Place) (t : Tree)
    (i : IsImage image) (there : root.block < (fields_of image).total) (tree : tree_at image root ≡ Some t)
    (trail : IsTrail image root key steps found place) where
  pub items_around : AreAround t.items trail.before trail.behind key
  items_around =
      let height : length trail.path + 0 ≡ level_of (block_of image root.block) = omega (arith, trail.levels) in
      let a = ancestors_of image i root trail.leaf trail.path 0 t there trail.leads
      (ap (λ n. sound_tree image n root) height ∙ tree) in
      let l = by_leaf image trail.leaf a.inner i trail.has.there a.sound in
      let same = same_entries l.es trail.entries (entries_of (block_of image trail.leaf.block)) l.has.right.found
      trail.has.right.found in
      record {
        left = items_before a.ancestors;
        right = items_behind a.ancestors;
        parts = four_parts t.items (items_before a.ancestors) a.inner.items (items_behind a.ancestors) trail.before
            trail.behind (whole_parts t a.ancestors a.inner a.whole)
            (leaf_items a.inner trail.leaf l.es trail.entries l.is same ∙ trail.place_is.parts);
        below = before_below image i key root trail.leaf a.ancestors 0 a.lead trail.holds;
        above = behind_above image i key root trail.leaf a.ancestors 0 a.lead trail.holds;
      }

  pub items_at : PartsItems t.items key found
  items_at =
      let a = items_around in
      let leaves : AreLeaves [] (trail.before ++ trail.behind) =
      subst (AreLeaves []) trail.place_is.parts (packable image i trail.leaf 0 trail.entries trail.has) in
      record {
        before = a.left ++ trail.before;
        behind = trail.behind ++ a.right;
        parts = a.parts;
        below = All-from_recursion (λ e. Below e.key key) (a.left ++ trail.before)
            (all_both (λ (e : Item). Below e.key key) a.left trail.before a.below
            (all_weaker (IsBelow key) (λ (e : Item). Below e.key key) trail.before (λ e low. low.1)
            (recursion_from_All (IsBelow key) trail.before trail.place_is.below)));
        begins = begins key (key_behind [] trail.before) trail.behind a.right found place.is_equal trail.found_is
            (leaves_right [] trail.before trail.behind leaves) trail.place_is.equal trail.place_is.above a.above;
      }
