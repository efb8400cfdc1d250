-- From a sound tree up to the root, over its ancestors.
use Rattle.std.proofs.Common.{◌≡◌, ℕ, suc, ◌+◌, List, [], ◌∷◌, ◌++◌, length, Some, sym, ap, ◌∙◌, arith}
use Rattle.gds_law.specs.Visit.{Visit}
use Rattle.gds_sound.specs.Sound.{Tree, joined, sound_tree}
use Rattle.gds_tree.specs.Below.{visit_below, low_behind, trees_below}
use Rattle.gds_tree.specs.Around.{around}
use Rattle.gds_tree.specs.Keeps.{IsImage}
use Rattle.gds_tree.proofs.BelowLemmas.{some_both, below_append, joined_assoc}
use Rattle.gds_tree.proofs.TreeByLemmas.{index_by}
use Rattle.gds_ancestors.specs.Ancestors.{Ancestor, tree_with, whole_with, IsAncestor, AreAncestors}

module _ (image : List ℕ) (i : IsImage image) where
  pub tree_above : (a : Ancestor) (w : Visit) (level : ℕ) (inner : Tree) → IsAncestor image a w level
      → sound_tree image level w ≡ Some inner → sound_tree image (suc level) a.visit ≡ Some (tree_with a inner)
  tree_above a w level inner k h =
      let c : Visit = visit_below a.visit level (low_behind a.visit.low a.front) a.entry in
      index_by image a.visit level (a.front ++ a.entry ∷ a.back) (around a.left inner a.right) i k.has
      (below_append image a.visit level a.visit.low a.front (a.entry ∷ a.back)
      ∙ some_both (trees_below image a.visit level a.visit.low a.front) _ a.left (joined inner a.right) k.left
      (some_both (sound_tree image level c) (trees_below image a.visit level (Some a.entry.key) a.back) inner a.right
      (ap (sound_tree image level) (sym k.leads) ∙ h) k.right)
      ∙ ap (λ t. Some t) (sym (joined_assoc a.left inner a.right)))

  pub tree_of_root : (root w : Visit) (above : List Ancestor) (level : ℕ) (inner : Tree)
      → AreAncestors image root above w level → sound_tree image level w ≡ Some inner
      → sound_tree image (length above + level) root ≡ Some (whole_with above inner)
  tree_of_root root w [] level inner lead h =
      let none : 0 + level ≡ level = omega arith in
      ap (λ n. sound_tree image n root) none ∙ ap (sound_tree image level) (sym lead) ∙ h
  tree_of_root root w (a ∷ above) level inner lead h =
      let up : suc (length above) + level ≡ length above + suc level = omega arith in
      ap (λ n. sound_tree image n root) up
      ∙ tree_of_root root a.visit above (suc level) (tree_with a inner) lead.1
      (tree_above a w level inner lead.0 h)
