-- Ancestors stay in an image that keeps their blocks and those beside the way down.
use Rattle.std.proofs.Common.{◌≡◌, ℕ, suc, ◌<◌, ◌≤◌, List, [], ◌∷◌, ◌++◌, Some, arith}
use Rattle.std.proofs.lemmas.List.Elements.{recursion_from_All}
use Rattle.gds_block.specs.Fields.{u32_at}
use Rattle.gds_block.specs.Item.{Item}
use Rattle.gds_header.specs.Fields.{fields_of, block_of}
use Rattle.gds_law.specs.Visit.{Visit}
use Rattle.gds_tree.specs.Lawful.{IsLawfulEntry}
use Rattle.gds_tree.specs.Below.{HasEntries}
use Rattle.gds_tree.specs.Keeps.{IsImage, KeepsSizes, KeepsBlocks}
use Rattle.gds_tree.proofs.AroundLemmas.{kept_left, kept_right}
use Rattle.gds_tree.proofs.BelowLemmas.{all_left, all_right, all_weaker}
use Rattle.gds_tree.proofs.KeepLemmas.{pointers, index_reach, entries_kept}
use Rattle.gds_tree.proofs.PartLemmas.{lawful_index}
use Rattle.gds_tree.proofs.ReplaceLemmas.{forest_grown}
use Rattle.gds_ancestors.specs.Ancestors.{Ancestor, outer_blocks, IsAncestor, AreAncestors}

module _ (old new : List ℕ) (i : IsImage old) (j : IsImage new) (sizes : KeepsSizes old new)
    (more : (fields_of old).total ≤ (fields_of new).total) where
  -- an index block's entries
  index_kept : (v : Visit) (level : ℕ) (es : List Item) → HasEntries old v (suc level) es
      → block_of new v.block ≡ block_of old v.block → HasEntries new v (suc level) es
  index_kept v level es has same =
      let low = has.there in
      entries_kept old new i j sizes v (suc level) es has (omega arith) same
      (index_reach (fields_of new).total v.role level es
      (all_weaker (IsLawfulEntry (fields_of old) v (suc level)) (λ (e : Item). u32_at e.rest 0 < (fields_of new).total)
      es (λ e l. let leads = (pointers (fields_of old) v v.role level e.rest l.rest).leads.within in omega arith)
      (lawful_index old v (suc level) es has)))

  ancestor_kept : (a : Ancestor) (w : Visit) (level : ℕ) → IsAncestor old a w level
      → KeepsBlocks old new (a.visit.block ∷ []) → KeepsBlocks old new a.left.blocks
      → KeepsBlocks old new a.right.blocks → IsAncestor new a w level
  ancestor_kept a w level k own left right =
      let v : Visit = a.visit in
      let lawful = lawful_index old v (suc level) (a.front ++ a.entry ∷ a.back) k.has in
      record {
        has = index_kept v level (a.front ++ a.entry ∷ a.back) k.has
            (recursion_from_All (λ n. block_of new n ≡ block_of old n) (v.block ∷ []) own).0;
        leads = k.leads;
        left = forest_grown old new v level v.low a.front a.left i j sizes more
            (all_left (IsLawfulEntry (fields_of old) v (suc level)) a.front (a.entry ∷ a.back) lawful) k.left left;
        right = forest_grown old new v level (Some a.entry.key) a.back a.right i j sizes more
            (all_right (IsLawfulEntry (fields_of old) v (suc level)) a.front (a.entry ∷ a.back) lawful).1 k.right right;
      }

  pub ancestors_kept : (root w : Visit) (above : List Ancestor) (level : ℕ) → AreAncestors old root above w level
      → KeepsBlocks old new (outer_blocks above) → AreAncestors new root above w level
  ancestors_kept root w [] level lead kept = lead
  ancestors_kept root w (a ∷ above) level lead kept =
      let own : List ℕ = a.visit.block ∷ [] in
      let beside = kept_left old new (own ++ a.left.blocks ++ a.right.blocks) (outer_blocks above) kept in
      let left = kept_left old new (own ++ a.left.blocks) a.right.blocks beside in (
        ancestor_kept a w level lead.0 (kept_left old new own a.left.blocks left)
            (kept_right old new own a.left.blocks left)
            (kept_right old new (own ++ a.left.blocks) a.right.blocks beside),
        ancestors_kept root a.visit above (suc level) lead.1
            (kept_right old new (own ++ a.left.blocks ++ a.right.blocks) (outer_blocks above) kept),
      )
