-- What a visit has from its ancestors.
use Rattle.std.proofs.Common.{◌≡◌, ℕ, suc, List, [], ◌∷◌, ◌++◌, Some, sym, ap, subst, ◌∙◌}
use Rattle.std.specs.List.{AllByRecursion}
use Rattle.gds_header.specs.Fields.{fields_of}
use Rattle.gds_law.specs.Visit.{Visit}
use Rattle.gds_tree.specs.Lawful.{IsTreeNumber, IsLawfulEntry}
use Rattle.gds_tree.specs.Keeps.{IsImage}
use Rattle.gds_tree.proofs.BelowLemmas.{all_left, all_right, all_both}
use Rattle.gds_tree.proofs.KeepLemmas.{pointers}
use Rattle.gds_tree.proofs.PartLemmas.{lawful_index, numbered, below_numbered}
use Rattle.gds_ancestors.specs.Ancestors.{Ancestor, outer_blocks, IsAncestor, AreAncestors}

pub same_role : (image : List ℕ) (root w : Visit) (above : List Ancestor) (level : ℕ)
    → AreAncestors image root above w level → w.role ≡ root.role
same_role image root w [] level lead = ap (λ (v : Visit). v.role) lead
same_role image root w (a ∷ above) level lead =
    ap (λ (v : Visit). v.role) lead.0.leads ∙ same_role image root a.visit above (suc level) lead.1

pub due_level : (image : List ℕ) (a : Ancestor) (w : Visit) (level : ℕ) → IsAncestor image a w level
    → w.level ≡ Some level
due_level image a w level k = ap (λ (v : Visit). v.level) k.leads

-- ---- numbers

module _ (image : List ℕ) where
  abbrev Numbered : List ℕ → Type 0
  Numbered blocks = AllByRecursion (IsTreeNumber (fields_of image).total) blocks

  pub number_below : (a : Ancestor) (w : Visit) (level : ℕ) → IsAncestor image a w level
      → IsTreeNumber (fields_of image).total w.block
  number_below a w level k =
      let lawful = lawful_index image a.visit (suc level) (a.front ++ a.entry ∷ a.back) k.has in
      let pointer = pointers (fields_of image) a.visit a.visit.role level a.entry.rest
      (all_right (IsLawfulEntry (fields_of image) a.visit (suc level)) a.front (a.entry ∷ a.back) lawful).0.rest in
      subst (λ (v : Visit). IsTreeNumber (fields_of image).total v.block) (sym k.leads) pointer.leads

  pub number_of : (root w : Visit) (above : List Ancestor) (level : ℕ)
      → IsTreeNumber (fields_of image).total root.block → AreAncestors image root above w level
      → IsTreeNumber (fields_of image).total w.block
  number_of root w [] level n lead = subst (λ (v : Visit). IsTreeNumber (fields_of image).total v.block) (sym lead) n
  number_of root w (a ∷ above) level n lead = number_below a w level lead.0

  -- those of the trees beside the way down
  beside_numbered : (i : IsImage image) (a : Ancestor) (w : Visit) (level : ℕ) → IsAncestor image a w level
      → Numbered a.left.blocks × Numbered a.right.blocks
  beside_numbered i a w level k =
      let v : Visit = a.visit in
      let lawful = lawful_index image v (suc level) (a.front ++ a.entry ∷ a.back) k.has in (
        below_numbered image i v level v.low a.front a.left (numbered image i level)
            (all_left (IsLawfulEntry (fields_of image) v (suc level)) a.front (a.entry ∷ a.back) lawful) k.left,
        below_numbered image i v level (Some a.entry.key) a.back a.right (numbered image i level)
            (all_right (IsLawfulEntry (fields_of image) v (suc level)) a.front (a.entry ∷ a.back) lawful).1 k.right,
      )

  pub outer_numbered : (i : IsImage image) (root w : Visit) (above : List Ancestor) (level : ℕ)
      → IsTreeNumber (fields_of image).total root.block → AreAncestors image root above w level
      → Numbered (outer_blocks above)
  outer_numbered i root w [] level n lead = tt
  outer_numbered i root w (a ∷ above) level n lead =
      let number : ℕ → Type 0 = IsTreeNumber (fields_of image).total in
      let beside = beside_numbered i a w level lead.0 in (
        number_of root a.visit above (suc level) n lead.1,
        all_both number (a.left.blocks ++ a.right.blocks) (outer_blocks above)
            (all_both number a.left.blocks a.right.blocks beside.0 beside.1)
            (outer_numbered i root a.visit above (suc level) n lead.1),
      )
