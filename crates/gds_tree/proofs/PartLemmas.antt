-- What is known of the blocks of a sound tree.
use Rattle.std.proofs.Common.{◌≡◌, ℕ, zero, suc, ◌<◌, List, [], ◌∷◌, ◌++◌, Option, Some, refl, sym, subst}
use Rattle.std.specs.List.{AllByRecursion}
use Rattle.std.proofs.lemmas.List.Elements.{recursion_from_All}
use Rattle.gds_block.specs.Fields.{u32_at}
use Rattle.gds_block.specs.Item.{Item}
use Rattle.gds_header.specs.Fields.{fields_of}
use Rattle.gds_law.specs.Visit.{TreeRole, directory, global, Visit}
use Rattle.gds_sound.specs.Sound.{Tree, sound_tree}
use Rattle.gds_tree.specs.Lawful.{IsTreeNumber, IsLawfulRest, IsLawfulEntry, IsLawful}
use Rattle.gds_tree.specs.Below.{visit_below, trees_below, HasEntries}
use Rattle.gds_tree.specs.Keeps.{IsImage}
use Rattle.gds_tree.proofs.BelowLemmas.{all_both, all_weaker, both_parts}
use Rattle.gds_tree.proofs.KeepLemmas.{Roots, pointers}
use Rattle.gds_tree.proofs.TreeByLemmas.{by_leaf, by_index}

-- the lawful entries of a block, by its level
pub lawful_at : (image : List ℕ) (v : Visit) (level : ℕ) (es : List Item) → HasEntries image v level es
    → IsLawful (fields_of image) v level es
lawful_at image v level es has = subst (λ n. IsLawful (fields_of image) v n es) has.level has.right.lawful

pub lawful_index : (image : List ℕ) (v : Visit) (level : ℕ) (es : List Item) → HasEntries image v level es
    → AllByRecursion (IsLawfulEntry (fields_of image) v level) es
lawful_index image v level es has =
    recursion_from_All (IsLawfulEntry (fields_of image) v level) es (lawful_at image v level es has).each

module _ (image : List ℕ) (i : IsImage image) where
  abbrev Numbered : List ℕ → Type 0
  Numbered blocks = AllByRecursion (IsTreeNumber (fields_of image).total) blocks

  abbrev NumberedAt : ℕ → Type 0
  NumberedAt level = (v : Visit) (t : Tree) → IsTreeNumber (fields_of image).total v.block
      → sound_tree image level v ≡ Some t → Numbered t.blocks

  pub below_numbered : (v : Visit) (level : ℕ) (low : Option (List ℕ)) (es : List Item) (t : Tree) → NumberedAt level
      → AllByRecursion (IsLawfulEntry (fields_of image) v (suc level)) es → trees_below image v level low es ≡ Some t
      → Numbered t.blocks
  below_numbered v level low [] t each lawful h =
      let none : record { blocks = []; items = [] } ≡ t = cc in
      subst (λ (w : Tree). Numbered w.blocks) none tt
  below_numbered v level low (e ∷ es) t each lawful h =
      let c : Visit = visit_below v level low e in
      let p = both_parts (sound_tree image level c) (trees_below image v level (Some e.key) es) t h in
      let pointer = pointers (fields_of image) v v.role level e.rest lawful.0.rest in
      subst (λ (w : Tree). Numbered w.blocks) (sym p.is)
      (all_both (IsTreeNumber (fields_of image).total) p.first.blocks p.second.blocks
      (each c p.first pointer.leads p.here)
      (below_numbered v level (Some e.key) es p.second each lawful.1 p.later))

  pub numbered : (level : ℕ) → NumberedAt level
  numbered zero v t n h =
      let p = by_leaf image v t i n.within h in
      subst (λ (w : Tree). Numbered w.blocks) (sym p.is) (n, tt)
  numbered (suc level) v t n h =
      let p = by_index image v level t i n.within h in
      subst (λ (w : Tree). Numbered w.blocks) (sym p.is) (
        n,
        below_numbered v level v.low p.es p.below (numbered level) (lawful_index image v (suc level) p.es p.has)
            p.trees,
      )

  -- They are below the total also where only that is known of the root's block.
  pub low_blocks : (level : ℕ) (v : Visit) (t : Tree) → v.block < (fields_of image).total
      → sound_tree image level v ≡ Some t → AllByRecursion (λ n. n < (fields_of image).total) t.blocks
  low_blocks zero v t low h =
      let p = by_leaf image v t i low h in
      subst (λ (w : Tree). AllByRecursion (λ n. n < (fields_of image).total) w.blocks) (sym p.is) (low, tt)
  low_blocks (suc level) v t low h =
      let p = by_index image v level t i low h in
      let below = below_numbered v level v.low p.es p.below (numbered level)
      (lawful_index image v (suc level) p.es p.has) p.trees in
      subst (λ (w : Tree). AllByRecursion (λ n. n < (fields_of image).total) w.blocks) (sym p.is) (
        low,
        all_weaker (IsTreeNumber (fields_of image).total) (λ n. n < (fields_of image).total) p.below.blocks
            (λ n k. k.within) below,
      )

  -- the roots that a directory names are below the total too
  abbrev RootedAt : ℕ → Type 0
  RootedAt level = (v : Visit) (t : Tree) → v.block < (fields_of image).total → sound_tree image level v ≡ Some t
      → Roots (fields_of image).total v.role t.items

  roots_both : (role : TreeRole) (xs ys : List Item) → Roots (fields_of image).total role xs
      → Roots (fields_of image).total role ys → Roots (fields_of image).total role (xs ++ ys)
  roots_both directory xs ys h k = all_both (λ (e : Item). u32_at e.rest 0 < (fields_of image).total) xs ys h k
  roots_both (global name) xs ys h k = tt

  no_roots : (role : TreeRole) → Roots (fields_of image).total role []
  no_roots directory = tt
  no_roots (global name) = tt

  leaf_rooted : (v : Visit) (role : TreeRole) (es : List Item) → v.role ≡ role
      → AllByRecursion (IsLawfulEntry (fields_of image) v 0) es → Roots (fields_of image).total role es
  leaf_rooted v (global name) es e lawful = tt
  leaf_rooted v directory [] e lawful = tt
  leaf_rooted v directory (f ∷ es) e lawful =
      let pointer = subst (λ role. IsLawfulRest (fields_of image) role 0 f.rest) e lawful.0.rest in
      (pointer.leads.within, leaf_rooted v directory es e lawful.1)

  pub below_rooted : (v : Visit) (level : ℕ) (low : Option (List ℕ)) (es : List Item) (t : Tree) → RootedAt level
      → AllByRecursion (IsLawfulEntry (fields_of image) v (suc level)) es → trees_below image v level low es ≡ Some t
      → Roots (fields_of image).total v.role t.items
  below_rooted v level low [] t each lawful h =
      let none : record { blocks = []; items = [] } ≡ t = cc in
      subst (λ (w : Tree). Roots (fields_of image).total v.role w.items) none (no_roots v.role)
  below_rooted v level low (e ∷ es) t each lawful h =
      let c : Visit = visit_below v level low e in
      let p = both_parts (sound_tree image level c) (trees_below image v level (Some e.key) es) t h in
      let pointer = pointers (fields_of image) v v.role level e.rest lawful.0.rest in
      subst (λ (w : Tree). Roots (fields_of image).total v.role w.items) (sym p.is)
      (roots_both v.role p.first.items p.second.items (each c p.first pointer.leads.within p.here)
      (below_rooted v level (Some e.key) es p.second each lawful.1 p.later))

  pub rooted : (level : ℕ) → RootedAt level
  rooted zero v t low h =
      let p = by_leaf image v t i low h in
      subst (λ (w : Tree). Roots (fields_of image).total v.role w.items) (sym p.is)
      (leaf_rooted v v.role p.es refl (lawful_index image v 0 p.es p.has))
  rooted (suc level) v t low h =
      let p = by_index image v level t i low h in
      subst (λ (w : Tree). Roots (fields_of image).total v.role w.items) (sym p.is)
      (below_rooted v level v.low p.es p.below (rooted level) (lawful_index image v (suc level) p.es p.has) p.trees)
