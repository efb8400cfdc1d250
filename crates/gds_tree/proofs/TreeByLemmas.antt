-- A sound tree, by the entries of its root's block.
use Rattle.std.proofs.Common.{◌≡◌, ℕ, suc, ◌<◌, List, [], Some, option_map, refl, sym, ap, ◌∙◌}
use Rattle.std.proofs.lemmas.Bool.{cond-true}
use Rattle.gds_block.specs.Item.{Item}
use Rattle.gds_header.specs.Fields.{fields_of}
use Rattle.gds_law.specs.Visit.{Visit}
use Rattle.gds_sound.specs.Sound.{Tree, joined, forest_of, is_faultless, sound_tree}
use Rattle.gds_sound.proofs.TreeLemmas.{faultless_from, leaf_parts, root_only, index_parts}
use Rattle.gds_tree.specs.Below.{trees_below, HasEntries, leaf_tree, index_tree}
use Rattle.gds_tree.specs.Keeps.{IsImage}
use Rattle.gds_tree.proofs.ImageLemmas.{tree_entries, has_none, has_children, has_items, forest_below}

pub leaf_by : (image : List ℕ) (v : Visit) (es : List Item) → IsImage image → HasEntries image v 0 es
    → sound_tree image 0 v ≡ Some (leaf_tree v es)
leaf_by image v es i has =
    cond-true (is_faultless image v 0) _ _ (faultless_from image v 0 has.level (has_none image v 0 es i has))
    ∙ ap (λ items. Some (leaf_tree v items)) (has_items image v 0 es i has refl)

pub index_by : (image : List ℕ) (v : Visit) (level : ℕ) (es : List Item) (below : Tree) → IsImage image
    → HasEntries image v (suc level) es → trees_below image v level v.low es ≡ Some below
    → sound_tree image (suc level) v ≡ Some (index_tree v below)
index_by image v level es below i has h =
    cond-true (is_faultless image v (suc level)) _ _
    (faultless_from image v (suc level) has.level (has_none image v (suc level) es i has))
    ∙ ap (λ cs. option_map (joined (root_only v)) (forest_of (sound_tree image level) cs))
    (has_children image v (suc level) es i has)
    ∙ ap (option_map (joined (root_only v))) (forest_below image v level 16 [] v.low es ∙ h)

-- and back
pub record LeafBy (image : List ℕ) (v : Visit) (t : Tree) : Type 0 where
  pub es : List Item
  pub has : HasEntries image v 0 es
  pub is : t ≡ leaf_tree v es

pub by_leaf : (image : List ℕ) (v : Visit) (t : Tree) → IsImage image → v.block < (fields_of image).total
    → sound_tree image 0 v ≡ Some t → LeafBy image v t
by_leaf image v t i low h =
    let e = tree_entries image v 0 t i low h in
    let p = leaf_parts image v t h in
    record {
      es = e.0;
      has = e.1;
      is = sym p.is ∙ ap (leaf_tree v) (has_items image v 0 e.0 i e.1 refl);
    }

pub record IndexBy (image : List ℕ) (v : Visit) (level : ℕ) (t : Tree) : Type 0 where
  pub es : List Item
  pub below : Tree
  pub has : HasEntries image v (suc level) es
  pub trees : trees_below image v level v.low es ≡ Some below
  pub is : t ≡ index_tree v below

pub by_index : (image : List ℕ) (v : Visit) (level : ℕ) (t : Tree) → IsImage image → v.block < (fields_of image).total
    → sound_tree image (suc level) v ≡ Some t → IndexBy image v level t
by_index image v level t i low h =
    let e = tree_entries image v (suc level) t i low h in
    let p = index_parts image level v t h in
    record {
      es = e.0;
      below = p.below;
      has = e.1;
      trees = sym (forest_below image v level 16 [] v.low e.0)
          ∙ ap (forest_of (sound_tree image level)) (sym (has_children image v (suc level) e.0 i e.1))
          ∙ p.forest;
      is = sym p.is;
    }
