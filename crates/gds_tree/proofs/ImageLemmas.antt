-- The blocks of an image, and those that are right in it.
use Rattle.std.proofs.Common.{◌≡◌, ℕ, suc, ◌+◌, ◌*◌, ◌<◌, ◌≤◌, List, [], ◌∷◌, length, drop, Option, Some}
use Rattle.std.proofs.Common.{refl, ap, ◌∙◌, arith}
use Rattle.std.proofs.Math.Nat.{mul-le-mul_right}
use Rattle.std.proofs.lemmas.List.{length-take, length-drop}
use Rattle.gds_block.specs.Item.{Item}
use Rattle.gds_header.specs.Fields.{fields_of, place_of, block_of}
use Rattle.gds_law.specs.Visit.{Visit}
use Rattle.gds_law.specs.Path.{children_at}
use Rattle.gds_sound.specs.Sound.{Tree, forest_of, items_at, sound_tree}
use Rattle.gds_sound.proofs.BlockLemmas.{kinds_at, level_at}
use Rattle.gds_sound.proofs.TreeLemmas.{tree_level, tree_clean}
use Rattle.gds_tree.specs.Below.{visit_below, index_children, children_by, both, trees_below}
use Rattle.gds_tree.specs.Below.{HasEntries}
use Rattle.gds_pack.specs.Packed.{record_size}
use Rattle.gds_tree.specs.Keeps.{IsImage}
use Rattle.gds_tree.proofs.RightLemmas.{right_from}
use Rattle.gds_tree.proofs.FaultlessLemmas.{no_kinds, children_right, items_right}

-- A block below the total is whole.
pub block_long : (image : List ℕ) (n : ℕ) → IsImage image → n < (fields_of image).total
    → length (block_of image n) ≡ (fields_of image).block_size
block_long image n i low =
    let size : ℕ = (fields_of image).block_size in
    let whole = i.whole in
    let rows : suc n * size ≤ (fields_of image).total * size = mul-le-mul_right size low in
    let more : suc n * size ≡ n * size + size = omega arith in
    omega (
      arith,
      length-take size (drop (place_of (fields_of image) n) image),
      length-drop (place_of (fields_of image) n) image,
    )

-- A block with which nothing is wrong has entries.
pub entries_at : (image : List ℕ) (v : Visit) (level : ℕ) → IsImage image → v.block < (fields_of image).total
    → level_at image v ≡ level → kinds_at image v ≡ [] → (es : List Item) × HasEntries image v level es
entries_at image v level i low e none =
    let r = right_from (fields_of image) v (block_of image v.block) i.limits.key_to
    (block_long image v.block i low) none in
    (r.0, record { there = low; level = e; right = r.1 })

pub tree_entries : (image : List ℕ) (v : Visit) (level : ℕ) (t : Tree) → IsImage image
    → v.block < (fields_of image).total → sound_tree image level v ≡ Some t → (es : List Item)
    × HasEntries image v level es
tree_entries image v level t i low h =
    entries_at image v level i low (tree_level image level v t h) (tree_clean image level v t h)

module _ (image : List ℕ) (v : Visit) (level : ℕ) (es : List Item) (i : IsImage image)
    (has : HasEntries image v level es) where
  pub has_none : kinds_at image v ≡ []
  has_none = no_kinds (fields_of image) v (block_of image v.block) es i.limits has.right

  pub has_children : children_at image v ≡ children_by v level es
  unfolding children_at
  has_children =
      children_right (fields_of image) v (block_of image v.block) es i.limits has.right
      ∙ ap (λ n. children_by v n es) has.level

  pub has_items : level ≡ 0 → items_at image v ≡ es
  has_items z = items_right (fields_of image) v (block_of image v.block) es i.limits has.right (has.level ∙ z)

-- The trees below an index block's children are those below its entries.
pub forest_below : (image : List ℕ) (v : Visit) (level at : ℕ) (previous : List ℕ) (low : Option (List ℕ))
    (es : List Item)
    → forest_of (sound_tree image level) (index_children v level at previous low es) ≡ trees_below image v level low es
forest_below image v level at previous low [] = refl
forest_below image v level at previous low (e ∷ es) =
    ap (both (sound_tree image level (visit_below v level low e)))
    (forest_below image v level (at + record_size previous e) e.key (Some e.key) es)
