-- The directory's tree of a new database: block 1 leads to block 2, and nothing is wrong with them.
use Rattle.std.proofs.Common.{◌≡◌, ℕ, true, false, List, [], ◌∷◌, None, Some}
use Rattle.std.proofs.Common.{refl, ap, ◌∙◌}
use Rattle.std.specs.Prelude.{nat_lt, nat_le, option_map, option_and_then}
use Rattle.std.proofs.lemmas.Bool.{cond-true}
use Rattle.gds_block.specs.Fields.{u16_at, u32_at, u64_at, u16_bytes, u32_bytes, u64_bytes}
use Rattle.gds_block.specs.Block.{level_of}
use Rattle.gds_header.specs.declared.header.Header.{Header}
use Rattle.gds_header.specs.Fields.{fields_of, block_of}
use Rattle.gds_law.specs.Visit.{Visit, directory, directory_root}
use Rattle.gds_law.specs.BlockReading.{reading_of}
use Rattle.gds_law.specs.Record.{kinds_of, is_ended, target_of}
use Rattle.gds_law.specs.Block.{kinds_of_head, kinds_of_block, children_of}
use Rattle.gds_law.specs.Path.{children_at}
use Rattle.gds_sound.specs.Stands.{items_of}
use Rattle.gds_sound.specs.Sound.{joined, forest_of, sound_tree, tree_at}
use Rattle.gds_sound.proofs.TreeLemmas.{faultless_from, root_only, own_level}
use Rattle.gds_new.specs.NewDatabase.{new_root, new_leaf}
use Rattle.gds_new.specs.Laws.{empty_directory}

-- where the star of block 1 leads
abbrev pub leaf_visit : Visit
leaf_visit = record { block = 2; role = directory; level = Some 0; low = None; high = None }

-- the two blocks of a new database, read under a header g
module _ (h g : Header) (written : nat_le g.tn 0 ≡ false) where
  leaf_kinds : nat_lt g.block_size 16 ≡ false → kinds_of_block (reading_of g leaf_visit (new_leaf h)) (new_leaf h) ≡ []
  unfolding new_leaf kinds_of_block kinds_of_head u16_at u32_at u64_at u16_bytes u32_bytes u64_bytes
  leaf_kinds room = rw (written, room) refl

  module _ (room : nat_lt g.block_size 24 ≡ false) (few : nat_le g.total 2 ≡ false)
      (some : nat_lt 2 g.total ≡ true) where
    root_kinds : kinds_of_block (reading_of g directory_root (new_root h)) (new_root h) ≡ []
    unfolding new_root kinds_of_block kinds_of_head kinds_of is_ended u16_at u32_at u64_at u16_bytes u32_bytes u64_bytes
    root_kinds = rw (written, room, few, some) refl

    root_children : children_of g directory_root (new_root h) ≡ record { offset = 16; visit = leaf_visit } ∷ []
    unfolding new_root children_of kinds_of_head kinds_of is_ended target_of u16_at u32_at u64_at u16_bytes u32_bytes
        u64_bytes
    root_children = rw (written, room, few, some) refl

leaf_items : (h g : Header) → items_of (reading_of g leaf_visit (new_leaf h)) (new_leaf h) ≡ []
unfolding new_leaf u16_at u32_at u64_at u16_bytes u32_bytes u64_bytes
leaf_items h g = refl

leaf_level : (h : Header) → level_of (new_leaf h) ≡ 0
unfolding new_leaf u16_bytes u32_bytes u64_bytes
leaf_level h = refl

root_level : (h : Header) → level_of (new_root h) ≡ 1
unfolding new_root u16_bytes u32_bytes u64_bytes
root_level h = refl

-- in an image whose blocks 1 and 2 are these
module _ (image : List ℕ) (h : Header) (root : block_of image 1 ≡ new_root h) (leaf : block_of image 2 ≡ new_leaf h)
    (room : nat_lt (fields_of image).block_size 24 ≡ false) (more : nat_lt (fields_of image).block_size 16 ≡ false)
    (few : nat_le (fields_of image).total 2 ≡ false) (some : nat_lt 2 (fields_of image).total ≡ true)
    (written : nat_le (fields_of image).tn 0 ≡ false) where
  leaf_sound : sound_tree image 0 leaf_visit ≡ Some (record { blocks = 2 ∷ []; items = [] })
  leaf_sound =
      let level = ap level_of leaf ∙ leaf_level h in
      let kinds = ap (λ b. kinds_of_block (reading_of (fields_of image) leaf_visit b) b) leaf
      ∙ leaf_kinds h (fields_of image) written more in
      let items = ap (λ b. items_of (reading_of (fields_of image) leaf_visit b) b) leaf
      ∙ leaf_items h (fields_of image) in
      cond-true _ _ _ (faultless_from image leaf_visit 0 level kinds)
      ∙ (λ i. Some (record { blocks = 2 ∷ []; items = items i }))

  children : children_at image directory_root ≡ record { offset = 16; visit = leaf_visit } ∷ []
  unfolding children_at
  children =
      ap (children_of (fields_of image) directory_root) root ∙ root_children h (fields_of image) written room few some

  pub directory_sound : tree_at image directory_root ≡ Some empty_directory
  directory_sound =
      let kinds = ap (λ b. kinds_of_block (reading_of (fields_of image) directory_root b) b) root
      ∙ root_kinds h (fields_of image) written room few some in
      own_level image 1 directory_root empty_directory
      (cond-true _ _ _ (faultless_from image directory_root 1 (ap level_of root ∙ root_level h) kinds)
      ∙ ap (λ cs. option_map (joined (root_only directory_root)) (forest_of (sound_tree image 0) cs)) children
      ∙ ap (λ o. option_map (joined (root_only directory_root))
      (option_and_then (λ t. option_map (joined t) (Some (record { blocks = []; items = [] }))) o)) leaf_sound)
