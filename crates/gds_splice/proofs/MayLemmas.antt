-- What a block of a tree has that may get other entries, and what it keeps in a file in which the blocks below it and
-- the outer ones are as they were.
use Rattle.std.proofs.Common.{◌≡◌, ℕ, zero, suc, List, ◌++◌, Some, sym, ap, subst, ◌∙◌}
use Rattle.std.specs.Prelude.{IsTrue}
use Rattle.std.specs.List.{AllByRecursion}
use Rattle.std.proofs.lemmas.Bool.{or_left, or_right}
use Rattle.std.proofs.lemmas.List.Elements.{All-from_recursion}
use Rattle.gds_block.specs.Item.{Item}
use Rattle.gds_header.specs.Fields.{fields_of, block_of}
use Rattle.gds_law.specs.Visit.{Visit}
use Rattle.gds_sound.specs.Sound.{Tree, sound_tree}
use Rattle.gds_tree.specs.Below.{HasEntries, index_tree}
use Rattle.gds_tree.specs.Keeps.{IsImage, KeepsBlocks}
use Rattle.gds_tree.specs.Lawful.{IsTreeNumber}
use Rattle.gds_tree.specs.Lawful as entries
use Rattle.gds_tree.proofs.BelowLemmas.{all_both}
use Rattle.gds_tree.proofs.KeepLemmas.{lawful_kept, same_limits}
use Rattle.gds_tree.proofs.LawfulLemmas.{each}
use Rattle.gds_tree.proofs.PartLemmas.{numbered, below_numbered}
use Rattle.gds_tree.proofs.ReplaceLemmas.{forest_grown}
use Rattle.gds_tree.proofs.TreeByLemmas.{leaf_by, index_by}
use Rattle.gds_file.specs.Maps.{has_block}
use Rattle.gds_file.specs.Reshape.{KeepsLimits}
use Rattle.gds_file.proofs.ReshapeLemmas.{has_append}
use Rattle.gds_ancestors.specs.Ancestors.{Ancestor, AreAncestors, outer_blocks}
use Rattle.gds_ancestors.proofs.KeptLemmas.{ancestors_kept}
use Rattle.gds_ancestors.proofs.VisitLemmas.{number_of, outer_numbered}
use Rattle.gds_splice.specs.Parted.{HasBelow, MayPart, part_blocks}
use Rattle.gds_splice.proofs.CountedLemmas.{all_has}
use Rattle.gds_splice.proofs.ImageLemmas.{image_of, sizes_of}

-- ---- one file

-- the tree of the block, where its entries stand in it
pub own_tree : (file : List ℕ) (v : Visit) (level : ℕ) (es : List Item) (below : Tree) → IsImage file
    → HasEntries file v level es → HasBelow file v level es below
    → sound_tree file level v ≡ Some (index_tree v below)
own_tree file v zero es below i has h = leaf_by file v es i has ∙ ap (λ t. Some (index_tree v t)) (sym h)
own_tree file v (suc level) es below i has h = index_by file v level es below i has h

below_numbers : (file : List ℕ) (v : Visit) (level : ℕ) (es : List Item) (below : Tree) → IsImage file
    → entries.IsLawful (fields_of file) v level es → HasBelow file v level es below
    → AllByRecursion (IsTreeNumber (fields_of file).total) below.blocks
below_numbers file v zero es below i l h =
    subst (λ (t : Tree). AllByRecursion (IsTreeNumber (fields_of file).total) t.blocks) (sym h) tt
below_numbers file v (suc level) es below i l h =
    below_numbered file i v level v.low es below (numbered file i level) (each (fields_of file) v (suc level) es l) h

module _ (file : List ℕ) (root : Visit) (above : List Ancestor) (v : Visit) (level : ℕ) (es : List Item) (below : Tree)
    (m : MayPart file root above v level es below) where
  pub part_numbered : AllByRecursion (IsTreeNumber (fields_of file).total) (part_blocks above v below)
  part_numbered = (
    number_of file root v above level m.is_root.number m.lead,
    all_both (IsTreeNumber (fields_of file).total) below.blocks (outer_blocks above)
        (below_numbers file v level es below (image_of file m.maps) m.lawful m.has_below)
        (outer_numbered file (image_of file m.maps) root v above level m.is_root.number m.lead),
  )

-- ---- a file in which they stay

kept_by : (old new xs : List ℕ) → ((n : ℕ) → IsTrue (has_block xs n) → block_of new n ≡ block_of old n)
    → KeepsBlocks old new xs
kept_by old new xs same =
    All-from_recursion (λ n. block_of new n ≡ block_of old n) xs
    (all_has (λ n. block_of new n ≡ block_of old n) xs same)

pub record Stays (file : List ℕ) (root : Visit) (above : List Ancestor) (v : Visit) (level : ℕ) (es : List Item)
    (below : Tree) : Type 0 where
  pub lead : AreAncestors file root above v level
  pub lawful : entries.IsLawful (fields_of file) v level es
  pub has_below : HasBelow file v level es below

module _ (old new : List ℕ) (i : IsImage old) (j : IsImage new) (limits : KeepsLimits (fields_of old) (fields_of new))
  where
    below_stays : (v : Visit) (level : ℕ) (es : List Item) (below : Tree) → entries.IsLawful (fields_of old) v level es
        → HasBelow old v level es below → KeepsBlocks old new below.blocks → HasBelow new v level es below
    below_stays v zero es below l h kept = h
    below_stays v (suc level) es below l h kept =
        forest_grown old new v level v.low es below i j (sizes_of old new limits) limits.total
        (each (fields_of old) v (suc level) es l) h kept

    module _ (root : Visit) (above : List Ancestor) (v : Visit) (level : ℕ) (es : List Item) (below : Tree)
        (m : MayPart old root above v level es below)
        (same : (n : ℕ) → IsTrue (has_block (below.blocks ++ outer_blocks above) n) → block_of new n ≡ block_of old n)
      where
        pub stays : Stays new root above v level es below
        stays = record {
          lead = ancestors_kept old new i j (sizes_of old new limits) limits.total root v above level m.lead
              (kept_by old new (outer_blocks above) (λ n there. same n (has_append below.blocks (outer_blocks above) n
              ∙ or_right (has_block below.blocks n) (has_block (outer_blocks above) n) there)));
          lawful = lawful_kept (fields_of old) (fields_of new) v level es
              (same_limits old new i j (sizes_of old new limits)) limits.total m.lawful;
          has_below = below_stays v level es below m.lawful m.has_below
              (kept_by old new below.blocks (λ n there. same n (has_append below.blocks (outer_blocks above) n
              ∙ or_left (has_block below.blocks n) (has_block (outer_blocks above) n) there)));
        }
