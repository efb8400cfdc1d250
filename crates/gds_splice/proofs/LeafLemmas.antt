-- A level-0 block of a tree gets other entries.
use Rattle.std.proofs.Common.{◌≡◌, ℕ, List, [], Some, refl, sym, ap, subst, ◌∙◌, arith}
use Rattle.gds_block.specs.Item.{Item}
use Rattle.gds_header.specs.Fields.{fields_of}
use Rattle.gds_law.specs.Visit.{Visit}
use Rattle.gds_sound.specs.Sound.{Tree, sound_tree}
use Rattle.gds_sound.proofs.CountLemmas.{count}
use Rattle.gds_tree.specs.Lawful as entries
use Rattle.gds_tree.specs.RightBlock.{IsDueLevel}
use Rattle.gds_tree.proofs.TreeByLemmas.{by_leaf}
use Rattle.gds_file.specs.FileLaws.{IsLawful, StandsAt}
use Rattle.gds_file.specs.Rewrite.{AreAllBusy}
use Rattle.gds_file.proofs.ReshapeLemmas.{reshapes_in_any_order}
use Rattle.gds_split.proofs.CountLemmas.{any_order, counts}
use Rattle.gds_ancestors.specs.Ancestors.{Ancestor, AreAncestors, whole_with}
use Rattle.gds_ancestors.proofs.VisitLemmas.{number_of}
use Rattle.gds_splice.specs.Parted.{IsRoot, LeafParts, part_blocks}
use Rattle.gds_splice.specs.PartLaws.{BecomesInAnyOrder, LeafMayPart}
use Rattle.gds_splice.proofs.CountedLemmas.{distinct_same, has_same}
use Rattle.gds_splice.proofs.ImageLemmas.{image_of}
use Rattle.gds_splice.proofs.StaysLemmas.{whole_counts}

module _ (file : List ℕ) (root v : Visit) (above : List Ancestor) (inner : Tree) (es : List Item)
    (is_root : IsRoot file root) (maps : IsLawful file) (lead : AreAncestors file root above v 0)
    (sound : sound_tree file 0 v ≡ Some inner) where
  abbrev whole : Tree
  whole = whole_with above inner

  abbrev own : Tree
  own = record { blocks = []; items = es }

  order : (n : ℕ) → count n whole.blocks ≡ count n (part_blocks above v own)
  order n =
      let leaf = by_leaf file v inner (image_of file maps) (number_of file root v above 0 is_root.number lead).within
      sound in
      omega (arith, whole_counts above inner n, ap (λ (t : Tree). count n t.blocks) leaf.is)

  pub leaf_parts : StandsAt file root whole → AreAllBusy file whole.blocks → entries.IsLawful (fields_of file) v 0 es
      → LeafParts file root above v es whole.blocks
  leaf_parts stands busy l =
      let leaf = by_leaf file v inner (image_of file maps) (number_of file root v above 0 is_root.number lead).within
      sound in
      record {
        may = record {
          is_root = is_root;
          lead = lead;
          due = subst (IsDueLevel v.level) leaf.has.level leaf.has.right.head.level;
          lawful = l;
          has_below = refl;
          distinct = distinct_same whole.blocks (part_blocks above v own) order stands.distinct;
          busy = λ n there. busy n (has_same whole.blocks (part_blocks above v own) order n ∙ there);
          maps = maps;
        };
        order = any_order (part_blocks above v own) whole.blocks (λ n. sym (order n));
      }

pub leaf_may_part : LeafMayPart
leaf_may_part file root v above inner es is_root maps lead sound stands busy l =
    leaf_parts file root v above inner es is_root maps lead sound stands busy l

pub becomes_in_any_order : BecomesInAnyOrder
becomes_in_any_order before after root old others items order b = record {
  tree = b.tree;
  stands = b.stands;
  items_are = b.items_are;
  reshapes = reshapes_in_any_order before after old b.tree.blocks others b.tree.blocks b.reshapes
      (has_same old others (counts old others order)) (λ n. refl);
  lawful = b.lawful;
}
