-- An index block whose child has gone into pieces.
use Rattle.std.proofs.Common.{◌≡◌, ℕ, suc, ◌+◌, ◌-◌, ◌≤◌, List, [], ◌∷◌, ◌++◌, length, Some, inr}
use Rattle.std.proofs.Common.{refl, sym, ap, subst, ◌∙◌, arith, append_assoc}
use Rattle.std.proofs.Math.Nat.{mul-le-mul_right}
use Rattle.gds_block.specs.Item.{Item}
use Rattle.gds_header.specs.declared.header.Header.{Header}
use Rattle.gds_header.specs.Fields.{fields_of}
use Rattle.gds_law.specs.Visit.{Visit}
use Rattle.gds_pack.specs.Packed.{packed_size, key_behind}
use Rattle.gds_pack.proofs.SizeLemmas.{packed_size-front, packed_size-back}
use Rattle.gds_sound.specs.Sound.{Tree}
use Rattle.gds_sound.proofs.CountLemmas.{count, count_append}
use Rattle.m_key.specs.Key.{AtMost}
use Rattle.gds_tree.specs.Around.{around}
use Rattle.gds_tree.specs.Below.{trees_below}
use Rattle.gds_tree.specs.Keeps.{IsImage}
use Rattle.gds_tree.specs.Lawful as entries
use Rattle.gds_tree.specs.RightBlock.{IsDueLevel}
use Rattle.gds_tree.proofs.BelowLemmas.{low_append}
use Rattle.gds_tree.proofs.PartLemmas.{lawful_at}
use Rattle.gds_tree.proofs.WidenLemmas.{most_same}
use Rattle.gds_file.specs.Maps.{has_block}
use Rattle.gds_file.proofs.ReshapeLemmas.{reshapes_compose, reshapes_in_any_order}
use Rattle.gds_split.specs.Pieces.{Piece, pieces_above}
use Rattle.gds_split.proofs.AboveLemmas.{above_count, last_key, parted}
use Rattle.gds_split.proofs.SizeLemmas.{few_between}
use Rattle.gds_ancestors.specs.Ancestors.{Ancestor, outer_blocks, tree_with}
use Rattle.gds_ancestors.proofs.ContentLemmas.{whole_items}
use Rattle.gds_ancestors.proofs.SpliceLemmas.{spliced}
use Rattle.gds_splice.specs.Parted.{HasRoom, IsParted, MayPart, TreeBecomes, items_around, part_blocks}
use Rattle.gds_splice.specs.PartLaws.{AncestorBecomes, AncestorMayPart, BecomesBehind, PartedHasRoom}
use Rattle.gds_splice.proofs.CountedLemmas.{distinct_same, has_same}
use Rattle.gds_splice.proofs.ImageLemmas.{image_of}
use Rattle.gds_splice.proofs.PieceLemmas.{visit_at}

module _ (file : List ℕ) (root : Visit) (a : Ancestor) (above : List Ancestor) (child : Visit) (level : ℕ)
    (pieces : List Piece) (below : Tree) (p : IsParted file root a above child level pieces below) where
  abbrev h : Header
  h = fields_of file

  abbrev put : List Item
  put = pieces_above level pieces a.entry.key

  i : IsImage file
  i = image_of file p.maps

  was_lawful : entries.IsLawful h a.visit (suc level) (a.front ++ a.entry ∷ a.back)
  was_lawful = lawful_at file a.visit (suc level) (a.front ++ a.entry ∷ a.back) p.lead.0.has

  now_lawful : entries.IsLawful h a.visit (suc level) (a.front ++ put ++ a.back)
  now_lawful =
      subst (entries.IsLawful h a.visit (suc level)) (sym (append_assoc a.front put a.back))
      (parted h a.visit level a.entry a.back i.limits child a.front p.child_entries pieces was_lawful
      (visit_at file a child level p.lead.0) p.lawful p.go_into).lawful

  -- ---- its entries and what stands below them

  no_higher : AtMost (key_behind [] put) a.entry.key
  no_higher =
      subst (λ key. AtMost key a.entry.key)
      (sym (last_key h.total level p.child_entries pieces a.entry.key p.go_into)) (most_same a.entry.key)

  abbrev whole : Tree
  whole = around a.left p.over.tree a.right

  below_now : trees_below file a.visit level a.visit.low (a.front ++ put ++ a.back) ≡ Some whole
  below_now =
      spliced file a.visit level a.front (a.entry ∷ []) put a.back a.left p.over.tree a.right i
      (subst (entries.IsLawful h a.visit (suc level)) (sym (append_assoc a.front (a.entry ∷ []) a.back)) was_lawful)
      now_lawful (inr no_higher) p.lead.0.left p.over.sound
      (ap (λ low. trees_below file a.visit level low a.back) (low_append a.visit.low a.front (a.entry ∷ []))
      ∙ p.lead.0.right)

  -- ---- its blocks

  order : (n : ℕ) → count n (p.over.tree.blocks ++ outer_blocks (a ∷ above))
      ≡ count n (part_blocks above a.visit whole)
  order n =
      omega (
        arith,
        count_append n p.over.tree.blocks (outer_blocks (a ∷ above)),
        count_append n (a.left.blocks ++ a.right.blocks) (outer_blocks above),
        count_append n a.left.blocks a.right.blocks,
        count_append n whole.blocks (outer_blocks above),
        count_append n (a.left.blocks ++ p.over.tree.blocks) a.right.blocks,
        count_append n a.left.blocks p.over.tree.blocks,
      )

  same_blocks : (n : ℕ) → has_block (p.over.tree.blocks ++ outer_blocks (a ∷ above)) n
      ≡ has_block (part_blocks above a.visit whole) n
  same_blocks = has_same (p.over.tree.blocks ++ outer_blocks (a ∷ above)) (part_blocks above a.visit whole) order

  pub may_part : MayPart file root above a.visit (suc level) (a.front ++ put ++ a.back) whole
  may_part = record {
    is_root = p.is_root;
    lead = p.lead.1;
    due = subst (IsDueLevel a.visit.level) p.lead.0.has.level p.lead.0.has.right.head.level;
    lawful = now_lawful;
    has_below = below_now;
    distinct = distinct_same (p.over.tree.blocks ++ outer_blocks (a ∷ above)) (part_blocks above a.visit whole) order
        p.distinct;
    busy = λ n there. p.busy n (same_blocks n ∙ there);
    maps = p.maps;
  }

  -- ---- what becomes of the tree

  same_items : items_around above whole.items ≡ items_around (a ∷ above) below.items
  same_items =
      sym (whole_items above (tree_with a p.over.tree)) ∙ whole_items (a ∷ above) p.over.tree
      ∙ ap (items_around (a ∷ above)) p.over.items

  pub becomes : (after : List ℕ)
      → TreeBecomes file after root (part_blocks above a.visit whole) (items_around above whole.items)
      → TreeBecomes file after root (p.over.tree.blocks ++ outer_blocks (a ∷ above))
      (items_around (a ∷ above) below.items)
  becomes after b = record {
    tree = b.tree;
    stands = b.stands;
    items_are = b.items_are ∙ same_items;
    reshapes = reshapes_in_any_order file after (part_blocks above a.visit whole) b.tree.blocks
        (p.over.tree.blocks ++ outer_blocks (a ∷ above)) b.tree.blocks b.reshapes (λ n. sym (same_blocks n))
        (λ n. refl);
    lawful = b.lawful;
  }

  -- ---- how many bytes its entries take

  pub has_room : length pieces ≤ 3 → HasRoom h a put
  has_room few =
      let fits = p.lead.0.has.right.head.fits in
      let keys = i.limits.keys_fit in
      let size = (parted h a.visit level a.entry a.back i.limits child a.front p.child_entries pieces was_lawful
      (visit_at file a child level p.lead.0) p.lawful p.go_into).size in
      record {
        front = omega (arith, fits, packed_size-front a.front (a.entry ∷ a.back));
        put_fits = omega (
          arith,
          keys,
          few_between h a.visit level a.front put a.back now_lawful (omega (
            arith,
            few,
            above_count level pieces a.entry.key,
          )),
        );
        back = omega (
          arith,
          fits,
          packed_size-back a.front (a.entry ∷ a.back),
          packed_size-back (a.entry ∷ []) a.back,
        );
        more = omega (
          arith,
          size,
          ap packed_size (append_assoc a.front put a.back),
          mul-le-mul_right {m = length pieces - 1} {n = 2} (8 + h.key_max) (omega (arith, few)),
        );
      }

pub ancestor_may_part : AncestorMayPart
ancestor_may_part file root a above child level pieces below p =
    may_part file root a above child level pieces below p

pub ancestor_becomes : AncestorBecomes
ancestor_becomes before after root a above child level pieces below p b =
    becomes before root a above child level pieces below p after b

pub parted_has_room : PartedHasRoom
parted_has_room file root a above child level pieces below p few =
    has_room file root a above child level pieces below p few

pub becomes_behind : BecomesBehind
becomes_behind before mid after root first second items r b = record {
  tree = b.tree;
  stands = b.stands;
  items_are = b.items_are;
  reshapes = reshapes_compose before mid after first second b.tree.blocks r b.reshapes;
  lawful = b.lawful;
}
