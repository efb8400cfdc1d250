-- A block of a tree that is written with other entries.
use Rattle.std.proofs.Common.{◌≡◌, ℕ, ◌+◌, ◌%◌, ◌≢◌, ◌||◌, false, List, [], ◌∷◌, ◌++◌, length, Some}
use Rattle.std.proofs.Common.{refl, sym, ap, subst, ◌∙◌, arith}
use Rattle.std.specs.Prelude.{nat_eq, IsTrue}
use Rattle.std.specs.List.{IsDistinct}
use Rattle.std.proofs.lemmas.Bool.{or_left, eq-eqb}
use Rattle.gds_block.specs.Item.{Item}
use Rattle.gds_header.specs.Fields.{fields_of}
use Rattle.gds_law.specs.Visit.{Visit}
use Rattle.gds_sound.specs.Sound.{Tree, sound_tree}
use Rattle.gds_sound.proofs.CountLemmas.{count, count_append}
use Rattle.gds_sound.proofs.TreeLemmas.{own_level}
use Rattle.gds_tree.specs.Below.{HasEntries, index_tree}
use Rattle.gds_tree.proofs.FaultlessLemmas.{written_entries}
use Rattle.gds_tree.proofs.KeepLemmas.{lawful_kept, same_limits}
use Rattle.gds_file.specs.FileLaws.{IsLawful}
use Rattle.gds_file.specs.Maps.{has_block}
use Rattle.gds_file.specs.Reshape.{Reshapes}
use Rattle.gds_file.specs.Rewrite.{Rewrites, AreNoMaps}
use Rattle.gds_file.proofs.ReshapeLemmas.{reshapes_in_any_order}
use Rattle.gds_file.proofs.RewriteLemmas.{rewrite_is_reshape, rewrite_stays_lawful}
use Rattle.gds_ancestors.specs.Ancestors.{Ancestor, AreAncestors, outer_blocks, tree_with, whole_with}
use Rattle.gds_ancestors.proofs.ContentLemmas.{whole_items}
use Rattle.gds_ancestors.proofs.UpwardLemmas.{tree_of_root}
use Rattle.gds_splice.specs.Parted.{MayPart, TreeBecomes, items_around, part_blocks}
use Rattle.gds_splice.specs.PartLaws.{BlockIsThere, StaysOne}
use Rattle.gds_splice.proofs.CountedLemmas.{distinct_same, has_same, others_differ, same_one}
use Rattle.gds_splice.proofs.ImageLemmas.{image_of, sizes_of}
use Rattle.gds_splice.proofs.MayLemmas.{own_tree, part_numbered, stays}

-- ---- the tree of the root by that of the block

pub whole_counts : (above : List Ancestor) (inner : Tree) (n : ℕ)
    → count n (whole_with above inner).blocks ≡ count n inner.blocks + count n (outer_blocks above)
whole_counts [] inner n = omega arith
whole_counts (a ∷ above) inner n =
    omega (
      arith,
      whole_counts above (tree_with a inner) n,
      count_append n (a.left.blocks ++ inner.blocks) a.right.blocks,
      count_append n a.left.blocks inner.blocks,
      count_append n (a.left.blocks ++ a.right.blocks) (outer_blocks above),
      count_append n a.left.blocks a.right.blocks,
    )

-- where the blocks of the block's tree and the outer ones are distinct and were made of the old ones
pub becomes_over : (before after : List ℕ) (root : Visit) (above : List Ancestor) (v : Visit) (level : ℕ)
    (inner : Tree) (old now : List ℕ) (items : List Item) → IsLawful after → AreAncestors after root above v level
    → sound_tree after level v ≡ Some inner → inner.items ≡ items → IsDistinct nat_eq now
    → Reshapes before after old now
    → ((n : ℕ) → count n now ≡ count n inner.blocks + count n (outer_blocks above))
    → TreeBecomes before after root old (items_around above items)
becomes_over before after root above v level inner old now items l lead sound is once r counts =
    let whole : Tree = whole_with above inner in
    let same : (n : ℕ) → count n now ≡ count n whole.blocks =
    λ n. omega (arith, counts n, whole_counts above inner n) in
    record {
      tree = whole;
      stands = record {
        sound = own_level after (length above + level) root whole
            (tree_of_root after (image_of after l) root v above level inner lead sound);
        distinct = distinct_same now whole.blocks same once;
      };
      items_are = whole_items above inner ∙ ap (items_around above) is;
      reshapes = reshapes_in_any_order before after old now old whole.blocks r (λ n. refl)
          (has_same now whole.blocks same);
      lawful = l;
    }

-- ---- the block alone is written

module _ (before after : List ℕ) (root : Visit) (above : List Ancestor) (v : Visit) (level : ℕ) (es : List Item)
    (below : Tree) (m : MayPart before root above v level es below) (r : Rewrites before after (v.block ∷ [])) where
  abbrev blocks : List ℕ
  blocks = part_blocks above v below

  proper : AreNoMaps (v.block ∷ [])
  proper n there =
      subst (λ k. k % 512 ≢ 0) (sym (same_one n v.block there))
      (part_numbered before root above v level es below m).0.no_map

  among : (n : ℕ) → IsTrue (has_block (v.block ∷ []) n) → IsTrue (has_block blocks n)
  among n there =
      or_left (nat_eq n v.block) (has_block (below.blocks ++ outer_blocks above) n)
      (eq-eqb n v.block (same_one n v.block there))

  reshapes : Reshapes before after blocks blocks
  reshapes = rewrite_is_reshape before after (v.block ∷ []) blocks r proper among m.busy

  lawful : IsLawful after
  lawful = rewrite_stays_lawful before after (v.block ∷ []) m.maps r proper

  module _ (has : HasEntries after v level es) where
    pub becomes : TreeBecomes before after root blocks (items_around above below.items)
    becomes =
        let s = stays before after (image_of before m.maps) (image_of after lawful) reshapes.limits root above v level
        es below m (λ n there. r.others n
        (ap (λ t. t || false) (others_differ v.block (below.blocks ++ outer_blocks above) n m.distinct there))) in
        becomes_over before after root above v level (index_tree v below) blocks blocks below.items lawful s.lead
        (own_tree after v level es below (image_of after lawful) has s.has_below) refl m.distinct reshapes
        (λ n. omega (arith, count_append n (v.block ∷ below.blocks) (outer_blocks above)))

pub stays_one : StaysOne
stays_one before after root above v level es below m r has = becomes before after root above v level es below m r has

pub block_is_there : BlockIsThere
block_is_there before after root above v level es below m r p =
    let l = lawful before after root above v level es below m r in
    let k = reshapes before after root above v level es below m r in
    let i = image_of before m.maps in
    let j = image_of after l in
    let within = (part_numbered before root above v level es below m).0.within in
    written_entries after v level p.tn es j (omega (arith, within, k.limits.total)) p.bytes
    (lawful_kept (fields_of before) (fields_of after) v level es
    (same_limits before after i j (sizes_of before after k.limits)) k.limits.total m.lawful) p.fits m.due p.past p.small
