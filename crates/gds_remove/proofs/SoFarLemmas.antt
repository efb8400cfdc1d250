-- A range that was cut out of the trees below the first entries of an index block.
use Rattle.std.proofs.Common.{◌≡◌, ◌≢◌, ◌≤◌, ℕ, suc, false, List, [], ◌++◌, length}
use Rattle.std.proofs.Common.{Some, inl, inr, refl, sym, ap, ◌∙◌, subst, arith}
use Rattle.std.specs.List.{AllByRecursion}
use Rattle.std.proofs.lemmas.Bool.{false≢true}
use Rattle.gds_block.specs.Item.{Item}
use Rattle.gds_header.specs.Fields.{fields_of}
use Rattle.gds_law.specs.Visit.{Visit}
use Rattle.gds_pack.specs.Packed.{packed_size}
use Rattle.gds_sound.specs.Sound.{Tree, joined}
use Rattle.gds_sound.proofs.CountLemmas.{count}
use Rattle.gds_split.specs.Pieces.{starred}
use Rattle.gds_tree.specs.Below.{HasEntries, index_tree, low_behind, trees_below}
use Rattle.gds_tree.specs.Keeps.{IsLowerLow}
use Rattle.gds_tree.specs.Lawful.{IsAboveLow, IsLawfulEntry, IsLawfulRest, IsPointer, IsTreeNumber}
use Rattle.gds_tree.specs.Lawful as entries
use Rattle.gds_tree.proofs.PartLemmas.{lawful_at}
use Rattle.gds_tree.proofs.TreeByLemmas.{IndexBy, by_index}
use Rattle.gds_splice.proofs.ImageLemmas.{image_of}
use Rattle.gds_remove.specs.Cut.{Leaves, StandsBelow}
use Rattle.gds_remove.specs.Range.{IsLeft, Left, Range, left_by}
use Rattle.gds_remove.proofs.KeptLemmas.{AreKept, starred_index}
use Rattle.gds_remove.proofs.LeavesLemmas.{leaves_same}
use Rattle.gds_remove.proofs.BoundLemmas.{lower_same}

-- ---- how far the range was cut out

-- The range was cut out of the trees below the first of the entries, of which some are kept, and the trees below the
-- rest stand as they did.
pub record CutSoFar (before now : List ℕ) (v : Visit) (level : ℕ) (t : Tree) (range : Range)
    (done kept rest : List Item) (left : Left) : Type 0 where
  pub has : HasEntries before v (suc level) (done ++ rest)
  pub was : Tree
  pub behind : Tree
  pub tree : Tree
  pub whole : t ≡ index_tree v (joined was behind)
  pub tree_is : trees_below now v level v.low kept ≡ Some tree
  pub still : trees_below now v level (low_behind v.low done) rest ≡ Some behind
  pub items_are : tree.items ≡ left_by range was.items
  pub some : kept ≢ [] → tree.items ≢ []
  pub once : (n : ℕ) → count n tree.blocks ≤ 1
  pub leaves : Leaves before now was.blocks tree.blocks
  pub each_kept : AllByRecursion (IsLawfulEntry (fields_of before) v (suc level)) kept
  pub are_kept : AreKept (fields_of before) v level (packed_size (done ++ rest)) (kept ++ rest)
  pub lower : rest ≢ [] → IsLowerLow (low_behind v.low kept) (low_behind v.low done)
  pub few : length kept ≤ length done
  pub all : length kept ≡ length done → kept ≡ done
  pub left_is : rest ≢ [] → IsLeft range (low_behind v.low done) left

-- ---- at the beginning

abbrev pub none : Tree
none = record { blocks = []; items = [] }

module _ (before : List ℕ) (v : Visit) (level : ℕ) (t : Tree) (s : StandsBelow before v (suc level) t) where
  pub entries_at : IndexBy before v level t
  entries_at = by_index before v level t (image_of before s.maps) s.number.within s.sound

  pub begun : (range : Range) (es : List Item) → es ≡ entries_at.es
      → CutSoFar before before v level t range [] [] es (record { low = range.low; high = range.high; past = false })
  begun range es is =
      let p = entries_at in
      let has : HasEntries before v (suc level) es = subst (HasEntries before v (suc level)) (sym is) p.has in
      let lawful = lawful_at before v (suc level) es has in
      let star : starred es ≡ es = starred_index [] es lawful.packable in
      record {
        has = has;
        was = none;
        behind = p.below;
        tree = none;
        whole = p.is;
        tree_is = refl;
        still = ap (trees_below before v level v.low) is ∙ p.trees;
        items_are = refl;
        some = λ k. absurd (k refl);
        once = λ n. omega arith;
        leaves = leaves_same before [] s.maps (λ n there. absurd (false≢true there));
        each_kept = tt;
        are_kept = inr (
          subst (entries.IsLawful (fields_of before) v (suc level)) (sym star) lawful,
          omega (arith, ap packed_size star),
        );
        lower = λ k. lower_same v.low;
        few = omega arith;
        all = λ k. refl;
        left_is = λ k. record { low = inl refl; high = refl; past = λ past. absurd (false≢true past) };
      }
