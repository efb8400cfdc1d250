-- A block of a tree that goes into pieces, of which the first keeps its number.
use Rattle.std.proofs.Common.{◌≡◌, ℕ, zero, suc, ◌||◌, List, ◌∷◌, ◌++◌, Option}
use Rattle.std.proofs.Common.{refl, sym, ap, ◌∙◌, arith}
use Rattle.std.specs.Prelude.{nat_eq, IsTrue}
use Rattle.std.specs.List.{AllByRecursion}
use Rattle.std.proofs.lemmas.Bool.{or_right}
use Rattle.gds_block.specs.Item.{Item}
use Rattle.gds_header.specs.Fields.{fields_of, block_of}
use Rattle.gds_law.specs.Visit.{Visit}
use Rattle.gds_sound.specs.Sound.{Tree}
use Rattle.gds_sound.proofs.CountLemmas.{count, count_append}
use Rattle.gds_sound.proofs.PathLemmas.{any_counted, counted_any}
use Rattle.gds_tree.specs.Below.{low_behind}
use Rattle.gds_tree.specs.Keeps.{IsImage}
use Rattle.gds_tree.specs.Lawful.{IsTreeNumber}
use Rattle.gds_tree.specs.Lawful as entries
use Rattle.gds_file.specs.FileLaws.{IsLawful}
use Rattle.gds_file.specs.Maps.{has_block}
use Rattle.gds_file.specs.Reshape.{Reshapes}
use Rattle.gds_file.specs.Rewrite.{AreAllBusy}
use Rattle.gds_file.proofs.ReshapeLemmas.{reshapes_in_any_order}
use Rattle.gds_split.specs.Pieces.{GoInto, HasPieces, HasPieceTrees, IsVisitBelow, Piece, numbers_of}
use Rattle.gds_split.proofs.CountLemmas.{any_order, counts}
use Rattle.gds_split.proofs.TreeLemmas.{leaves, over}
use Rattle.gds_ancestors.specs.Ancestors.{Ancestor, IsAncestor, outer_blocks}
use Rattle.gds_splice.specs.Parted.{GoesOn, HasBelow, IsParted, MayPart, WritesPieces, part_blocks}
use Rattle.gds_splice.specs.PartLaws.{GoesIntoPieces}
use Rattle.gds_splice.proofs.CountedLemmas.{at_has, distinct_same, has_same, others_differ}
use Rattle.gds_splice.proofs.ImageLemmas.{image_of}
use Rattle.gds_splice.proofs.MayLemmas.{Stays, part_numbered, stays}
use Rattle.gds_splice.proofs.WritingLemmas.{busy_now, distinct_after, go_after, lawful_after, not_fresh}
use Rattle.gds_splice.proofs.WritingLemmas.{number_grown, numbered_after, others_stay, pieces_stand, reshapes_after}

-- the visit below an ancestor has the bounds of its entry
pub visit_at : (file : List ℕ) (a : Ancestor) (w : Visit) (level : ℕ) → IsAncestor file a w level
    → IsVisitBelow a.visit (low_behind a.visit.low a.front) a.entry.key w
visit_at file a w level k = record {
  same_role = ap (λ (v : Visit). v.role) k.leads;
  lower = ap (λ (v : Visit). v.low) k.leads;
  upper = ap (λ (v : Visit). v.high) k.leads;
}

-- the trees below the entries that lead to the pieces, at any level
pub trees_over : (file : List ℕ) (v w : Visit) (level : ℕ) (low : Option (List ℕ)) (es : List Item)
    (pieces : List Piece) (key : List ℕ) (below : Tree) → IsImage file → IsVisitBelow v low key w
    → entries.IsLawful (fields_of file) w level es → GoInto (fields_of file).total es pieces
    → HasBelow file w level es below → HasPieces file v level low pieces key
    → HasPieceTrees file v level low pieces key below
trees_over file v w zero low es pieces key below i at l g h has = record {
  tree = record { blocks = numbers_of pieces; items = es };
  sound = leaves file i v low es pieces key g has;
  items = sym (ap (λ (t : Tree). t.items) h);
  blocks = any_order (numbers_of pieces) (numbers_of pieces ++ below.blocks)
      (λ n. omega (arith, count_append n (numbers_of pieces) below.blocks, ap (λ (t : Tree). count n t.blocks) h));
}
trees_over file v w (suc level) low es pieces key below i at l g h has =
    over file i v level w low es pieces key below at l g h has

module _ (before after : List ℕ) (root : Visit) (a : Ancestor) (above : List Ancestor) (v : Visit) (level : ℕ)
    (es : List Item) (below : Tree) (fresh : List ℕ) (pieces : List Piece)
    (m : MayPart before root (a ∷ above) v level es below) (g : GoInto (fields_of before).total es pieces)
    (numbers : numbers_of pieces ≡ v.block ∷ fresh) (w : WritesPieces before after fresh level pieces) where
  abbrev others : List ℕ
  others = below.blocks ++ outer_blocks (a ∷ above)

  abbrev all : List ℕ
  all = part_blocks (a ∷ above) v below

  numbered : AllByRecursion (IsTreeNumber (fields_of before).total) all
  numbered = part_numbered before root (a ∷ above) v level es below m

  among : (n : ℕ) → IsTrue (has_block (numbers_of pieces) n) → IsTrue (has_block (fresh ++ all) n)
  among n there =
      counted_any n (fresh ++ all) (omega (
        arith,
        any_counted n (numbers_of pieces) there,
        ap (count n) numbers,
        count_append n fresh all,
      ))

  reshapes : Reshapes before after all (fresh ++ all)
  reshapes = reshapes_after before after fresh level es pieces m.maps g w all numbered m.busy among

  lawful : IsLawful after
  lawful = lawful_after before after fresh level es pieces m.maps g w

  in_all : (n : ℕ) → IsTrue (has_block others n) → IsTrue (has_block all n)
  in_all n there = or_right (nat_eq n v.block) (has_block others n) there

  same : (n : ℕ) → IsTrue (has_block others n) → block_of after n ≡ block_of before n
  same n there =
      others_stay before after fresh level es pieces m.maps g w n
      (at_has (IsTreeNumber (fields_of before).total) all n numbered (in_all n there)).no_map
      (ap (λ xs. has_block xs n) numbers
      ∙ (λ i. others_differ v.block others n m.distinct there i
      || not_fresh before after fresh level es pieces m.maps g w n (m.busy n (in_all n there)) i))

  kept : Stays after root (a ∷ above) v level es below
  kept =
      stays before after (image_of before m.maps) (image_of after lawful) reshapes.limits root (a ∷ above) v level es
      below m same

  trees : HasPieceTrees after a.visit level (low_behind a.visit.low a.front) pieces a.entry.key below
  trees =
      let at = visit_at before a v level m.lead.0 in
      trees_over after a.visit v level (low_behind a.visit.low a.front) es pieces a.entry.key below
      (image_of after lawful) at kept.lawful (go_after before after fresh level es pieces m.maps g w) kept.has_below
      (pieces_stand before after fresh level es pieces m.maps g w a.visit v (low_behind a.visit.low a.front)
      a.entry.key at m.lawful)

  abbrev now : List ℕ
  now = trees.tree.blocks ++ outer_blocks (a ∷ above)

  order : (n : ℕ) → count n (fresh ++ all) ≡ count n now
  order n =
      omega (
        arith,
        count_append n fresh all,
        count_append n (v.block ∷ below.blocks) (outer_blocks (a ∷ above)),
        count_append n trees.tree.blocks (outer_blocks (a ∷ above)),
        counts trees.tree.blocks (numbers_of pieces ++ below.blocks) trees.blocks n,
        count_append n (numbers_of pieces) below.blocks,
        ap (count n) numbers,
      )

  busy : AreAllBusy after now
  busy n there =
      busy_now before after all (fresh ++ all) reshapes
      (numbered_after before after fresh level es pieces m.maps g w all numbered m.busy among) n
      (has_same (fresh ++ all) now order n ∙ there)

  parted : IsParted after root a above v level pieces below
  parted = record {
    is_root = record {
      level = m.is_root.level;
      number = number_grown (fields_of before).total (fields_of after).total root.block reshapes.limits.total
          m.is_root.number;
    };
    lead = kept.lead;
    child_entries = es;
    lawful = kept.lawful;
    go_into = go_after before after fresh level es pieces m.maps g w;
    over = trees;
    distinct = distinct_same (fresh ++ all) now order
        (distinct_after before after fresh level es pieces m.maps g w all numbered m.busy among m.distinct);
    busy = busy;
    maps = lawful;
  }

  pub goes_on : GoesOn before after root a above v level pieces below
  unfolding parted
  goes_on = record {
    parted = parted;
    reshapes = reshapes_in_any_order before after all (fresh ++ all) all now reshapes (λ n. refl)
        (has_same (fresh ++ all) now order);
  }

pub goes_into_pieces : GoesIntoPieces
goes_into_pieces before after root a above v level es below fresh pieces m g numbers w =
    goes_on before after root a above v level es below fresh pieces m g numbers w
