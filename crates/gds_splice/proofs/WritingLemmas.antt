-- Pieces that are written, those with new numbers into free blocks.
use Rattle.std.proofs.Common.{◌≡◌, ◌≢◌, ℕ, ◌%◌, ◌≤◌, true, false, List, [], ◌∷◌, ◌++◌, Option}
use Rattle.std.proofs.Common.{refl, sym, subst, ◌∙◌, arith}
use Rattle.std.specs.Prelude.{nat_eq, IsTrue}
use Rattle.std.specs.List.{AllByRecursion, IsDistinct}
use Rattle.std.proofs.lemmas.Bool.{or_left, both_ways, false_from_ne_true}
use Rattle.std.proofs.lemmas.List.Elements.{All-from_recursion, recursion_from_All}
use Rattle.gds_block.specs.Item.{Item}
use Rattle.gds_header.specs.declared.header.Header.{Header}
use Rattle.gds_header.specs.Fields.{fields_of, block_of}
use Rattle.gds_law.specs.Visit.{Visit}
use Rattle.gds_tree.specs.Lawful.{IsTreeNumber}
use Rattle.gds_tree.specs.Lawful as entries
use Rattle.gds_tree.proofs.BelowLemmas.{all_both, all_weaker}
use Rattle.gds_tree.proofs.KeepLemmas.{lawful_kept, same_limits}
use Rattle.gds_file.specs.FileLaws.{IsLawful}
use Rattle.gds_file.specs.Maps.{has_block, is_busy}
use Rattle.gds_file.specs.Reshape.{KeepsLimits, Reshapes}
use Rattle.gds_file.specs.Rewrite.{AreNoMaps, AreAllBusy}
use Rattle.gds_file.proofs.ReshapeLemmas.{reshapes_compose, reshapes_with_more}
use Rattle.gds_file.proofs.RewriteLemmas.{rewrite_is_reshape, rewrite_keeps_header, rewrite_stays_lawful}
use Rattle.gds_split.specs.Pieces.{GoInto, HasPieces, IsVisitBelow, Piece, numbers_of}
use Rattle.gds_split.proofs.WrittenLemmas.{pieces_there}
use Rattle.gds_splice.specs.Parted.{TakenAll, WritesPieces}
use Rattle.gds_splice.specs.PartLaws.{PiecesAreThere}
use Rattle.gds_splice.proofs.CountedLemmas.{at_has, distinct_apart}
use Rattle.gds_splice.proofs.ImageLemmas.{image_of, sizes_of}
use Rattle.gds_splice.proofs.TakenLemmas.{taken}

-- ---- blocks of trees that are there in a file with more blocks

pub number_grown : (few many n : ℕ) → few ≤ many → IsTreeNumber few n → IsTreeNumber many n
number_grown few many n more k =
    record { positive = k.positive; within = omega (arith, k.within, more); no_map = k.no_map }

pub go_grown : (few many : ℕ) (es : List Item) (pieces : List Piece) → few ≤ many → GoInto few es pieces
    → GoInto many es pieces
go_grown few many es pieces more g = record {
  whole = g.whole;
  any = g.any;
  some = g.some;
  numbered = All-from_recursion (λ (p : Piece). IsTreeNumber many p.number) pieces
      (all_weaker (λ (p : Piece). IsTreeNumber few p.number) (λ (p : Piece). IsTreeNumber many p.number) pieces
      (λ p k. number_grown few many p.number more k)
      (recursion_from_All (λ (p : Piece). IsTreeNumber few p.number) pieces g.numbered));
}

-- the numbers of pieces
pub piece_numbers : (total : ℕ) (es : List Item) (pieces : List Piece) → GoInto total es pieces
    → AllByRecursion (IsTreeNumber total) (numbers_of pieces)
piece_numbers total es pieces g =
    each pieces (recursion_from_All (λ (p : Piece). IsTreeNumber total p.number) pieces g.numbered)
  where
    each : (ps : List Piece) → AllByRecursion (λ (p : Piece). IsTreeNumber total p.number) ps
        → AllByRecursion (IsTreeNumber total) (numbers_of ps)
    each [] all = tt
    each (p ∷ ps) all = (all.0, each ps all.1)

-- blocks that a change leaves are busy afterwards
pub busy_now : (before after : List ℕ) (old new : List ℕ) → Reshapes before after old new
    → AllByRecursion (IsTreeNumber (fields_of after).total) new → AreAllBusy after new
busy_now before after old new r numbered n there =
    let k = at_has (IsTreeNumber (fields_of after).total) new n numbered there in
    r.busy n k.within k.no_map ∙ or_left (has_block new n) _ there

-- ---- the pieces of one block

module _ (before after fresh : List ℕ) (level : ℕ) (es : List Item) (pieces : List Piece) (maps : IsLawful before)
    (g : GoInto (fields_of before).total es pieces) (w : WritesPieces before after fresh level pieces) where
  pub were_taken : TakenAll before w.mid fresh
  were_taken = taken before w.mid fresh maps w.taken

  proper : AreNoMaps (numbers_of pieces)
  proper n there =
      (at_has (IsTreeNumber (fields_of before).total) (numbers_of pieces) n
      (piece_numbers (fields_of before).total es pieces g) there).no_map

  pub lawful_after : IsLawful after
  lawful_after = rewrite_stays_lawful w.mid after (numbers_of pieces) were_taken.lawful w.rewrites proper

  same_header : fields_of after ≡ fields_of w.mid
  same_header = rewrite_keeps_header w.mid after (numbers_of pieces) w.rewrites

  pub limits_after : KeepsLimits (fields_of before) (fields_of after)
  limits_after = subst (KeepsLimits (fields_of before)) (sym same_header) were_taken.reshapes.limits

  pub go_after : GoInto (fields_of after).total es pieces
  go_after = go_grown (fields_of before).total (fields_of after).total es pieces limits_after.total g

  -- the other blocks of trees stay
  pub others_stay : (n : ℕ) → n % 512 ≢ 0 → has_block (numbers_of pieces) n ≡ false
      → block_of after n ≡ block_of before n
  others_stay n no_map none = w.rewrites.others n none ∙ were_taken.others n no_map

  -- what is busy isn't among the new numbers
  pub not_fresh : (n : ℕ) → is_busy before n ≡ true → has_block fresh n ≡ false
  not_fresh n busy =
      false_from_ne_true (has_block fresh n)
      (λ there. both_ways (is_busy before n) (were_taken.were_free n there) busy)

  pub pieces_stand : (v u : Visit) (low : Option (List ℕ)) (key : List ℕ) → IsVisitBelow v low key u
      → entries.IsLawful (fields_of before) u level es → HasPieces after v level low pieces key
  pieces_stand v u low key at l =
      let i = image_of before maps in
      let j = image_of after lawful_after in
      pieces_there after j v level u low es pieces key at
      (lawful_kept (fields_of before) (fields_of after) u level es
      (same_limits before after i j (sizes_of before after limits_after)) limits_after.total l) go_after w.each

  -- a change of some busy blocks of trees, those that are written among them, to these and the new ones
  module _ (all : List ℕ) (numbered : AllByRecursion (IsTreeNumber (fields_of before).total) all)
      (busy : AreAllBusy before all)
      (among : (n : ℕ) → IsTrue (has_block (numbers_of pieces) n) → IsTrue (has_block (fresh ++ all) n)) where
    reshapes_mid : Reshapes before w.mid all (fresh ++ all)
    reshapes_mid =
        reshapes_with_more before w.mid [] fresh all were_taken.reshapes busy (λ n there. refl)

    numbered_mid : AllByRecursion (IsTreeNumber (fields_of w.mid).total) (fresh ++ all)
    numbered_mid =
        let more = were_taken.reshapes.limits.total in
        all_weaker (IsTreeNumber (fields_of before).total) (IsTreeNumber (fields_of w.mid).total) (fresh ++ all)
        (λ n k. number_grown (fields_of before).total (fields_of w.mid).total n more k)
        (all_both (IsTreeNumber (fields_of before).total) fresh all
        (recursion_from_All (IsTreeNumber (fields_of before).total) fresh were_taken.numbered) numbered)

    pub reshapes_after : Reshapes before after all (fresh ++ all)
    reshapes_after =
        reshapes_compose before w.mid after all (fresh ++ all) (fresh ++ all) reshapes_mid
        (rewrite_is_reshape w.mid after (numbers_of pieces) (fresh ++ all) w.rewrites proper among
        (busy_now before w.mid all (fresh ++ all) reshapes_mid numbered_mid))

    pub numbered_after : AllByRecursion (IsTreeNumber (fields_of after).total) (fresh ++ all)
    numbered_after =
        subst (λ (h : Header). AllByRecursion (IsTreeNumber h.total) (fresh ++ all)) (sym same_header) numbered_mid

    pub distinct_after : IsDistinct nat_eq all → IsDistinct nat_eq (fresh ++ all)
    distinct_after once =
        distinct_apart fresh all were_taken.distinct once
        (λ n there. not_fresh n (busy n there))

pub pieces_are_there : PiecesAreThere
pieces_are_there before after fresh v w level low es pieces key maps at l g written =
    pieces_stand before after fresh level es pieces maps g written v w low key at l
