-- A root that goes into pieces, all of which take free blocks.
use Rattle.std.proofs.Common.{◌≡◌, ℕ, suc, ◌%◌, ◌<◌, ◌≢◌, ◌||◌, false, List, [], ◌∷◌, ◌++◌, None}
use Rattle.std.proofs.Common.{refl, sym, ap, subst, ◌∙◌, arith}
use Rattle.std.specs.Prelude.{nat_eq, IsTrue, All}
use Rattle.std.specs.List.{AllByRecursion}
use Rattle.std.proofs.lemmas.Bool.{or_left, or_right, both_ways, eq-eqb, ne_eqb}
use Rattle.std.proofs.lemmas.List.Elements.{All-from_recursion, recursion_from_All}
use Rattle.gds_block.specs.Item.{Item}
use Rattle.gds_header.specs.declared.header.Header.{Header}
use Rattle.gds_header.specs.Fields.{fields_of, block_of}
use Rattle.gds_law.specs.Visit.{Visit}
use Rattle.gds_pack.specs.Packed.{block_bytes, packed_size}
use Rattle.gds_sound.specs.Sound.{Tree}
use Rattle.gds_sound.proofs.CountLemmas.{count_append}
use Rattle.gds_tree.specs.Below.{HasEntries, index_tree}
use Rattle.gds_tree.specs.Lawful.{IsTreeNumber}
use Rattle.gds_tree.specs.RightBlock.{IsDueLevel}
use Rattle.gds_tree.proofs.FaultlessLemmas.{written_entries}
use Rattle.gds_file.specs.FileLaws.{IsLawful}
use Rattle.gds_file.specs.Maps.{has_block}
use Rattle.gds_file.specs.Reshape.{Reshapes}
use Rattle.gds_file.specs.Rewrite.{Rewrites, AreNoMaps}
use Rattle.gds_file.proofs.ReshapeLemmas.{has_append, reshapes_compose}
use Rattle.gds_file.proofs.RewriteLemmas.{rewrite_is_reshape, rewrite_keeps_header, rewrite_stays_lawful}
use Rattle.gds_split.specs.Pieces.{GoInto, IsRaised, IsWritten, Piece, numbers_of, own_entries, pieces_above}
use Rattle.gds_split.proofs.CountLemmas.{counts}
use Rattle.gds_split.proofs.RootLemmas.{raised_lawful, raised_sound}
use Rattle.gds_split.proofs.WrittenLemmas.{pieces_there}
use Rattle.gds_splice.specs.Parted.{IsPackedAt, MayPart, TreeBecomes, WritesPieces, items_around, part_blocks}
use Rattle.gds_splice.specs.PartLaws.{RaisedRootIsThere, RootIsRaised}
use Rattle.gds_splice.proofs.CountedLemmas.{at_has, others_differ, same_one}
use Rattle.gds_splice.proofs.ImageLemmas.{image_of}
use Rattle.gds_splice.proofs.MayLemmas.{Stays, part_numbered, stays}
use Rattle.gds_splice.proofs.StaysLemmas.{becomes_over}
use Rattle.gds_splice.proofs.WritingLemmas.{busy_now, distinct_after, go_grown, lawful_after, not_fresh}
use Rattle.gds_splice.proofs.WritingLemmas.{numbered_after, others_stay, reshapes_after}

-- Pieces stay written where none of their blocks is written again.
written_on : (before after : List ℕ) (level n : ℕ) (pieces : List Piece) → Rewrites before after (n ∷ [])
    → ((k : ℕ) → IsTrue (has_block (numbers_of pieces) k) → has_block (n ∷ []) k ≡ false)
    → AllByRecursion (IsWritten before level) pieces → AllByRecursion (IsWritten after level) pieces
written_on before after level n [] r other each = tt
written_on before after level n (p ∷ pieces) r other each =
    let same : fields_of after ≡ fields_of before = rewrite_keeps_header before after (n ∷ []) r in
    let w = each.0 in
    let size : ℕ = packed_size (own_entries level p.entries) in (
      record {
        tn = w.tn;
        bytes = r.others p.number
            (other p.number (or_left (nat_eq p.number p.number) _ (eq-eqb p.number p.number refl))) ∙ w.bytes
            ∙ ap (λ (h : Header). block_bytes (own_entries level p.entries) level w.tn h.block_size) (sym same);
        fits = omega (arith, w.fits, ap (λ (h : Header). h.block_size) same);
        before = omega (arith, w.before, ap (λ (h : Header). h.tn) same);
        small = w.small;
      },
      written_on before after level n pieces r
          (λ k there. other k (or_right (nat_eq k p.number) (has_block (numbers_of pieces) k) there)) each.1,
    )

module _ (before mid after : List ℕ) (root v : Visit) (level : ℕ) (es : List Item) (below : Tree)
    (pieces : List Piece) (m : MayPart before root [] v (suc level) es below)
    (g : GoInto (fields_of before).total es pieces) (w : WritesPieces before mid (numbers_of pieces) (suc level) pieces)
    (r : Rewrites mid after (v.block ∷ [])) where
  abbrev numbers : List ℕ
  numbers = numbers_of pieces

  abbrev all : List ℕ
  all = part_blocks [] v below

  abbrev others : List ℕ
  others = below.blocks ++ []

  numbered : AllByRecursion (IsTreeNumber (fields_of before).total) all
  numbered = part_numbered before root [] v (suc level) es below m

  -- ---- the pieces

  among : (n : ℕ) → IsTrue (has_block numbers n) → IsTrue (has_block (numbers ++ all) n)
  among n there = has_append numbers all n ∙ or_left (has_block numbers n) (has_block all n) there

  first : Reshapes before mid all (numbers ++ all)
  first = reshapes_after before mid numbers (suc level) es pieces m.maps g w all numbered m.busy among

  lawful_mid : IsLawful mid
  lawful_mid = lawful_after before mid numbers (suc level) es pieces m.maps g w

  in_all : (n : ℕ) → IsTrue (has_block others n) → IsTrue (has_block all n)
  in_all n there = or_right (nat_eq n v.block) (has_block others n) there

  own : IsTrue (has_block all v.block)
  own = or_left (nat_eq v.block v.block) (has_block others v.block) (eq-eqb v.block v.block refl)

  free : (n : ℕ) → IsTrue (has_block all n) → has_block numbers n ≡ false
  free n there = not_fresh before mid numbers (suc level) es pieces m.maps g w n (m.busy n there)

  -- the root isn't among them
  apart : (n : ℕ) → IsTrue (has_block numbers n) → has_block (v.block ∷ []) n ≡ false
  apart n there =
      ap (λ t. t || false) (ne_eqb n v.block (λ e. both_ways (has_block numbers n) (ap (has_block numbers) e
      ∙ free v.block own) there))

  -- ---- the root

  proper : AreNoMaps (v.block ∷ [])
  proper n there = subst (λ k. k % 512 ≢ 0) (sym (same_one n v.block there)) numbered.0.no_map

  lawful : IsLawful after
  lawful = rewrite_stays_lawful mid after (v.block ∷ []) lawful_mid r proper

  reshapes : Reshapes before after all (numbers ++ all)
  reshapes =
      reshapes_compose before mid after all (numbers ++ all) (numbers ++ all) first
      (rewrite_is_reshape mid after (v.block ∷ []) (numbers ++ all) r proper
      (λ n there. has_append numbers all n
      ∙ or_right (has_block numbers n) (has_block all n) (ap (has_block all) (same_one n v.block there) ∙ own))
      (busy_now before mid all (numbers ++ all) first
      (numbered_after before mid numbers (suc level) es pieces m.maps g w all numbered m.busy among)))

  same : (n : ℕ) → IsTrue (has_block others n) → block_of after n ≡ block_of before n
  same n there =
      r.others n (ap (λ t. t || false) (others_differ v.block others n m.distinct there))
      ∙ others_stay before mid numbers (suc level) es pieces m.maps g w n
      (at_has (IsTreeNumber (fields_of before).total) all n numbered (in_all n there)).no_map
      (free n (in_all n there))

  kept : Stays after root [] v (suc level) es below
  kept =
      stays before after (image_of before m.maps) (image_of after lawful) reshapes.limits root [] v (suc level) es below
      m same

  go : GoInto (fields_of after).total es pieces
  go = go_grown (fields_of before).total (fields_of after).total es pieces reshapes.limits.total g

  each : All (IsWritten after (suc level)) pieces
  each =
      All-from_recursion (IsWritten after (suc level)) pieces
      (written_on mid after (suc level) v.block pieces r apart
      (recursion_from_All (IsWritten mid (suc level)) pieces w.each))

  -- the root has the entries that are packed in it
  pub root_there : suc level < 7 → IsPackedAt after v.block (suc (suc level)) (pieces_above (suc level) pieces [])
      → HasEntries after v (suc (suc level)) (pieces_above (suc level) pieces [])
  root_there low p =
      let j = image_of after lawful in
      let none : v.level ≡ None = ap (λ (u : Visit). u.level) m.lead ∙ m.is_root.level in
      written_entries after v (suc (suc level)) p.tn (pieces_above (suc level) pieces []) j
      (omega (arith, numbered.0.within, reshapes.limits.total)) p.bytes
      (raised_lawful (fields_of after) v (suc level) es pieces j.limits kept.lawful go) p.fits
      (subst (λ due. IsDueLevel due (suc (suc level))) (sym none) (omega arith, omega (arith, low))) p.past p.small

  module _ (has : HasEntries after v (suc (suc level)) (pieces_above (suc level) pieces [])) where
    raised : IsRaised after v (suc level) pieces below
    raised =
        let j = image_of after lawful in
        raised_sound after v level es pieces below j kept.lawful go kept.has_below has
        (pieces_there after j v (suc level) v v.low es pieces []
        (record { same_role = refl; lower = refl; upper = refl }) kept.lawful go each)

    pub root_becomes : TreeBecomes before after root all (items_around [] below.items)
    root_becomes =
        becomes_over before after root [] v (suc (suc level)) (index_tree v raised.over.tree) all (numbers ++ all)
        below.items lawful kept.lead raised.raised raised.over.items
        (distinct_after before mid numbers (suc level) es pieces m.maps g w all numbered m.busy among m.distinct)
        reshapes
        (λ n. omega (
          arith,
          count_append n numbers all,
          count_append n (v.block ∷ below.blocks) [],
          counts raised.over.tree.blocks (numbers ++ below.blocks) raised.over.blocks n,
          count_append n numbers below.blocks,
        ))

pub root_is_raised : RootIsRaised
root_is_raised before mid after root v level es below pieces m g w r has =
    root_becomes before mid after root v level es below pieces m g w r has

pub raised_root_is_there : RaisedRootIsThere
raised_root_is_there before mid after root v level es below pieces m g w r low p =
    root_there before mid after root v level es below pieces m g w r low p
