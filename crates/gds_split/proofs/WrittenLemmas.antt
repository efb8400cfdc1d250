-- Pieces that are packed into their blocks are there.
use Rattle.std.proofs.Common.{ℕ, ◌<◌, List, [], ◌∷◌, Option, Some, refl, sym, ap, subst, ◌∙◌}
use Rattle.std.specs.Prelude.{All}
use Rattle.std.specs.List.{AllByRecursion}
use Rattle.std.proofs.lemmas.List.Elements.{recursion_from_All}
use Rattle.gds_block.specs.Item.{Item}
use Rattle.gds_header.specs.Fields.{fields_of, block_of}
use Rattle.gds_law.specs.Visit.{Visit}
use Rattle.gds_tree.specs.Below.{visit_below}
use Rattle.gds_tree.specs.Keeps.{IsImage}
use Rattle.gds_tree.specs.Lawful.{IsTreeNumber, IsLawful}
use Rattle.gds_tree.proofs.FaultlessLemmas.{written_entries}
use Rattle.gds_split.specs.Pieces.{Piece, GoInto, own_entries, entry_to, key_above, IsVisitBelow, AreLawfulPieces}
use Rattle.gds_split.specs.Pieces.{HasPieces, IsWritten}
use Rattle.gds_split.proofs.AboveLemmas.{leads}
use Rattle.gds_split.proofs.LawfulLemmas.{lawful_pieces}

module _ (image : List ℕ) (i : IsImage image) (v : Visit) (level : ℕ) where
  each_there : (low : Option (List ℕ)) (pieces : List Piece) (key : List ℕ)
      → AllByRecursion (λ (p : Piece). IsTreeNumber (fields_of image).total p.number) pieces
      → AllByRecursion (IsWritten image level) pieces → AreLawfulPieces (fields_of image) v level low pieces key
      → HasPieces image v level low pieces key
  each_there low [] key numbered written lawful = tt
  each_there low (p ∷ pieces) key numbered written lawful =
      let k : List ℕ = key_above level p pieces key in
      let c : Visit = visit_below v level low (entry_to p.number k) in
      let there = leads (fields_of image) p.number i.limits numbered.0 in
      let w = written.0 in (
        written_entries image c level w.tn (own_entries level p.entries) i
            (subst (λ n. n < (fields_of image).total) (sym there) numbered.0.within)
            (ap (block_of image) there ∙ w.bytes) lawful.0 w.fits refl w.before w.small,
        each_there (Some k) pieces key numbered.1 written.1 lawful.1,
      )

  pub pieces_there : (w : Visit) (low : Option (List ℕ)) (es : List Item) (pieces : List Piece) (key : List ℕ)
      → IsVisitBelow v low key w → IsLawful (fields_of image) w level es → GoInto (fields_of image).total es pieces
      → All (IsWritten image level) pieces → HasPieces image v level low pieces key
  pieces_there w low es pieces key at l g written =
      each_there low pieces key
      (recursion_from_All (λ (p : Piece). IsTreeNumber (fields_of image).total p.number) pieces g.numbered)
      (recursion_from_All (IsWritten image level) pieces written)
      (lawful_pieces (fields_of image) v w level (fields_of image).total low es pieces key at l g)
