-- A root whose entries go into pieces below it.
use Rattle.std.proofs.Common.{◌≡◌, ℕ, suc, List, [], ◌∷◌, Some, refl, subst, append-nil}
use Rattle.std.proofs.lemmas.List.Elements.{All-from_recursion, recursion_from_All}
use Rattle.gds_block.specs.Item.{Item}
use Rattle.gds_header.specs.Fields.{fields_of}
use Rattle.gds_header.specs.Kinds.{IsWithinLimits}
use Rattle.gds_header.specs.declared.header.Header.{Header}
use Rattle.gds_law.specs.Visit.{Visit}
use Rattle.gds_sound.specs.Sound.{Tree}
use Rattle.gds_tree.specs.Below.{trees_below, HasEntries}
use Rattle.gds_tree.specs.Keeps.{IsImage}
use Rattle.gds_tree.specs.Lawful.{IsTreeNumber, IsLawfulEntry, IsLawful}
use Rattle.gds_tree.proofs.TreeByLemmas.{index_by}
use Rattle.gds_split.specs.Pieces.{Piece, GoInto, entry_to, pieces_above, IsVisitBelow, HasPieces, IsRaised}
use Rattle.gds_split.proofs.AboveLemmas.{pointer_to, index_rest, parted}
use Rattle.gds_split.proofs.TreeLemmas.{over}

own_bounds : (v : Visit) → IsVisitBelow v v.low [] v
own_bounds v = record { same_role = refl; lower = refl; upper = refl }

-- The star alone is lawful.
star_lawful : (h : Header) (v : Visit) (level n : ℕ) → IsWithinLimits h → IsTreeNumber h.total n
    → IsLawful h v (suc level) (entry_to n [] ∷ [])
star_lawful h v level n limits number =
    let pointer = pointer_to h n limits number in
    record {
      packable = (refl, pointer.size);
      each = All-from_recursion (IsLawfulEntry h v (suc level)) (entry_to n [] ∷ []) (
        record { key = λ some. absurd (some refl); rest = index_rest h v.role level _ pointer },
        tt,
      );
      none = λ empty. absurd (cc);
    }

pub raised_lawful : (h : Header) (v : Visit) (level : ℕ) (es : List Item) (pieces : List Piece) → IsWithinLimits h
    → IsLawful h v level es → GoInto h.total es pieces → IsLawful h v (suc level) (pieces_above level pieces [])
raised_lawful h v level es [] limits l g = absurd (g.any refl)
raised_lawful h v level es (p ∷ pieces) limits l g =
    let number = (recursion_from_All (λ (q : Piece). IsTreeNumber h.total q.number) (p ∷ pieces) g.numbered).0 in
    let put = parted h v level (entry_to p.number []) [] limits v [] es (p ∷ pieces)
    (star_lawful h v level p.number limits number)
    (own_bounds v) l g in
    subst (IsLawful h v (suc level)) (append-nil (pieces_above level (p ∷ pieces) [])) put.lawful

pub raised_sound : (image : List ℕ) (v : Visit) (level : ℕ) (es : List Item) (pieces : List Piece) (below : Tree)
    → IsImage image → IsLawful (fields_of image) v (suc level) es → GoInto (fields_of image).total es pieces
    → trees_below image v level v.low es ≡ Some below
    → HasEntries image v (suc (suc level)) (pieces_above (suc level) pieces [])
    → HasPieces image v (suc level) v.low pieces [] → IsRaised image v (suc level) pieces below
raised_sound image v level es pieces below i l g h now has =
    let x = over image i v level v v.low es pieces [] below (own_bounds v) l g h has in
    record {
      over = x;
      raised = index_by image v (suc level) (pieces_above (suc level) pieces []) x.tree i now x.sound;
    }
