-- Pieces of lawful entries are lawful.
use Rattle.std.proofs.Common.{◌≡◌, ℕ, List, [], ◌∷◌, Option, Some, refl, sym, subst, append-nil}
use Rattle.std.specs.List.{AllByRecursion}
use Rattle.std.proofs.lemmas.List.Elements.{recursion_from_All}
use Rattle.gds_block.specs.Item.{Item}
use Rattle.gds_header.specs.declared.header.Header.{Header}
use Rattle.gds_law.specs.Visit.{Visit}
use Rattle.gds_sound.proofs.BlockLemmas.{nil_parts}
use Rattle.gds_tree.specs.Below.{visit_below, below_key, from_key}
use Rattle.gds_tree.specs.Lawful.{IsLawful}
use Rattle.gds_tree.proofs.FineLemmas.{some_key}
use Rattle.gds_tree.proofs.JoinLemmas.{elsewhere}
use Rattle.gds_tree.proofs.RootLemmas.{high_key}
use Rattle.gds_split.specs.Pieces.{Piece, GoInto, entries_in, parting_key, own_entries, entry_to}
use Rattle.gds_split.specs.Pieces.{IsVisitBelow, AreLawfulPieces}
use Rattle.gds_split.proofs.CutLemmas.{own_whole, cut}

-- No piece is empty.
abbrev pub AreSome : List Piece → Type 0
AreSome pieces = AllByRecursion (λ (p : Piece). p.entries ≡ [] → ⊥) pieces

pub more_behind : (q : Piece) (pieces : List Piece) → AreSome (q ∷ pieces) → entries_in (q ∷ pieces) ≡ [] → ⊥
more_behind q pieces some none = some.0 (nil_parts q.entries (entries_in pieces) none).0

-- behind the key that parts, the bounds of what is left of the whole
pub below_left : (v w : Visit) (low : Option (List ℕ)) (key k : List ℕ) → IsVisitBelow v low key w
    → IsVisitBelow v (Some k) key (from_key w k)
below_left v w low key k at = record { same_role = at.same_role; lower = refl; upper = at.upper }

pub pieces_lawful : (h : Header) (v w : Visit) (level : ℕ) (low : Option (List ℕ)) (pieces : List Piece)
    (key : List ℕ) → IsVisitBelow v low key w → AreSome pieces → IsLawful h w level (entries_in pieces)
    → AreLawfulPieces h v level low pieces key
pieces_lawful h v w level low [] key at some l = tt
pieces_lawful h v w level low (p ∷ []) key at some l =
    let es : List Item = p.entries in
    let all : IsLawful h w level es = subst (IsLawful h w level) (append-nil es) l in
    let own : IsLawful h w level (own_entries level es) =
    subst (IsLawful h w level) (sym (own_whole level es all.packable)) all in (
      elsewhere h w (visit_below v level low (entry_to p.number key)) level (own_entries level es) own
          (sym at.same_role) (sym at.lower) (sym at.upper),
      tt,
    )
pieces_lawful h v w level low (p ∷ q ∷ pieces) key at some l =
    let behind : List Item = entries_in (q ∷ pieces) in
    let k : List ℕ = parting_key level p.entries behind in
    let c = cut h w level p.entries behind l some.0 (more_behind q pieces some.1) in (
      elsewhere h (below_key w k) (visit_below v level low (entry_to p.number k)) level (own_entries level p.entries)
          c.front (sym at.same_role) (sym at.lower) (high_key v.high k (some_key k c.is_key)),
      pieces_lawful h v (from_key w k) level (Some k) (q ∷ pieces) key (below_left v w low key k at) some.1 c.back,
    )

pub lawful_pieces : (h : Header) (v w : Visit) (level total : ℕ) (low : Option (List ℕ)) (es : List Item)
    (pieces : List Piece) (key : List ℕ) → IsVisitBelow v low key w → IsLawful h w level es → GoInto total es pieces
    → AreLawfulPieces h v level low pieces key
lawful_pieces h v w level total low es pieces key at l g =
    pieces_lawful h v w level low pieces key at (recursion_from_All (λ (p : Piece). p.entries ≡ [] → ⊥) pieces g.some)
    (subst (IsLawful h w level) (sym g.whole) l)
