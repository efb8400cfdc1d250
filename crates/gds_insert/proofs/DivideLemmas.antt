-- A block whose entries are put into pieces, and that the index block above may be told of them.
use Rattle.std.proofs.Common.{◌≡◌, ℕ, ◌+◌, ◌≤◌, ◌||◌, Bool, true, false, List, [], ◌∷◌, ◌++◌, length}
use Rattle.std.proofs.Common.{refl, ap, arith}
use Rattle.std.specs.Prelude.{nat_eq}
use Rattle.std.proofs.lemmas.Bool.{or_left}
use Rattle.std.proofs.lemmas.List.{length-append}
use Rattle.std.proofs.lemmas.List.Elements.{All-from_recursion}
use Rattle.gds_block.specs.Item.{Item}
use Rattle.gds_header.specs.declared.header.Header.{Header}
use Rattle.gds_header.specs.Fields.{fields_of}
use Rattle.gds_law.specs.Visit.{Visit}
use Rattle.gds_sound.specs.Sound.{Tree}
use Rattle.gds_tree.specs.Lawful.{IsTreeNumber}
use Rattle.gds_file.specs.FileLaws.{IsLawful}
use Rattle.gds_file.specs.Maps.{has_block}
use Rattle.gds_file.specs.Rewrite.{AreAllBusy}
use Rattle.gds_file.proofs.RewriteLemmas.{rewrite_keeps_header}
use Rattle.gds_split.specs.Pieces.{Piece, numbers_of}
use Rattle.gds_ancestors.specs.Ancestors.{Ancestor, outer_blocks}
use Rattle.gds_splice.specs.Divided.{Divides}
use Rattle.gds_splice.specs.Parted.{GoesOn, MayPart}
use Rattle.gds_splice.specs.Parts.{pieces_of}
use Rattle.gds_splice.specs.declared.parts.Parts.{Parts}
use Rattle.gds_splice.proofs.MayLemmas.{part_numbered}
use Rattle.gds_splice.proofs.OneUpLemmas.{divided_into}
use Rattle.gds_splice.proofs.PieceLemmas.{goes_into_pieces}
use Rattle.gds_splice.proofs.PutLemmas.{numbers_are}
use Rattle.gds_splice.proofs.TakenLemmas.{taken}

-- ---- a block that is divided

or_none : (t : Bool) → (t || false) ≡ true → t ≡ true
or_none true h = refl
or_none false h = h

pub own_busy : (before : List ℕ) (root : Visit) (above : List Ancestor) (v : Visit) (level : ℕ) (es : List Item)
    (below : Tree) → MayPart before root above v level es below → AreAllBusy before (v.block ∷ [])
own_busy before root above v level es below m n there =
    m.busy n (or_left (nat_eq n v.block) (has_block (below.blocks ++ outer_blocks above) n)
    (or_none (nat_eq n v.block) there))

module _ (before after : List ℕ) (root : Visit) (a : Ancestor) (above : List Ancestor) (v : Visit) (level : ℕ)
    (es : List Item) (below : Tree) (parts : Parts) (m : MayPart before root (a ∷ above) v level es below)
    (d : Divides before after (v.block ∷ []) level es parts) where
  own_number : IsTreeNumber (fields_of before).total v.block
  own_number = (part_numbered before root (a ∷ above) v level es below m).0

  pub divided_goes_on : GoesOn before after root a above v level (pieces_of d.lengths (v.block ∷ d.fresh) es) below
  divided_goes_on =
      goes_into_pieces before after root a above v level es below d.fresh
      (pieces_of d.lengths (v.block ∷ d.fresh) es) m
      (divided_into before after (v.block ∷ []) level es parts m.maps
      (All-from_recursion (IsTreeNumber (fields_of before).total) (v.block ∷ []) (own_number, tt)) d)
      (numbers_are d.lengths (v.block ∷ d.fresh) es d.count) d.writes

-- At most three blocks are taken, and one fewer for each that is kept.
pub divided_free : (before after kept : List ℕ) (level : ℕ) (es : List Item) (parts : Parts) → IsLawful before
    → (d : Divides before after kept level es parts)
    → (fields_of before).free + length kept ≤ (fields_of after).free + 3
divided_free before after kept level es parts l d =
    let fresh = taken before d.writes.mid d.fresh l d.writes.taken in
    let pieces : List Piece = pieces_of d.lengths (kept ++ d.fresh) es in
    let same = rewrite_keeps_header d.writes.mid after (numbers_of pieces) d.writes.rewrites in
    omega (
      arith,
      ap (λ (h : Header). h.free) same,
      ap (λ (h : Header). h.free) fresh.fields,
      d.count,
      d.few,
      length-append kept d.fresh,
    )
