-- A file is told by its front and its blocks.
use Rattle.std.proofs.Common.{◌≡◌, ℕ, ◌<◌, take, drop, sym, ap, ◌∙◌}
use Rattle.gds_header.specs.declared.header.Header.{Header}
use Rattle.gds_header.specs.Fields.{fields_of, place_of}
use Rattle.gds_sound.proofs.HeaderLemmas.{same_fields}
use Rattle.gds_draft.specs.Laws.{SameByBlocks}
use Rattle.gds_draft.proofs.PieceLemmas.{piece, same_by_pieces}

pub same_file : SameByBlocks
same_file a b long same front blocks =
    let h : Header = fields_of a in
    let fields : fields_of b ≡ h = same_fields b a front in
    let each : (n : ℕ) → n < h.total → piece 8192 h.block_size b n ≡ piece 8192 h.block_size a n =
    λ n low. ap (λ (g : Header). take g.block_size (drop (place_of g n) b)) (sym fields) ∙ blocks n low in
    same_by_pieces 8192 h.block_size a b h.total long same front each
