use Rattle.std.proofs.Common.{List, ℕ, ◌<◌, length, sym, ap, ◌∙◌, subst}
use Rattle.std.specs.Prelude.{All}
use Rattle.gds_base.specs.Put.{PutsBlock}
use Rattle.gds_draft.specs.Drafted.{drafted}
use Rattle.gds_header.specs.Fields.{block_of}
use Rattle.gds_remove.specs.Alone.{TakesAlone}
use Rattle.gds_remove.proofs.AloneLemmas.{put_alone}
use Rattle.gds_remove.proofs.in_place.put_without.Goals as goal

pub returns-clause-cut : goal.returns-clause-cut
returns-clause-cut g c image is own v t same s =
    let before : List ℕ = drafted c.args.draft.now image in
    let after : List ℕ = drafted c.put.new.draft image in
    let low : List ℕ = c.args.low.now in
    let high : List ℕ = c.args.high.now in
    let new : List ℕ = c.take_alone.new.bytes in
    let here = own ∙ ap (block_of before) (sym same) in
    put_alone before low high v t s (subst (All (λ b. b < 256)) here c.are_bytes.ensures) after new
    (subst (λ b. TakesAlone b new low high) here c.if-not-take_alone.ensures.taken)
    (subst (λ n. PutsBlock before after n new) (sym same) (c.in_ok-put.ensures.put image is))
    (c.take_alone.auto.bytes ∙ ap length here)
