use Rattle.std.proofs.Common.{List, ℕ, suc, sym, ap, subst, ◌∙◌}
use Rattle.gds_block.specs.Fields.{u32_at}
use Rattle.gds_search.specs.PackedBlock.{IsPackedBlock}
use Rattle.gds_search.specs.declared.place.Place.{Place}
use Rattle.m_key.specs.KeyEnd.{IsKey}
use Rattle.gds_remove.specs.Range.{EndsBelow, bytes_of, range_of}
use Rattle.gds_remove.proofs.SoleFoundLemmas.{over, own_begins, sole_there}
use Rattle.gds_remove.proofs.sole.sole_in.Goals as goal

pub returns : goal.returns
returns c level es packed =
    let low : List ℕ = c.in_ok-low.low.now in
    let place : Place = c.in-Ok.place in
    let is_key : IsKey low = c.is_whole.ensures.0 c.if-not-is_whole.false in
    let view = c.in_ok-view.ensures.1 in
    let o = over es low place packed.packable
    (c.in-Ok.ensures.found (suc level) es is_key (subst (λ b. IsPackedBlock b (suc level) es) (sym view) packed))
    c.if-place.false in
    let r = c.in_ok-record.ensures (suc level) es o.before o.behind o.own packed o.place_is.parts
    (sym o.place_is.offset) (own_begins es low place o) in
    sole_there es low place o (range_of c.args.range)
    (record { block = c.in_ok-block.block; offset = c.in-Ok-try_from.offset }) (ap bytes_of c.in_ok-low.was)
    (subst (EndsBelow (bytes_of c.args.range.high)) (c.as_slice.ensures.value ∙ r.0)
    (c.ends_below.ensures.ends c.if-not-ends_below.false))
    (c.in_ok-block.ensures.1 ∙ ap (λ bs. u32_at bs 0) r.1) c.in-Ok-try_from.ensures.1
