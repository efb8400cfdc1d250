use Rattle.std.proofs.Common.{List, ℕ, [], ◌∷◌, ◌++◌, sym, ap, subst, ◌∙◌, arith}
use Rattle.std.proofs.lemmas.Bool.{not-false}
use Rattle.std.specs.Cmp.Lexicographic.{slice_cmp}
use Rattle.std.specs.Ordering.{is_lt, nat_cmp}
use Rattle.gds_block.specs.Block.{used_of}
use Rattle.gds_search.specs.PackedBlock.{IsPackedBlock}
use Rattle.gds_search.specs.declared.place.Place.{Place}
use Rattle.gds_tree.proofs.TestLemmas.{at_most}
use Rattle.m_key.specs.Key.{Below}
use Rattle.m_key.specs.KeyEnd.{IsKey}
use Rattle.gds_remove.proofs.AloneLemmas.{has_next, hit, last_alone, next_alone, next_front, next_parts, own_front}
use Rattle.gds_remove.proofs.in_place.place_alone.Goals as goal

pub returns-then-own-used : goal.returns-then-own-used
returns-then-own-used c es packed =
    let low : List ℕ = c.args.low.now in
    let high : List ℕ = c.args.high.now in
    let bytes : List ℕ = c.args.bytes.now in
    let place : Place = c.in-Ok.place in
    let is_key : IsKey low = c.is_whole.ensures.0 c.if-not-is_whole.false in
    let less : Below low high = ap is_lt (sym c.cmp.ensures) ∙ sym c.is_lt.ensures ∙ c.if-not-is_lt.false in
    let view = c.in_ok-view.ensures.1 in
    let h = hit low high bytes es place packed less
    (c.in-Ok.ensures.found 0 es is_key (subst (λ b. IsPackedBlock b 0 es) (sym view) packed))
    (not-false place.is_equal c.if-not-place.false) in
    let own = c.in_ok-own.ensures 0 es h.before h.behind h.own packed h.place_is.parts (sym h.place_is.offset)
    (own_front low high bytes es place packed less h) in
    last_alone low high bytes es place packed less h (omega (
      arith,
      c.if-own-used.true,
      own.2,
      c.used.ensures.value,
      ap used_of view,
      packed.used,
    )) c.if-place-le16.false

pub returns : goal.returns
returns c es packed =
    let low : List ℕ = c.args.low.now in
    let high : List ℕ = c.args.high.now in
    let bytes : List ℕ = c.args.bytes.now in
    let place : Place = c.in-Ok.place in
    let is_key : IsKey low = c.is_whole.ensures.0 c.if-not-is_whole.false in
    let less : Below low high = ap is_lt (sym c.cmp.ensures) ∙ sym c.is_lt.ensures ∙ c.if-not-is_lt.false in
    let view = c.in_ok-view.ensures.1 in
    let h = hit low high bytes es place packed less
    (c.in-Ok.ensures.found 0 es is_key (subst (λ b. IsPackedBlock b 0 es) (sym view) packed))
    (not-false place.is_equal c.if-not-place.false) in
    let own = c.in_ok-own.ensures 0 es h.before h.behind h.own packed h.place_is.parts (sym h.place_is.offset)
    (own_front low high bytes es place packed less h) in
    let n = has_next low high bytes es place packed less h (omega (
      arith,
      c.if-own-used.false,
      own.2,
      c.used.ensures.value,
      ap used_of view,
      packed.used,
    )) in
    let next = c.in_ok-next.ensures 0 es (h.before ++ h.own ∷ []) n.rest n.next packed
    (next_parts low high bytes es place packed less h n) (sym own.2)
    (next_front low high bytes es place packed less h n) in
    next_alone low high bytes es place packed less h n (at_most high n.next.key
    (ap (λ key. is_lt (slice_cmp nat_cmp key high)) (sym (c.as_slice.ensures.value ∙ next.0))
    ∙ ap is_lt (sym c.cmp-2.ensures) ∙ sym c.is_lt-2.ensures ∙ c.if-is_lt.false))
