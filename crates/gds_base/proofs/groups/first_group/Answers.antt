use Rattle.std.proofs.Common.{ℕ, ◌+◌, ◌*◌, refl, arith, slice_index, w8}
use Rattle.std.specs.Int.{trailing_zeros}
use Rattle.gds_base.proofs.GroupLemmas.{first_found, none_found}
use Rattle.gds_base.proofs.groups.first_group.Goals as goal

pub returns-clause-found : goal.returns-clause-found
returns-clause-found c =
    let h = c.args.header.now in
    let place : ℕ = c.in_ok-place.place in
    let bit : ℕ = trailing_zeros w8 (slice_index h.master place) in
    first_found h place bit (8 * place + bit) c.in_ok-place.ensures.found (omega arith) refl refl
    c.in_ok-place.ensures.first c.div_ceil.result (omega (arith, c.div_ceil.ensures)) c.then_some.result
    c.then_some.ensures

pub returns-clause-none : goal.returns-clause-none
returns-clause-none c =
    let h = c.args.header.now in
    let place : ℕ = c.in_ok-place.place in
    let bit : ℕ = trailing_zeros w8 (slice_index h.master place) in
    none_found h place bit (8 * place + bit) c.in_ok-place.ensures.found (omega arith) refl refl
    c.in_ok-place.ensures.first c.div_ceil.result (omega (arith, c.div_ceil.ensures)) c.then_some.result
    c.then_some.ensures
