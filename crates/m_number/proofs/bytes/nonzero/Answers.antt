use Rattle.std.proofs.Common.{◌≡◌, ◌-◌, ℕ, pos, ◌-ℤ◌, List, sym, ap, ◌∙◌, arith}
use Rattle.std.proofs.lemmas.Int.{ints}
use Rattle.std.specs.List.{flat_map}
use Rattle.m_number.specs.Packed.{pair_of, unfilled}
use Rattle.m_number.proofs.BytesLemmas.{same_numeral}
use Rattle.m_number.proofs.NumberLemmas.{made}
use Rattle.m_number.proofs.PackedLemmas.{unpacked_again, exponent_again}
use Rattle.m_number.proofs.bytes.nonzero.Goals as goal

pub returns : goal.returns
returns c n h sign some head rest =
    let d = c.unpacked.ensures ∙ ap (λ (xs : List ℕ). unfilled (flat_map (pair_of c.args.negative) xs)) rest
    ∙ unpacked_again c.args.negative n h some in
    let e : pos (c.args.first - 128) -ℤ pos 63 ≡ n.exponent = ap (λ k. pos (k - 128) -ℤ pos 63) head
    ∙ exponent_again n.exponent h.least h.greatest in
    made c.new.result _ n (same_numeral _ n (sym sign) d (omega (arith, ints))) h c.new.ensures.some c.new.ensures.none
