use Rattle.std.proofs.Common.{sym, arith}
use Rattle.std.proofs.lemmas.Int.{ints}
use Rattle.m_number.proofs.BytesLemmas.{same_numeral}
use Rattle.m_number.proofs.NumberLemmas.{made}
use Rattle.m_number.proofs.TextLemmas.{joined}
use Rattle.m_number.proofs.text.number_of.Goals as goal

pub returns : goal.returns
returns c n h sign codes exponent =
    let d = joined c.new-digits.result c.push_codes.new.self c.push_codes-2.new.self c.args.front.now c.args.back.now
    n.digits c.new-digits.ensures c.push_codes.ensures c.push_codes-2.ensures codes in
    let f = c.ranges.exponent in
    made c.new.result _ n (same_numeral _ n (sym sign) d (omega (arith, ints))) h c.new.ensures.some c.new.ensures.none
