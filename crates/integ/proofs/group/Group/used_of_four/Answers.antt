use Rattle.std.proofs.Common.{◌*◌, ◌/◌, ◌%◌, ◌^◌, ◌<◌, bit_and, arith, rules}
use Rattle.integ.proofs.FourLemmas.{set_small, bit_then, bit_else}
use Rattle.integ.proofs.group.Group.used_of_four.Goals as goal

pub returns-then-place-eq0-clause-small : goal.returns-then-place-eq0-clause-small
returns-then-place-eq0-clause-small c = set_small _ (search rules)

pub returns-then-place-eq0-clause-bits : goal.returns-then-place-eq0-clause-bits
returns-then-place-eq0-clause-bits c j within =
    let small : bit_and (c.byte_at-byte.result / 2 ^ (4 * (c.args.place % 2))) 15 < 16 = search rules in
    bit_then c.args.self.now.used.now c.args.self.now.number c.args.place c.byte_at-byte.result j c.requires within
    c.byte_at-byte.ensures (omega arith) small c.if-place-eq0.true

pub returns-else-place-eq0-clause-bits : goal.returns-else-place-eq0-clause-bits
returns-else-place-eq0-clause-bits c j within =
    bit_else c.args.self.now.used.now c.args.self.now.number c.args.place c.byte_at-byte.result j c.requires within
    c.byte_at-byte.ensures (omega arith) c.if-place-eq0.false
