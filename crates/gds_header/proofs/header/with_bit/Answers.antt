use Rattle.std.proofs.Common.{w8}
use Rattle.std.proofs.lemmas.Nat.Bits.{bit_at_set_same, bit_at_set_other, bit_at_clear_same, bit_at_clear_other}
use Rattle.gds_header.proofs.header.with_bit.Goals as goal

pub returns-then-is_set-clause-bit : goal.returns-then-is_set-clause-bit
returns-then-is_set-clause-bit c = rw c.if-is_set.true (bit_at_set_same w8 c.args.byte c.args.bit c.requires)

pub returns-then-is_set-clause-others : goal.returns-then-is_set-clause-others
returns-then-is_set-clause-others c k within other = bit_at_set_other w8 c.args.byte c.args.bit c.requires k other

pub returns-else-is_set-clause-bit : goal.returns-else-is_set-clause-bit
returns-else-is_set-clause-bit c = rw c.if-is_set.false (bit_at_clear_same w8 c.args.byte c.args.bit c.requires)

pub returns-else-is_set-clause-others : goal.returns-else-is_set-clause-others
returns-else-is_set-clause-others c k within other =
    bit_at_clear_other w8 c.args.byte c.args.bit c.requires k within other
