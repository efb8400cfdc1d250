use Rattle.std.proofs.Common.{arith}
use Rattle.m_number.specs.Packed.{signed_byte}
use Rattle.m_number.proofs.PackedLemmas.{pairs_more, one_more}
use Rattle.m_number.proofs.bytes.push_pairs.Goals as goal

pub loop-i-preserved : goal.loop-i-preserved
loop-i-preserved c =
    let more = pairs_more c.args.digits.now c.loop-i.i (omega arith) in
    record {
      written = one_more (signed_byte c.args.negative) _ _ _ _ _ _ _ c.push.ensures.items c.signed.ensures more
          c.loop-i.invariant.written;
      count = omega arith;
    }
