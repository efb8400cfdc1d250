use Rattle.std.proofs.Common.{◌≡◌, ◌+◌, ◌*◌, ◌++◌, length, drop, map}
use Rattle.m_number.specs.Bytes.{pairs_of}
use Rattle.m_number.specs.Packed.{signed_byte}
use Rattle.m_number.proofs.bytes.push_pairs.Given as goal

abbrev pub invariant-loop-i : goal.invariant-loop-i
invariant-loop-i l = record {
  written : l.bytes.items ++ map (signed_byte l.negative) (pairs_of (drop (2 * l.i) l.digits))
      ≡ l.fn.bytes.items ++ map (signed_byte l.negative) (pairs_of l.digits);
  count : length l.bytes.items ≡ length l.fn.bytes.items + l.i;
}
