use Rattle.std.proofs.Common.{◌≡◌, ◌*◌, length, take}
use Rattle.std.specs.List.{flat_map}
use Rattle.m_number.specs.Packed.{pair_of}
use Rattle.m_number.proofs.bytes.unpacked.Given as goal

abbrev pub invariant-loop-byte : goal.invariant-loop-byte
invariant-loop-byte l =
    (l.digits ≡ flat_map (pair_of l.negative) (take l.byte-index l.packed)) × (length l.digits ≡ 2 * l.byte-index)
