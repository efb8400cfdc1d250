use Rattle.std.proofs.Common.{arith, ap}
use Rattle.gds_pack.specs.Entry.{items}
use Rattle.gds_pack.specs.Packed.{packed_size}
use Rattle.gds_splice.proofs.HalfLemmas.{in_two}
use Rattle.gds_splice.proofs.RunLemmas.{rest_whole}
use Rattle.gds_splice.proofs.halving.half.Goals as goal

pub returns : goal.returns
returns c =
    let list = c.args.entries.now in
    let n = c.front_with-at.result in
    in_two c.args.limit n list (omega arith) (omega arith) (omega (arith, c.packed_size.ensures))
    (omega (
      arith,
      c.packed_size-else-packed_size-limit.ensures,
      ap (λ xs. packed_size (items xs)) (rest_whole n list),
    ))
