use Rattle.std.proofs.Common.{ap, length, drop, arith, length-take}
use Rattle.gds_block.proofs.HeadLemmas.{HasHead-head_bytes}
use Rattle.gds_block.proofs.head.write_head.Goals as goal

pub copy_from_slice-requires : goal.copy_from_slice-requires
copy_from_slice-requires c = omega (arith, length-take 16 c.args.out.now, ap length c.head_of.ensures)

pub returns-clause-reads_back : goal.returns-clause-reads_back
returns-clause-reads_back c =
    rw (c.copy_from_slice.ensures.after, c.head_of.ensures)
    (HasHead-head_bytes c.args.level c.args.used c.args.tn (drop 16 c.args.out.now) (omega arith) (omega arith))
