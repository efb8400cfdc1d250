use Rattle.std.proofs.Common.{arith}
use Rattle.gds_base.proofs.NewMapLemmas.{one_more_place}
use Rattle.gds_base.proofs.growing.mark_new.Goals as goal

pub loop-k-preserved : goal.loop-k-preserved
loop-k-preserved c =
    one_more_place c.args.map.now c.loop-k.map c.mark.new.map c.args.from c.loop-k.k (omega arith) (omega arith)
    c.loop-k.invariant c.mark.ensures
