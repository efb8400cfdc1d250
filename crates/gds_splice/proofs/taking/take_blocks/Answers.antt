use Rattle.std.proofs.Common.{◌+◌, sym, subst}
use Rattle.gds_splice.proofs.TakingLemmas.{HasTaken, taken_one_more}
use Rattle.gds_splice.proofs.taking.take_blocks.Goals as goal

pub loop-preserved : goal.loop-preserved
loop-preserved g c =
    let h = g.H.Host in
    let t = c.in_ok-take_block.ensures in
    subst (HasTaken h.told h.moment h.failures h.left_since c.args.base.now c.take_block.new.self c.args.draft.now
    c.take_block.new.draft (c.loop.counter + 1)) (sym c.push.ensures.items)
    (taken_one_more h.told h.moment h.failures h.left_since c.args.base.now c.loop.base c.take_block.new.self
    c.args.draft.now c.loop.draft c.take_block.new.draft c.loop.counter c.loop.numbers.items c.in_ok-take_block.field-0
    c.loop.invariant t.taken t.within.0 t.one t.drafts)
