use Rattle.gds_edit.proofs.EditLemmas.{IsMoved-copied}
use Rattle.gds_edit.proofs.tail.move_tail.Goals as goal

pub returns : goal.returns
returns c =
    let q = c.requires in
    IsMoved-copied c.args.block.now c.args.from c.args.to c.args.used q.behind_head q.from q.within q.short q.fits
    c.copy_within.new.self _ c.copy_within.ensures.after c.put_u32.ensures
