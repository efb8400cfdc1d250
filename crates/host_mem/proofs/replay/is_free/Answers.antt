use Rattle.std.proofs.Common.{◌∙◌, Bool, ◌||◌, ap, sym}
use Rattle.host_mem.specs.Drive.{is_covered}
use Rattle.host_mem.proofs.CrashLemmas.{nat_le-false}
use Rattle.host_mem.proofs.replay.is_free.Goals as goal

pub returns-else-disk-at : goal.returns-else-disk-at
returns-else-disk-at c =
    c.is_written.ensures
    ∙ sym (ap (λ (b : Bool). b || is_covered c.args.at c.args.disk.now.ranges.items)
    (nat_le-false c.args.disk.now.least c.args.at c.if-disk-at.false))
