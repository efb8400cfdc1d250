use Rattle.std.specs.Range.Bound.{bound_map}
use Rattle.std.proofs.Common.{None}
use Rattle.gds_pack.specs.Entry.{item}
use Rattle.gds_units.specs.State.{image_of}
use Rattle.gds_find.proofs.NextLemmas.{first_answered}
use Rattle.gds_find.proofs.next_entry.next.Goals as goal

pub returns-clause-next : goal.returns-clause-next
returns-clause-next g c =
    first_answered (image_of c.args.base.now) c.args.draft.now c.args.root None (bound_map (λ key. key.now) c.args.from)
    (item c.next_below.new.receiver) c.next_below.result c.next_below.ensures.next
