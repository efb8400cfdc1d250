use Rattle.gds_find.specs.Turn.{most_blocks}
use Rattle.gds_find.proofs.next_entry.+next_below.Given as goal

abbrev pub decreases-next_below : goal.decreases-next_below
decreases-next_below g l = most_blocks l.due
