use Rattle.gds_find.specs.Turn.{most_blocks}
use Rattle.gds_find.proofs.finding.+go_down.Given as goal

abbrev pub decreases-go_down : goal.decreases-go_down
decreases-go_down g l = most_blocks l.due
