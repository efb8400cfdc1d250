use Rattle.gds_base.specs.Reserve.{GetsPlaces}
use Rattle.gds_base.proofs.growing.mark_new.Given as goal

-- the places so far are new
abbrev pub invariant-loop-k : goal.invariant-loop-k
invariant-loop-k l = GetsPlaces l.fn.map l.map l.fn.from l.k
