use Rattle.std.proofs.Common.{◌≡◌, ◌++◌, drop, take}
use Rattle.std.specs.Prelude.{map}
use Rattle.gds_epoch.specs.WaitingView.{units_of}
use Rattle.gds_base.specs.Commit.{stamped}
use Rattle.gds_base.proofs.plan.stamp.Given as goal

-- the units up to here have the number
abbrev pub invariant-loop-unit : goal.invariant-loop-unit
invariant-loop-unit l =
    let units = units_of l.fn.units.items in
    units_of l.unit-items ≡ map (stamped l.tn) (take l.unit-index units) ++ drop l.unit-index units
