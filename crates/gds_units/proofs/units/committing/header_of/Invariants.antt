use Rattle.std.proofs.Common.{◌≡◌, drop}
use Rattle.gds_epoch.specs.WaitingView.{units_of}
use Rattle.gds_units.specs.Plan.{header_after}
use Rattle.gds_units.proofs.units.committing.header_of.Given as goal

-- the units up to here aren't the header
abbrev pub invariant-loop-unit : goal.invariant-loop-unit
invariant-loop-unit l =
    header_after l.header (units_of (drop l.unit-index l.plan)) ≡ header_after l.header (units_of l.plan)
