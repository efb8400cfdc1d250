use Rattle.std.proofs.Common.{take}
use Rattle.std.specs.Prelude.{All}
use Rattle.gds_epoch.specs.Waiting.{HasBytes}
use Rattle.gds_epoch.specs.WaitingView.{units_of}
use Rattle.gds_epoch.proofs.waiting.have_bytes.Given as goal

-- the units up to here have bytes
abbrev pub invariant-loop-unit : goal.invariant-loop-unit
invariant-loop-unit l = All HasBytes (units_of (take l.unit-index l.units))
