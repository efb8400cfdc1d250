use Rattle.std.proofs.Common.{take}
use Rattle.std.specs.Prelude.{All}
use Rattle.std.specs.Option.{ForSome}
use Rattle.host_model.specs.Frames.{WasRead}
use Rattle.host_model.specs.Moments.{LeavesTheSame}
use Rattle.gds_epoch.specs.Epoch.{IsKept}
use Rattle.gds_epoch.specs.WaitingView.{units_of}
use Rattle.gds_units.specs.Keeping.{AddsTo, AreOld}
use Rattle.gds_units.proofs.units.committing.keep_each.Given as goal

-- the old bytes of the units up to here are kept
abbrev pub invariant-loop-unit : goal.invariant-loop-unit
invariant-loop-unit g l = record {
  old : ForSome (g.H.Host.told l.fn.host) (AreOld l.epoch_length l.images);
  added : AddsTo l.fn.images l.images;
  kept : All (IsKept l.block_size l.epoch_length l.images) (units_of (take l.unit-index l.plan));
  read : WasRead g.H.Host.told g.H.Host.failures l.fn.host l.host;
  crash : LeavesTheSame g.H.Host.moment g.H.Host.left_since l.fn.host l.host;
}
