use Rattle.std.proofs.Common.{◌≡◌, ◌≤◌, ◌+◌, None, take}
use Rattle.host_model.specs.declared.host.FileNo.TheVariants.{Db}
use Rattle.host_model.specs.Disk.{Changes}
use Rattle.host_model.specs.Failures.{NeverFell}
use Rattle.host_model.specs.Moments.{LeavesBy}
use Rattle.host_model.specs.Told.{TellsOn}
use Rattle.gds_epoch.specs.Waiting.{TornUnits, patched}
use Rattle.gds_epoch.specs.WaitingView.{units_of}
use Rattle.gds_epoch.proofs.units.write_each.Given as goal

-- the units up to here are written, and nothing else
abbrev pub invariant-loop-unit : goal.invariant-loop-unit
invariant-loop-unit g l =
    let torn = Changes Db (TornUnits l.block_size (units_of l.units)) in
    record {
      written : TellsOn (g.H.Host.told l.fn.host) (g.H.Host.told l.host)
          (λ c d. d ≡ record c { db = patched l.block_size (units_of (take l.unit-index l.units)) c.db });
      told : TellsOn (g.H.Host.told l.fn.host) (g.H.Host.told l.host) torn;
      untold : g.H.Host.told l.fn.host ≡ None → g.H.Host.told l.host ≡ None;
      by : LeavesBy g.H.Host.moment g.H.Host.left_since torn l.fn.host l.host;
      clock : g.H.Host.moment l.host ≤ g.H.Host.moment l.fn.host + l.unit-index;
      failures : NeverFell (g.H.Host.failures l.fn.host) (g.H.Host.failures l.host);
    }
