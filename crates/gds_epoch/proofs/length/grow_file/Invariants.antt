use Rattle.std.proofs.Common.{◌≡◌, ◌≤◌, ◌-◌, None}
use Rattle.host_model.specs.Failures.{NeverFell}
use Rattle.host_model.specs.Moments.{LeavesBy}
use Rattle.host_model.specs.Told.{TellsOn}
use Rattle.gds_epoch.specs.Length.{with_zeros}
use Rattle.gds_epoch.proofs.LengthLemmas.{BehindOnly}
use Rattle.gds_epoch.proofs.length.grow_file.Given as goal

-- the zeros up to here are written, and nothing else
abbrev pub invariant-loop-at : goal.invariant-loop-at
invariant-loop-at g l = record {
  behind : l.from ≤ l.at;
  within : l.at - l.from ≤ l.to - l.from;
  told : TellsOn (g.H.Host.told l.fn.host) (g.H.Host.told l.host) (λ c d. d ≡ with_zeros l.from l.at c);
  untold : g.H.Host.told l.fn.host ≡ None → g.H.Host.told l.host ≡ None;
  by : LeavesBy g.H.Host.moment g.H.Host.left_since (BehindOnly l.from) l.fn.host l.host;
  failures : NeverFell (g.H.Host.failures l.fn.host) (g.H.Host.failures l.host);
}

abbrev pub decreases-loop-at : goal.decreases-loop-at
decreases-loop-at g l = l.to - l.at
