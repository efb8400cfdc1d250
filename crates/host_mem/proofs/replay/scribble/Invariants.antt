use Rattle.std.proofs.Common.{◌≡◌}
use Rattle.host_mem.specs.Drive.{scribbled}
use Rattle.host_mem.specs.Replay.{drive_seen}
use Rattle.host_mem.proofs.replay.scribble.Given as goal

abbrev pub invariant-loop-at : goal.invariant-loop-at
invariant-loop-at l = l.bytes.items ≡ scribbled (drive_seen l.disk) l.at
