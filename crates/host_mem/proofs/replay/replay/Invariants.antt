use Rattle.std.proofs.Common.{◌≡◌, map, take}
use Rattle.host_mem.specs.Entries.{step_of}
use Rattle.host_mem.specs.History.{replayed}
use Rattle.host_mem.specs.Replay.{state_seen}
use Rattle.host_mem.proofs.replay.replay.Given as goal

abbrev pub invariant-loop-entry : goal.invariant-loop-entry
invariant-loop-entry l =
    state_seen l.disks ≡ replayed (state_seen l.initial.disks) (map step_of (take l.entry-index l.entries))
