-- What the replayed disks of a memory host stand for.
use Rattle.host_mem.specs.declared.replay.Disk.{Disk}
use Rattle.host_mem.specs.declared.replay.Disks.{Disks}
use Rattle.host_mem.specs.Drive.{Drive}
use Rattle.host_mem.specs.History.{State}

abbrev pub drive_seen : Disk → Drive
drive_seen disk =
    record { now = disk.bytes.items; stable = disk.stable.items; least = disk.least; ranges = disk.ranges.items }

abbrev pub state_seen : Disks → State
state_seen disks = record { db = drive_seen disks.db; images = drive_seen disks.images; said = disks.said.items }
