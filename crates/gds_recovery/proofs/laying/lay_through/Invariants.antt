use Rattle.std.proofs.Common.{◌≡◌, ◌<◌, Some, length, drop}
use Rattle.std.specs.Option.{ForSome}
use Rattle.host_model.specs.declared.host.FileNo.TheVariants.{Db}
use Rattle.host_model.specs.Disk.{Changes}
use Rattle.host_model.specs.Files.{with_file}
use Rattle.gds_images.specs.Recovered.{laid}
use Rattle.gds_recovery.specs.Steps.{LaysOver, WasChangedBy}
use Rattle.gds_recovery.proofs.laying.lay_through.Given as goal

abbrev pub invariant-loop-i : goal.invariant-loop-i
invariant-loop-i g l =
    let h = g.H.Host in
    record {
      buffer : 0 < length l.buffer;
      changed : WasChangedBy h.told h.moment h.failures h.left_since (Changes Db (LaysOver l.places))
          l.initial.host l.host;
      laid : ForSome (h.told l.initial.host) (λ c. h.told l.host ≡ Some (with_file Db
          (laid c.images (drop l.i l.places) c.db) c));
    }
