use Rattle.std.proofs.Common.{◌-◌, ◌≡◌, ◌<◌, ◌≤◌, [], ◌∷◌, Some, length, take, drop}
use Rattle.std.specs.Option.{ForSome}
use Rattle.host_model.specs.declared.host.FileNo.TheVariants.{Db}
use Rattle.host_model.specs.Disk.{Changes, written}
use Rattle.host_model.specs.Files.{with_file}
use Rattle.gds_recovery.specs.Steps.{LaysOver, WasChangedBy}
use Rattle.gds_recovery.proofs.laying.lay_image.Given as goal

abbrev pub invariant-loop-done : goal.invariant-loop-done
invariant-loop-done g l =
    let h = g.H.Host in
    record {
      within : l.done ≤ l.place.len;
      buffer : 0 < length l.buffer;
      changed : WasChangedBy h.told h.moment h.failures h.left_since (Changes Db (LaysOver (l.place ∷ [])))
          l.initial.host l.host;
      laid : ForSome (h.told l.initial.host) (λ c. h.told l.host ≡ Some (with_file Db
          (written l.place.at (take l.done (drop l.place.from c.images)) c.db) c));
    }

abbrev pub decreases-loop-done : goal.decreases-loop-done
decreases-loop-done g l = l.place.len - l.done
