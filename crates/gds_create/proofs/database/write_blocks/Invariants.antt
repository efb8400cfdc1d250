use Rattle.std.proofs.Common.{◌≡◌, ◌≤◌, ◌-◌, ◌++◌, Some}
use Rattle.std.specs.Option.{ForSome}
use Rattle.host_model.specs.declared.host.FileNo.TheVariants.{Db}
use Rattle.host_model.specs.Disk.{Changes}
use Rattle.host_model.specs.Files.{with_file}
use Rattle.gds_recovery.specs.Steps.{WasChangedBy}
use Rattle.gds_create.specs.Blocks.{new_blocks}
use Rattle.gds_create.specs.Making.{KeepsFirst}
use Rattle.gds_create.proofs.database.write_blocks.Given as goal

-- the blocks up to here are written
abbrev pub invariant-loop-next : goal.invariant-loop-next
invariant-loop-next g l =
    let h = g.H.Host in
    record {
      within : l.next ≤ l.header.total;
      changed : WasChangedBy h.told h.moment h.failures h.left_since (Changes Db (KeepsFirst 8)) l.fn.host l.host;
      written : ForSome (h.told l.fn.host) (λ c.
          h.told l.host ≡ Some (with_file Db (c.db ++ new_blocks l.header 0 l.next) c));
    }

abbrev pub decreases-loop-next : goal.decreases-loop-next
decreases-loop-next g l = l.header.total - l.next
