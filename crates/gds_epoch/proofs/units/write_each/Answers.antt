use Rattle.std.proofs.Common.{◌≡◌, ◌+◌, length, take, arith}
use Rattle.host_model.specs.declared.host.FileNo.TheVariants.{Db}
use Rattle.host_model.specs.Disk.{Changes, Torn, Writes, written}
use Rattle.host_model.specs.Files.{Contents}
use Rattle.host_model.proofs.FailureLemmas.{NeverFell-trans}
use Rattle.host_model.proofs.FileLemmas.{file_changed}
use Rattle.host_model.proofs.MomentLemmas.{by_write}
use Rattle.gds_epoch.specs.Waiting.{patched}
use Rattle.gds_epoch.specs.WaitingView.{units_of}
use Rattle.gds_epoch.proofs.ComeLemmas.{by_more}
use Rattle.gds_epoch.proofs.ToldLemmas.{told_before, told_then, writes_torn}
use Rattle.gds_epoch.proofs.UnitLemmas.{UnitsTorn, UnitsTorn-then, more_written, place_within, write_torn}
use Rattle.gds_epoch.proofs.units.write_each.Goals as goal

pub write_at-requires : goal.write_at-requires
write_at-requires g c =
    let size = c.args.block_size in
    let items = c.args.units.now in
    let k = c.loop-unit.unit-index in
    λ y tells.
    let before = told_before (g.H.Host.told c.args.host.now) (g.H.Host.told c.loop-unit.host)
    (λ x y. y ≡ record x { db = patched size (units_of (take k items)) x.db }) y c.loop-unit.invariant.untold tells
    c.loop-unit.invariant.written in
    place_within size items k c.unit-item.result c.loop-unit-test.true c.unit-item.is c.place_of.result
    c.deref.result.now c.place_of.ensures c.deref.ensures.value before.0 y (c.requires before.0 before.1) before.2

pub returns-in_err-write_at-clause-any_moment : goal.returns-in_err-write_at-clause-any_moment
returns-in_err-write_at-clause-any_moment g c =
    let size = c.args.block_size in
    let items = c.args.units.now in
    let at = c.place_of.result in
    let bytes = c.deref.result.now in
    by_more g.met.H.Host.longer (UnitsTorn size (units_of items)) (Changes Db (Torn at (length bytes)))
    c.args.host.now c.loop-unit.host c.write_at.new.self (UnitsTorn-then size (units_of items))
    (write_torn size items c.loop-unit.unit-index c.unit-item.result c.loop-unit-test.true c.unit-item.is at bytes
    c.place_of.ensures c.deref.ensures.value) c.loop-unit.invariant.by
    (by_write g.H.Host.moment g.H.Host.left_since g.H.Host.failures Db at (length bytes) c.loop-unit.host
    c.write_at.new.self c.write_at.ensures.crash c.write_at.ensures.called)

pub returns-in_err-write_at-clause-told : goal.returns-in_err-write_at-clause-told
returns-in_err-write_at-clause-told g c =
    let size = c.args.block_size in
    let items = c.args.units.now in
    let at = c.place_of.result in
    let bytes = c.deref.result.now in
    let torn : Contents → Contents → Type 0 = UnitsTorn size (units_of items) in
    told_then (g.H.Host.told c.args.host.now) (g.H.Host.told c.loop-unit.host) (g.H.Host.told c.write_at.new.self)
    torn (Changes Db (Writes at bytes c.write_at.result)) torn
    (λ x y z tells so_far step.
    UnitsTorn-then size (units_of items) x y z so_far
    (write_torn size items c.loop-unit.unit-index c.unit-item.result c.loop-unit-test.true c.unit-item.is at bytes
    c.place_of.ensures c.deref.ensures.value y z (writes_torn Db at bytes c.write_at.result y z step)))
    c.loop-unit.invariant.told c.write_at.ensures.told

pub loop-unit-preserved : goal.loop-unit-preserved
loop-unit-preserved g c =
    let size = c.args.block_size in
    let items = c.args.units.now in
    let k = c.loop-unit.unit-index in
    let at = c.place_of.result in
    let bytes = c.deref.result.now in
    let torn : Contents → Contents → Type 0 = UnitsTorn size (units_of items) in
    let this = write_torn size items k c.unit-item.result c.loop-unit-test.true c.unit-item.is at bytes
    c.place_of.ensures c.deref.ensures.value in
    record {
      written = told_then (g.H.Host.told c.args.host.now) (g.H.Host.told c.loop-unit.host)
          (g.H.Host.told c.write_at.new.self) (λ x y. y ≡ record x { db = patched size (units_of (take k items)) x.db })
          (Changes Db (λ old new. new ≡ written at bytes old))
          (λ x y. y ≡ record x { db = patched size (units_of (take (k + 1) items)) x.db })
          (λ x y z tells so_far step.
          more_written size items k c.unit-item.result c.loop-unit-test.true c.unit-item.is at bytes
          c.place_of.ensures c.deref.ensures.value x y z so_far
          (file_changed Db (written at bytes y.db) y z step step.changed))
          c.loop-unit.invariant.written c.in_ok-write_at.ensures.told;
      told = told_then (g.H.Host.told c.args.host.now) (g.H.Host.told c.loop-unit.host)
          (g.H.Host.told c.write_at.new.self) torn (Changes Db (Writes at bytes c.write_at.result)) torn
          (λ x y z tells so_far step.
          UnitsTorn-then size (units_of items) x y z so_far
          (this y z (writes_torn Db at bytes c.write_at.result y z step)))
          c.loop-unit.invariant.told c.write_at.ensures.told;
      untold = λ none. c.write_at.ensures.untold (c.loop-unit.invariant.untold none);
      by = by_more g.met.H.Host.longer torn (Changes Db (Torn at (length bytes))) c.args.host.now c.loop-unit.host
          c.write_at.new.self (UnitsTorn-then size (units_of items)) this c.loop-unit.invariant.by
          (by_write g.H.Host.moment g.H.Host.left_since g.H.Host.failures Db at (length bytes) c.loop-unit.host
          c.write_at.new.self c.write_at.ensures.crash c.write_at.ensures.called);
      clock = omega (arith, c.loop-unit.invariant.clock, c.write_at.ensures.called.clock);
      failures = NeverFell-trans (g.H.Host.failures c.args.host.now) (g.H.Host.failures c.loop-unit.host)
          (g.H.Host.failures c.write_at.new.self) c.loop-unit.invariant.failures c.write_at.ensures.called.failures;
    }
