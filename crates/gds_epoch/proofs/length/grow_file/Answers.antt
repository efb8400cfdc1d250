use Rattle.std.proofs.Common.{◌≡◌, ℕ, ◌+◌, List, take, length, arith}
use Rattle.host_model.specs.declared.host.FileNo.TheVariants.{Db}
use Rattle.host_model.specs.Disk.{Changes, Torn, Writes, written}
use Rattle.host_model.proofs.FailureLemmas.{NeverFell-trans}
use Rattle.host_model.proofs.FileLemmas.{file_changed}
use Rattle.host_model.proofs.MomentLemmas.{by_write}
use Rattle.gds_epoch.specs.Length.{KeepsFront, with_zeros}
use Rattle.gds_epoch.specs.State.{Rests}
use Rattle.gds_epoch.proofs.ComeLemmas.{by_more, keeps}
use Rattle.gds_epoch.proofs.LengthLemmas.{BehindOnly, BehindOnly-then, behind_write, keeps_front, rests_before}
use Rattle.gds_epoch.proofs.LengthLemmas.{zeros_torn, zeros_written}
use Rattle.gds_epoch.proofs.ToldLemmas.{told_then, writes_torn}
use Rattle.gds_epoch.proofs.length.grow_file.Goals as goal

pub returns-in_err-write_at-clause-told : goal.returns-in_err-write_at-clause-told
returns-in_err-write_at-clause-told g c =
    let from = c.args.from in
    let at = c.loop-at.at in
    let bytes : List ℕ = take c.min-count.result c.args.zeros.now in
    told_then (g.H.Host.told c.args.host.now) (g.H.Host.told c.loop-at.host) (g.H.Host.told c.write_at.new.self)
    (λ x y. y ≡ with_zeros from at x) (Changes Db (Writes at bytes c.write_at.result)) (KeepsFront from)
    (λ x y z tells so_far step.
    keeps_front from x z (c.requires.fits x tells)
    (zeros_torn from at (length bytes) x y z c.loop-at.invariant.behind so_far
    (writes_torn Db at bytes c.write_at.result y z step)))
    c.loop-at.invariant.told c.write_at.ensures.told

pub returns-in_err-write_at-clause-any_moment : goal.returns-in_err-write_at-clause-any_moment
returns-in_err-write_at-clause-any_moment g c =
    λ image before short each.
    let from = c.args.from in
    let at = c.loop-at.at in
    let bytes : List ℕ = take c.min-count.result c.args.zeros.now in
    keeps g.met.H.Host.longer (Rests image before) (BehindOnly from) c.args.host.now c.write_at.new.self
    (λ x y rests step. rests_before image before from short x y rests step)
    each
    (by_more g.met.H.Host.longer (BehindOnly from) (Changes Db (Torn at (length bytes))) c.args.host.now
    c.loop-at.host c.write_at.new.self (BehindOnly-then from)
    (behind_write from at (length bytes) c.loop-at.invariant.behind) c.loop-at.invariant.by
    (by_write g.H.Host.moment g.H.Host.left_since g.H.Host.failures Db at (length bytes) c.loop-at.host
    c.write_at.new.self c.write_at.ensures.crash c.write_at.ensures.called))

pub returns-clause-any_moment : goal.returns-clause-any_moment
returns-clause-any_moment g c =
    λ image before short each.
    let from = c.args.from in
    keeps g.met.H.Host.longer (Rests image before) (BehindOnly from) c.args.host.now c.loop-at.host
    (λ x y rests step. rests_before image before from short x y rests step) each c.loop-at.invariant.by

pub loop-at-preserved : goal.loop-at-preserved
loop-at-preserved g c =
    let from = c.args.from in
    let at = c.loop-at.at in
    let count = c.min-count.result in
    let bytes : List ℕ = take count c.args.zeros.now in
    record {
      behind = omega arith;
      within = omega arith;
      told = told_then (g.H.Host.told c.args.host.now) (g.H.Host.told c.loop-at.host)
          (g.H.Host.told c.write_at.new.self) (λ x y. y ≡ with_zeros from at x)
          (Changes Db (λ old new. new ≡ written at bytes old)) (λ x y. y ≡ with_zeros from (at + count) x)
          (λ x y z tells so_far step.
          zeros_written from at (length c.args.zeros.now) count c.args.zeros.now x y z c.requires.zeros (omega arith)
          c.loop-at.invariant.behind (c.requires.fits x tells) so_far
          (file_changed Db (written at bytes y.db) y z step step.changed))
          c.loop-at.invariant.told c.in_ok-write_at.ensures.told;
      untold = λ none. c.write_at.ensures.untold (c.loop-at.invariant.untold none);
      by = by_more g.met.H.Host.longer (BehindOnly from) (Changes Db (Torn at (length bytes))) c.args.host.now
          c.loop-at.host c.write_at.new.self (BehindOnly-then from)
          (behind_write from at (length bytes) c.loop-at.invariant.behind) c.loop-at.invariant.by
          (by_write g.H.Host.moment g.H.Host.left_since g.H.Host.failures Db at (length bytes) c.loop-at.host
          c.write_at.new.self c.write_at.ensures.crash c.write_at.ensures.called);
      failures = NeverFell-trans (g.H.Host.failures c.args.host.now) (g.H.Host.failures c.loop-at.host)
          (g.H.Host.failures c.write_at.new.self) c.loop-at.invariant.failures c.write_at.ensures.called.failures;
    }
