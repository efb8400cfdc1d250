use Rattle.std.proofs.Common.{◌≡◌, take}
use Rattle.host_model.specs.declared.host.FileNo.TheVariants.{Db}
use Rattle.host_model.specs.Disk.{Changes, Cut, Cuts}
use Rattle.host_model.specs.Told.{TellsOn}
use Rattle.host_model.proofs.FileLemmas.{file_changed}
use Rattle.host_model.proofs.MomentLemmas.{by_cut}
use Rattle.host_model.proofs.OutcomeLemmas.{when_ok}
use Rattle.gds_epoch.specs.Length.{KeepsFront}
use Rattle.gds_epoch.specs.State.{Rests}
use Rattle.gds_epoch.proofs.ComeLemmas.{keeps}
use Rattle.gds_epoch.proofs.LengthLemmas.{behind_cut, keeps_front, rests_before}
use Rattle.gds_epoch.proofs.ToldLemmas.{cuts_cut, told_weaker}
use Rattle.gds_epoch.proofs.length.shorten_file.Goals as goal

pub returns-clause-told : goal.returns-clause-told
returns-clause-told g c =
    let n = c.args.len in
    told_weaker (g.H.Host.told c.args.host.now) (g.H.Host.told c.cut.new.self) (Changes Db (Cuts n c.cut.result))
    (KeepsFront n)
    (λ x y tells step.
    keeps_front n x y (c.requires.fits x tells) (behind_cut n x y (cuts_cut Db n c.cut.result x y step)))
    c.cut.ensures.told

pub returns-clause-shortened : goal.returns-clause-shortened
returns-clause-shortened g c =
    let n = c.args.len in
    let before = g.H.Host.told c.args.host.now in
    let after = g.H.Host.told c.cut.new.self in
    when_ok (λ r. TellsOn before after (Changes Db (Cuts n r))) c.cut.result c.cut.ensures.told
    (λ done told.
    told_weaker before after (Changes Db (λ old new. new ≡ take n old)) (λ x y. y ≡ record x { db = take n x.db })
    (λ x y tells step. file_changed Db (take n x.db) x y step step.changed) told)

pub returns-clause-any_moment : goal.returns-clause-any_moment
returns-clause-any_moment g c =
    λ image before short each.
    let host = c.args.host.now in
    let n = c.args.len in
    keeps g.met.H.Host.longer (Rests image before) (Changes Db (Cut n)) host c.cut.new.self
    (λ x y rests step. rests_before image before n short x y rests (behind_cut n x y step))
    each
    (by_cut g.H.Host.moment g.H.Host.left_since g.H.Host.failures Db n host c.cut.new.self
    c.cut.ensures.crash c.cut.ensures.called)
