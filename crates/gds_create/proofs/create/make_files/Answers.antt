use Rattle.std.proofs.Common.{◌∙◌, sym, ap, subst}
use Rattle.std.proofs.lemmas.Option.{same_Some}
use Rattle.host_model.specs.declared.host.FileNo.TheVariants.{Db, Images}
use Rattle.host_model.specs.Disk.{Settles}
use Rattle.host_model.specs.Files.{Contents, with_file}
use Rattle.host_model.proofs.ChainLemmas.{come_had}
use Rattle.host_model.proofs.OutcomeLemmas.{each_settled}
use Rattle.gds_new.specs.NewDatabase.{new_database}
use Rattle.gds_recovery.proofs.WorkLemmas.{was_told}
use Rattle.gds_create.specs.Making.{AnyBytes}
use Rattle.gds_create.specs.Newborn.{closed_images}
use Rattle.gds_create.proofs.MakingLemmas.{database_come, each_empty, images_come, images_settled, images_stay, ok_both}
use Rattle.gds_create.proofs.create.make_files.Goals as goal

pub returns-in_err-make_images-clause-any_moment : goal.returns-in_err-make_images-clause-any_moment
returns-in_err-make_images-clause-any_moment g c x tells each =
    let h = g.H.Host in
    let laws = g.met.H.Host in
    let host = c.args.host.now in
    let empty = c.requires.empty x tells in
    let stable = each_empty x (h.left_since host (h.moment host)) empty each
    (λ y left. laws.said_stays host x y tells left) in
    let come = images_come laws.longer c.args.header.now x empty stable c.make_images.ensures.changed.crash in
    record { only = come.only; each = come_had laws.longer come }

pub returns-clause-any_moment : goal.returns-clause-any_moment
returns-clause-any_moment g c x tells each =
    let h = g.H.Host in
    let laws = g.met.H.Host in
    let host = c.args.host.now in
    let header = c.args.header.now in
    let empty = c.requires.empty x tells in
    let stable = each_empty x (h.left_since host (h.moment host)) empty each
    (λ y left. laws.said_stays host x y tells left) in
    let come = images_settled laws.longer header x empty
    (images_come laws.longer header x empty stable c.make_images.ensures.changed.crash)
    (c.in_ok-make_images.ensures.settled x tells) in
    database_come laws.longer header x empty c.requires.limits come
    (c.make_database.ensures.any_moment (with_file Images closed_images x) (c.in_ok-make_images.ensures.written x tells)
    come.each)

pub returns-clause-stable : goal.returns-clause-stable
returns-clause-stable g c =
    let h = g.H.Host in
    let laws = g.met.H.Host in
    let mid = c.make_images.new.host in
    let new = c.make_database.new.host in
    let left = h.left_since new (h.moment new) in
    let whole = new_database c.args.header.now in
    ok_both c.make_database.result c.make_database.ensures.written c.make_database.ensures.settled
    (λ written settled now tells.
    let was_mid = was_told (h.told mid) (h.told new) now c.make_database.ensures.changed.untold tells in
    let was = was_told (h.told c.args.host.now) (h.told mid) was_mid.0 c.make_images.ensures.changed.untold was_mid.1 in
    let x = was.0 in
    let images = c.in_ok-make_images.ensures.written x was.1 in
    let is = same_Some (with_file Db whole (with_file Images closed_images x)) now
    (sym (written (with_file Images closed_images x) images) ∙ tells) in
    let db_settled : Settles Db now.db left =
    subst (λ xs. Settles Db xs left) (ap (λ (y : Contents). y.db) is)
    (settled (with_file Images closed_images x) images) in
    let images_settled_too : Settles Images now.images left =
    subst (λ xs. Settles Images xs left) (ap (λ (y : Contents). y.images) is)
    (images_stay laws.longer AnyBytes closed_images (c.in_ok-make_images.ensures.settled x was.1)
    c.make_database.ensures.changed.crash) in
    each_settled now left db_settled images_settled_too (λ y is_left. laws.said_stays new now y tells is_left))
