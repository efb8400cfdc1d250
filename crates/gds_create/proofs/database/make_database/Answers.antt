use Rattle.std.proofs.Common.{replicate}
use Rattle.std.proofs.lemmas.Result.{on_ok_weaker}
use Rattle.host_model.specs.declared.host.FileNo.TheVariants.{Db}
use Rattle.host_model.specs.Disk.{Changes, Writes, written}
use Rattle.host_model.specs.Files.{with_file}
use Rattle.host_model.specs.Told.{TellsOn}
use Rattle.host_model.proofs.OutcomeLemmas.{told_written, when_ok}
use Rattle.gds_header.specs.Fields.{label}
use Rattle.gds_create.specs.Making.{KeepsFirst}
use Rattle.gds_create.proofs.MakingLemmas.{label_come, rest_come, zeros_come}
use Rattle.gds_create.proofs.StageLemmas.{any_more, changed_any, changed_store, database_settled, database_told}
use Rattle.gds_create.proofs.StageLemmas.{rest_begun_told}
use Rattle.gds_create.proofs.database.make_database.Goals as goal

pub returns-in_err-store-clause-any_moment : goal.returns-in_err-store-clause-any_moment
returns-in_err-store-clause-any_moment g c x tells each =
    (zeros_come g.met.H.Host.longer c.args.header.now x (c.requires.empty x tells) each c.store.ensures.any_moment).only

pub returns-in_err-write_rest-clause-any_moment : goal.returns-in_err-write_rest-clause-any_moment
returns-in_err-write_rest-clause-any_moment g c x tells each =
    (rest_come g.met.H.Host.longer c.args.header.now x (c.requires.empty x tells) each c.store.ensures.any_moment
    (c.in_ok-store.ensures.settled x tells) c.write_rest.ensures.changed.crash).only

pub returns-in_err-write_rest-clause-changed : goal.returns-in_err-write_rest-clause-changed
returns-in_err-write_rest-clause-changed g c =
    any_more g.met.H.Host.longer Db
    (changed_store Db 0 (replicate 8 0) c.store.result c.store.ensures.any_moment c.store.ensures.told
    c.store.ensures.untold c.store.ensures.failures)
    (changed_any Db (KeepsFirst 8) c.write_rest.ensures.changed)

pub returns-clause-changed : goal.returns-clause-changed
returns-clause-changed g c =
    any_more g.met.H.Host.longer Db
    (any_more g.met.H.Host.longer Db
    (changed_store Db 0 (replicate 8 0) c.store.result c.store.ensures.any_moment c.store.ensures.told
    c.store.ensures.untold c.store.ensures.failures)
    (changed_any Db (KeepsFirst 8) c.write_rest.ensures.changed))
    (changed_store Db 0 label c.store-2.result c.store-2.ensures.any_moment c.store-2.ensures.told
    c.store-2.ensures.untold c.store-2.ensures.failures)

pub returns-clause-any_moment : goal.returns-clause-any_moment
returns-clause-any_moment g c x tells each =
    (label_come g.met.H.Host.longer c.args.header.now x (c.requires.empty x tells) c.requires.limits each
    c.store.ensures.any_moment (c.in_ok-store.ensures.settled x tells) c.write_rest.ensures.changed.crash
    (c.in_ok-write_rest.ensures.settled (with_file Db (written 0 (replicate 8 0) x.db) x)
    (told_written Db 0 (replicate 8 0) (g.H.Host.told c.args.host.now) (g.H.Host.told c.store.new.host) x tells
    c.in_ok-store.ensures.told))
    c.store-2.ensures.any_moment).only

pub returns-clause-written : goal.returns-clause-written
returns-clause-written g c =
    let h = g.H.Host in
    let header = c.args.header.now in
    let mid = h.told c.store.new.host in
    let then = h.told c.write_rest.new.host in
    let new = h.told c.store-2.new.host in
    when_ok (λ r. TellsOn then new (Changes Db (Writes 0 label r))) c.store-2.result c.store-2.ensures.told
    (λ done told x tells.
    database_told header c.requires.limits then new x (c.requires.empty x tells)
    (rest_begun_told header (h.told c.args.host.now) mid then x tells c.in_ok-store.ensures.told
    c.in_ok-write_rest.ensures.written) told)

pub returns-clause-settled : goal.returns-clause-settled
returns-clause-settled g c =
    let h = g.H.Host in
    let header = c.args.header.now in
    let then = h.told c.write_rest.new.host in
    on_ok_weaker c.store-2.result
    (λ settled x tells.
    database_settled header c.requires.limits then x
    (h.left_since c.store-2.new.host (h.moment c.store-2.new.host)) (c.requires.empty x tells)
    (rest_begun_told header (h.told c.args.host.now) (h.told c.store.new.host) then x tells
    c.in_ok-store.ensures.told c.in_ok-write_rest.ensures.written) settled)
    c.store-2.ensures.settled
