use Rattle.std.proofs.Common.{◌++◌, ◌∙◌, sym, ap, drop, length, refl}
use Rattle.std.specs.Prelude.{List, ℕ}
use Rattle.std.proofs.lemmas.Option.{same_Some}
use Rattle.std.proofs.lemmas.Result.{on_ok_weaker}
use Rattle.host_model.specs.declared.host.FileNo.TheVariants.{Db}
use Rattle.host_model.specs.Files.{Contents, with_file}
use Rattle.gds_header.specs.Fields.{header_bytes}
use Rattle.gds_new.specs.NewDatabase.{new_database, new_header}
use Rattle.gds_recovery.proofs.WorkLemmas.{was_told}
use Rattle.gds_create.proofs.StageLemmas.{keeps_more, keeps_sync, length-header_rest, rest_told, settled_is}
use Rattle.gds_create.proofs.database.write_rest.Goals as goal

pub write_blocks-requires-clause-begun : goal.write_blocks-requires-clause-begun
write_blocks-requires-clause-begun g c y tells =
    let h = g.H.Host in
    let was = was_told (h.told c.args.host.now) (h.told c.write_header.new.host) y c.write_header.ensures.changed.untold
    tells in
    let x = was.0 in
    let is = same_Some (with_file Db (x.db ++ drop 8 (header_bytes (new_header c.args.header.now))) x) y
    (sym (c.in_ok-write_header.ensures.written x was.1) ∙ tells) in
    ap (λ (c : Contents). length c.db) (sym is)
    ∙ length-header_rest c.args.header.now c.requires.limits x.db (c.requires.begun x was.1)

pub returns-in_err-write_blocks-clause-changed : goal.returns-in_err-write_blocks-clause-changed
returns-in_err-write_blocks-clause-changed g c =
    keeps_more g.met.H.Host.longer 8 c.write_header.ensures.changed c.write_blocks.ensures.changed

pub returns-clause-changed : goal.returns-clause-changed
returns-clause-changed g c =
    keeps_more g.met.H.Host.longer 8
    (keeps_more g.met.H.Host.longer 8 c.write_header.ensures.changed c.write_blocks.ensures.changed)
    (keeps_sync g.met.H.Host.longer 8 c.sync.ensures.kept)

pub returns-clause-written : goal.returns-clause-written
returns-clause-written g c =
    let h = g.H.Host in
    on_ok_weaker c.sync.result
    (λ done x tells. c.sync.ensures.kept.told
    ∙ rest_told c.args.header.now c.requires.limits (h.told c.write_header.new.host) (h.told c.write_blocks.new.host) x
    (c.in_ok-write_header.ensures.written x tells) c.in_ok-write_blocks.ensures.written)
    c.sync.ensures.settled

pub returns-clause-settled : goal.returns-clause-settled
returns-clause-settled g c =
    let h = g.H.Host in
    let new = c.sync.new.self in
    on_ok_weaker c.sync.result
    (λ settled x tells.
    let rest : List ℕ = x.db ++ drop 8 (new_database c.args.header.now) in
    settled_is Db rest (h.told c.write_blocks.new.host) (with_file Db rest x) (h.left_since new (h.moment new))
    (rest_told c.args.header.now c.requires.limits (h.told c.write_header.new.host) (h.told c.write_blocks.new.host) x
    (c.in_ok-write_header.ensures.written x tells) c.in_ok-write_blocks.ensures.written) refl settled)
    c.sync.ensures.settled
