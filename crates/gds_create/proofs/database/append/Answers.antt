use Rattle.host_model.specs.declared.host.FileNo.TheVariants.{Db}
use Rattle.host_model.specs.Disk.{Changes, Writes}
use Rattle.host_model.specs.Told.{TellsOn}
use Rattle.host_model.proofs.OutcomeLemmas.{when_ok}
use Rattle.gds_create.proofs.StageLemmas.{told_appended}
use Rattle.gds_create.proofs.database.append.Goals as goal

pub returns-clause-written : goal.returns-clause-written
returns-clause-written g c =
    let before = g.H.Host.told c.args.host.now in
    let after = g.H.Host.told c.write_at.new.self in
    let end = c.args.end in
    let bytes = c.args.bytes.now in
    when_ok (λ r. TellsOn before after (Changes Db (Writes end bytes r))) c.write_at.result c.write_at.ensures.told
    (λ done told now tells. told_appended end bytes before after now tells (c.requires.end now tells) told)
