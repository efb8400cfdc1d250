use Rattle.std.proofs.Common.{◌∙◌, ◌++◌, ap}
use Rattle.std.specs.Prelude.{Some}
use Rattle.std.proofs.lemmas.Result.{on_ok_weaker}
use Rattle.host_model.specs.declared.host.FileNo.TheVariants.{Db}
use Rattle.host_model.specs.Files.{with_file}
use Rattle.gds_header.specs.Fields.{header_bytes}
use Rattle.gds_create.proofs.StageLemmas.{header_rest}
use Rattle.gds_create.proofs.database.write_header.Goals as goal

pub returns-clause-written : goal.returns-clause-written
returns-clause-written g c =
    let rest = header_rest c.args.header.now c.requires.limits c.write.new.out
    (c.write.ensures.bytes ∙ ap header_bytes c.new_header.ensures.new) in
    on_ok_weaker c.append.result
    (λ done now tells. done now tells ∙ ap (λ xs. Some (with_file Db (now.db ++ xs) now)) rest)
    c.append.ensures.written
