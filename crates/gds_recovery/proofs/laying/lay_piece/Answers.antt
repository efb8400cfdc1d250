use Rattle.std.proofs.Common.{◌∙◌, ap}
use Rattle.std.specs.Prelude.{List, ℕ, Some}
use Rattle.host_model.specs.declared.host.FileNo.TheVariants.{Db}
use Rattle.host_model.specs.Disk.{written}
use Rattle.host_model.specs.Files.{with_file}
use Rattle.host_model.proofs.OutcomeLemmas.{told_written}
use Rattle.gds_recovery.proofs.laying.lay_piece.Goals as goal

pub returns-clause-laid : goal.returns-clause-laid
returns-clause-laid g c now tells =
    let h = g.H.Host in
    told_written Db c.args.at c.read_whole.new.out (h.told c.read_whole.new.host) (h.told c.write_at.new.self) now
    (c.in_ok-read_whole.ensures.kept.told ∙ tells) c.in_ok-write_at.ensures.told
    ∙ ap (λ (piece : List ℕ). Some (with_file Db (written c.args.at piece now.db) now))
    (c.in_ok-read_whole.ensures.bytes now tells)
