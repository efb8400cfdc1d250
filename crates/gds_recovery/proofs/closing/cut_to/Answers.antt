use Rattle.std.proofs.Common.{◌∙◌}
use Rattle.host_model.specs.declared.host.FileNo.TheVariants.{Db}
use Rattle.host_model.proofs.OutcomeLemmas.{told_cut}
use Rattle.gds_recovery.proofs.closing.cut_to.Goals as goal

pub returns-clause-is_cut : goal.returns-clause-is_cut
returns-clause-is_cut g c now tells =
    let h = g.H.Host in
    c.sync.ensures.kept.told
    ∙ told_cut Db c.args.len (h.told c.args.host.now) (h.told c.cut.new.self) now tells c.in_ok-cut.ensures.told
