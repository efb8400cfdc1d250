use Rattle.host_file.proofs.LeftLemmas.{no_cut}
use Rattle.host_file.proofs.host.FileHostHost.cut.Goals as goal

pub returns-clause-crash : goal.returns-clause-crash
returns-clause-crash g c = no_cut c.args.file c.args.len 0 0
