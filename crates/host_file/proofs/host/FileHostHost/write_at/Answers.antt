use Rattle.std.proofs.Common.{length}
use Rattle.host_file.proofs.LeftLemmas.{no_write}
use Rattle.host_file.proofs.host.FileHostHost.write_at.Goals as goal

pub returns-clause-crash : goal.returns-clause-crash
returns-clause-crash g c = no_write c.args.file c.args.at (length c.args.bytes.now) 0 0
