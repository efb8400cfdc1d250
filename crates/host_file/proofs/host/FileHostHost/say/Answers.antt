use Rattle.host_file.proofs.LeftLemmas.{no_saying}
use Rattle.host_file.proofs.host.FileHostHost.say.Goals as goal

pub returns-then-is_err-clause-crash : goal.returns-then-is_err-clause-crash
returns-then-is_err-clause-crash g c = no_saying c.args.bytes.now 0 0

pub returns-clause-crash : goal.returns-clause-crash
returns-clause-crash g c = no_saying c.args.bytes.now 0 0
