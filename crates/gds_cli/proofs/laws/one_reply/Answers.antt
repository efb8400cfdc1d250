use Rattle.gds_cli.proofs.DueLemmas.{one_due, some_due}
use Rattle.gds_cli.proofs.laws.one_reply.Goals as goal

pub returns-clause-one : goal.returns-clause-one
returns-clause-one c = one_due

pub returns-clause-some : goal.returns-clause-some
returns-clause-some c = some_due
