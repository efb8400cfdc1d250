use Rattle.gds_cli.proofs.FaultsDueLemmas.{answers_whole}
use Rattle.gds_cli.proofs.fault_list.say_list.Goals as goal

pub returns-in-Ok-clause-host : goal.returns-in-Ok-clause-host
returns-in-Ok-clause-host g c = record {
  told = answers_whole _ _ c.args.faults.now c.status_of.result c.status_of.ensures c.in-Ok.ensures.said;
  failures = c.in-Ok.ensures.failures;
}
