use Rattle.std.proofs.Common.{refl}
use Rattle.host_model.proofs.FailureLemmas.{NeverFell-trans}
use Rattle.gds_cli.specs.Answer.{ExtractDue, not_built}
use Rattle.gds_cli.specs.declared.status.Status.TheVariants as ended
use Rattle.gds_cli.proofs.DueLemmas.{extract_done, extract_other, goes_broken, goes_ends}
use Rattle.gds_cli.proofs.extract.extract.Goals as goal

pub returns-in-Ok-true-clause-host : goal.returns-in-Ok-true-clause-host
returns-in-Ok-true-clause-host g c = record {
  told = extract_done _ _ c.args.stamp.now (rw c.in-Ok-true.field-0-test at c.in-Ok-true.ensures.told);
  failures = c.in-Ok-true.ensures.blamed.failures;
}

pub returns-in-Ok-false-clause-host : goal.returns-in-Ok-false-clause-host
returns-in-Ok-false-clause-host g c = record {
  told = goes_ends _ _ _ (ExtractDue c.args.stamp.now) not_built c.say.result
      (extract_other _ _ c.args.stamp.now (rw c.in-Ok-false.field-0-test at c.in-Ok-false.ensures.told))
      c.say.ensures.host.told;
  failures = NeverFell-trans _ _ _ c.in-Ok-false.ensures.blamed.failures c.say.ensures.host.failures;
}

pub returns-in-Err-Memory-clause-host : goal.returns-in-Err-Memory-clause-host
returns-in-Err-Memory-clause-host g c = record {
  told = goes_broken _ _ (ExtractDue c.args.stamp.now) ended.Memory refl c.in-Err-Memory.ensures.told;
  failures = c.in-Err-Memory.ensures.blamed.failures;
}

pub returns-in-Err-Read-clause-host : goal.returns-in-Err-Read-clause-host
returns-in-Err-Read-clause-host g c = record {
  told = goes_broken _ _ (ExtractDue c.args.stamp.now) ended.ReadFault refl c.in-Err-Read.ensures.told;
  failures = c.in-Err-Read.ensures.blamed.failures;
}

pub returns-in-Err-Say-clause-host : goal.returns-in-Err-Say-clause-host
returns-in-Err-Say-clause-host g c = record {
  told = goes_broken _ _ (ExtractDue c.args.stamp.now) ended.SayFault refl c.in-Err-Say.ensures.told;
  failures = c.in-Err-Say.ensures.blamed.failures;
}
