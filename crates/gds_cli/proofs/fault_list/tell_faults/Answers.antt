use Rattle.std.proofs.Common.{refl, ap}
use Rattle.host_model.proofs.FailureLemmas.{NeverFell-trans}
use Rattle.integ.specs.RawFile.{database_of}
use Rattle.gds_cli.specs.Answer.{FaultsDue, list_reply}
use Rattle.gds_cli.specs.declared.status.Status.TheVariants as ended
use Rattle.gds_cli.proofs.DueLemmas.{goes_ends, goes_quiet, list_due}
use Rattle.gds_cli.proofs.FaultsDueLemmas.{is_told, read_host, faults_told, map_told}
use Rattle.gds_cli.proofs.fault_list.tell_faults.Goals as goal

pub returns-in-Ok-found-clause-host : goal.returns-in-Ok-found-clause-host
returns-in-Ok-found-clause-host g c =
    let read =
    read_host g.H.Host.told g.H.Host.failures c.args.host _ _ c.into_host-host.result c.new-units.ensures
    c.into_host-host.ensures c.in-Ok-found.ensures.source in
    let known = is_told _ _ _ _ c.in-Ok.ensures c.in-Ok-found.ensures.told in
    record {
      told = goes_ends (g.H.Host.told c.args.host) (g.H.Host.told c.into_host-host.result) _ (λ x. FaultsDue x.db)
          (list_reply c.faults.result.now) c.say_list-status.result
          (list_due _ _ c.faults.result.now read.told
          (faults_told (g.H.Host.told c.args.host) _ _ _ c.faults.result.now _
          (ap (λ h. database_of (g.H.Host.told h)) c.new-units.ensures) known c.faults.ensures))
          c.say_list-status.ensures.host.told;
      failures = NeverFell-trans _ _ _ read.failures c.say_list-status.ensures.host.failures;
    }

pub returns-in-Ok-found-clause-one_map : goal.returns-in-Ok-found-clause-one_map
returns-in-Ok-found-clause-one_map g c done =
    let known = is_told _ _ _ _ c.in-Ok.ensures c.in-Ok-found.ensures.told in
    map_told (g.H.Host.told c.args.host) _ _ _ c.faults.result.now _ c.say_list-status.result
    (ap (λ h. database_of (g.H.Host.told h)) c.new-units.ensures) known c.faults.ensures c.in-Ok-found.ensures.one_map
    c.say_list-status.ensures.status done

pub returns-in-Err-Memory-clause-host : goal.returns-in-Err-Memory-clause-host
returns-in-Err-Memory-clause-host g c =
    let read =
    read_host g.H.Host.told g.H.Host.failures c.args.host _ _ c.into_host-host.result c.new-units.ensures
    c.into_host-host.ensures c.integ-found.ensures.source in
    record {
      told = goes_quiet _ _ (λ x. FaultsDue x.db) ended.Memory refl read.told;
      failures = read.failures;
    }

pub returns-in-Err-ReadFault-clause-host : goal.returns-in-Err-ReadFault-clause-host
returns-in-Err-ReadFault-clause-host g c =
    let read =
    read_host g.H.Host.told g.H.Host.failures c.args.host _ _ c.into_host-host.result c.new-units.ensures
    c.into_host-host.ensures c.integ-found.ensures.source in
    record {
      told = goes_quiet _ _ (λ x. FaultsDue x.db) ended.ReadFault refl read.told;
      failures = read.failures;
    }
