use Rattle.gds_cli.proofs.RunLemmas.{breaks_or_leaves, ends_run, ends_why, leaves_error, run_done}
use Rattle.gds_cli.proofs.run.run.Goals as goal

pub returns-in-Ok-clause-host : goal.returns-in-Ok-clause-host
returns-in-Ok-clause-host g c text given =
    ends_run text _ _ ((rw c.in-Ok.is at c.run-result.ensures.whole) text given)

pub returns-in-Err-clause-host : goal.returns-in-Err-clause-host
returns-in-Err-clause-host g c text given =
    let why = rw c.in-Err.is at c.run-result.ensures.ends.cause in
    let says = c.say_why-status.ensures in
    ends_why _ _ _ _ _ _ _ _ text _ _ c.in-Err.error c.say_why-status.result why
    (breaks_or_leaves _ _ _ text _ _ ((rw c.in-Err.is at c.run-result.ensures.broken) text given) _
    c.run-result.ensures.unopened)
    (rw c.in-Err.is at c.run-result.ensures.refused)
    says.status says.host.told

pub returns-in-Ok-clause-crash : goal.returns-in-Ok-clause-crash
returns-in-Ok-clause-crash g c text given x tells =
    let ran = c.run-result.ensures in
    run_done _ _ g.H.Host.told text _ _ c.in-Ok.is _ _ x
    (record { opened = ran.crash text given x tells; refused = ran.unopened x tells })

pub returns-in-Err-clause-crash : goal.returns-in-Err-clause-crash
returns-in-Err-clause-crash g c text given =
    let ran = c.run-result.ensures in
    let why = rw c.in-Err.is at ran.ends.cause in
    let says = c.say_why-status in
    leaves_error _ _ _ (g.H.Host.failures says.new.host) _ _ _ _ _ _ g.H.Host.told g.met.H.Host.longer text _ _ _ _
    c.in-Err.error c.in-Err.is says.result why says.ensures.status says.ensures.silent says.ensures.crash
    (λ x tells. record { opened = ran.crash text given x tells; refused = ran.unopened x tells })
