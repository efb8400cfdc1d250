use Rattle.std.proofs.Common.{flat_map, take}
use Rattle.std.specs.Option.{ForSome}
use Rattle.std.specs.String.{string_bytes}
use Rattle.host_model.specs.Failures.{NeverFell}
use Rattle.gds_cli.specs.Extract.{Waits}
use Rattle.gds_cli.specs.FaultText.{fault_line}
use Rattle.gds_cli.proofs.fault_list.say_faults.Given as goal

-- of the lines so far a front was said, and the rest waits
abbrev pub invariant-loop-fault : goal.invariant-loop-fault
invariant-loop-fault g l = record {
  said : ForSome (g.H.Host.told l.fn.host) (λ c.
      Waits c (flat_map fault_line (take l.fault-index l.faults)) (string_bytes l.text) (g.H.Host.told l.host));
  failures : NeverFell (g.H.Host.failures l.fn.host) (g.H.Host.failures l.host);
}
