use Rattle.std.proofs.Common.{◌≡◌, ap, subst}
use Rattle.host_mem.specs.Listed.{Listed}
use Rattle.host_mem.specs.Memory.{Memory, contents_of, left_since}
use Rattle.host_mem.proofs.CrashLemmas.{crash_allowed}
use Rattle.host_mem.proofs.host.MemHost.crash.Goals as goal

pub returns-clause-allowed : goal.returns-clause-allowed
returns-clause-allowed c =
    let same : c.self.inside.memory ≡ c.args.self.memory = ap (λ (x : Listed). x.memory) c.self.view_is in
    let P : Memory → Type 0 = λ m. left_since m m.log.moment (contents_of c.in_ok-memory.memory) in
    subst P same (crash_allowed c.args.choice c.self.inside.memory c.in_ok-memory.memory c.in_ok-memory.ensures)
