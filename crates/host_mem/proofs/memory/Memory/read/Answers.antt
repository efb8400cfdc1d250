use Rattle.std.proofs.Common.{◌∙◌, sym, subst}
use Rattle.host_model.specs.Disk.{Elapses}
use Rattle.host_mem.specs.Inside.{seen}
use Rattle.host_mem.specs.Memory.{Memory, left_since}
use Rattle.host_mem.proofs.CallLemmas.{is_idle, look_told, numbered_idle, time_idle}
use Rattle.host_mem.proofs.memory.Memory.read.Goals as goal

pub invariant_of-self : goal.invariant_of-self
invariant_of-self c = record {
  shows = look_told _ _ c.read.result _ _ c.read.ensures.called ∙ c.self.invariant.shows ∙ sym c.read.ensures.held;
  numbered = numbered_idle _ _ (is_idle _ _ c.read.result _ _ c.read.ensures.called) c.self.invariant.numbered;
}

pub returns-clause-time : goal.returns-clause-time
returns-clause-time c =
    let n : Memory = seen c.read.new.self in
    let P : Memory → Type 0 =
    λ m. Elapses m.log.moment n.log.moment (left_since m) (left_since n) (left_since n n.log.moment) in
    subst P c.self.view_is (time_idle _ _ (is_idle _ _ c.read.result _ _ c.read.ensures.called)
    c.self.invariant.numbered)
