use Rattle.std.proofs.Common.{◌≡◌, ◌∙◌, OnOk, refl, sym, subst}
use Rattle.host_model.specs.Disk.{Elapses, Settles, Stays}
use Rattle.host_model.specs.Failures.{counted}
use Rattle.host_model.specs.Files.{file_of}
use Rattle.host_mem.specs.Inside.{seen}
use Rattle.host_mem.specs.Memory.{Memory, contents_of, left_since}
use Rattle.host_mem.proofs.CallLemmas.{sync_crash, sync_numbered, sync_settles, sync_time, sync_told}
use Rattle.host_mem.proofs.memory.Memory.sync.Goals as goal

pub invariant_of-self : goal.invariant_of-self
invariant_of-self c = record {
  shows = sync_told _ _ (counted (seen c.self.inside.parts).log.moment) c.args.file c.sync.result
      (seen c.self.inside.parts) (seen c.sync.new.self) c.sync.ensures.called ∙ c.self.invariant.shows
      ∙ sym c.sync.ensures.held;
  numbered = sync_numbered _ _ (counted (seen c.self.inside.parts).log.moment) c.args.file c.sync.result
      (seen c.self.inside.parts) (seen c.sync.new.self) refl c.sync.ensures.called c.self.invariant.numbered;
}

pub returns-clause-told : goal.returns-clause-told
returns-clause-told c =
    let n : Memory = seen c.sync.new.self in
    let P : Memory → Type 0 = λ m. contents_of n ≡ contents_of m in
    subst P c.self.view_is ((sync_told _ _ (counted (seen c.self.inside.parts).log.moment) c.args.file
    c.sync.result (seen c.self.inside.parts) (seen c.sync.new.self) c.sync.ensures.called))

pub returns-clause-crash : goal.returns-clause-crash
returns-clause-crash c =
    let n : Memory = seen c.sync.new.self in
    let P : Memory → Type 0 = λ m. Stays (left_since m m.log.moment) (left_since n n.log.moment) in
    subst P c.self.view_is (sync_crash _ _ (counted (seen c.self.inside.parts).log.moment) c.args.file
    c.sync.result (seen c.self.inside.parts) (seen c.sync.new.self) c.sync.ensures.called)

pub returns-clause-time : goal.returns-clause-time
returns-clause-time c =
    let n : Memory = seen c.sync.new.self in
    let P : Memory → Type 0 =
    λ m. Elapses m.log.moment n.log.moment (left_since m) (left_since n) (left_since n n.log.moment) in
    subst P c.self.view_is (sync_time _ _ (counted (seen c.self.inside.parts).log.moment) c.args.file c.sync.result
    (seen c.self.inside.parts) (seen c.sync.new.self) refl c.sync.ensures.called c.self.invariant.numbered)

pub returns-clause-settled : goal.returns-clause-settled
returns-clause-settled c =
    let n : Memory = seen c.sync.new.self in
    let P : Memory
    → Type 0 = λ m. OnOk c.sync.result (Settles c.args.file (file_of (contents_of m) c.args.file)
    (left_since n n.log.moment)) in
    subst P c.self.view_is (sync_settles _ _ (counted (seen c.self.inside.parts).log.moment) c.args.file
    c.sync.result (seen c.self.inside.parts) (seen c.sync.new.self) c.sync.ensures.called)
