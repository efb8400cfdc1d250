use Rattle.std.proofs.Common.{◌≡◌, ◌∙◌, OnErr, ap, refl, sym, subst}
use Rattle.host_model.specs.Disk.{Changes, Cut, Cuts, Elapses, Follows}
use Rattle.host_model.specs.Failures.{counted}
use Rattle.host_mem.specs.Inside.{seen}
use Rattle.host_mem.specs.Memory.{Memory, contents_of, left_since}
use Rattle.host_mem.proofs.CallLemmas.{cut_crash, cut_effect, cut_numbered, cut_time, cut_told, cuts_so, unchanged}
use Rattle.host_mem.proofs.memory.Memory.cut.Goals as goal

pub invariant_of-self : goal.invariant_of-self
invariant_of-self c = record {
  shows = cut_told _ _ (counted (seen c.self.inside.parts).log.moment) c.args.file c.args.len c.cut.result
      (seen c.self.inside.parts) (seen c.cut.new.self) c.cut.ensures.called
      ∙ ap (cut_effect c.args.file c.args.len c.cut.result) c.self.invariant.shows ∙ sym c.cut.ensures.held;
  numbered = cut_numbered _ _ (counted (seen c.self.inside.parts).log.moment) c.args.file c.args.len c.cut.result
      (seen c.self.inside.parts) (seen c.cut.new.self) refl c.cut.ensures.called c.self.invariant.numbered;
}

pub returns-clause-told : goal.returns-clause-told
returns-clause-told c =
    let n : Memory = seen c.cut.new.self in
    let P : Memory → Type 0 = λ m. Changes c.args.file (Cuts c.args.len c.cut.result) (contents_of m) (contents_of n) in
    subst P c.self.view_is (cuts_so c.args.file c.args.len c.cut.result (contents_of (seen c.self.inside.parts))
    (contents_of n) (cut_told _ _ (counted (seen c.self.inside.parts).log.moment) c.args.file c.args.len
    c.cut.result (seen c.self.inside.parts) (seen c.cut.new.self) c.cut.ensures.called))

pub returns-clause-crash : goal.returns-clause-crash
returns-clause-crash c =
    let n : Memory = seen c.cut.new.self in
    let P : Memory → Type 0 =
    λ m. Follows (Changes c.args.file (Cut c.args.len)) (left_since m m.log.moment) (left_since n n.log.moment) in
    subst P c.self.view_is (cut_crash _ _ (counted (seen c.self.inside.parts).log.moment) c.args.file c.args.len
    c.cut.result (seen c.self.inside.parts) (seen c.cut.new.self) refl c.cut.ensures.called)

pub returns-clause-time : goal.returns-clause-time
returns-clause-time c =
    let n : Memory = seen c.cut.new.self in
    let P : Memory → Type 0 =
    λ m. Elapses m.log.moment n.log.moment (left_since m) (left_since n) (left_since n n.log.moment) in
    subst P c.self.view_is (cut_time _ _ (counted (seen c.self.inside.parts).log.moment) c.args.file c.args.len
    c.cut.result (seen c.self.inside.parts) (seen c.cut.new.self) refl c.cut.ensures.called
    c.self.invariant.numbered)

pub returns-clause-exactly : goal.returns-clause-exactly
returns-clause-exactly c =
    let n : Memory = seen c.cut.new.self in
    let P : Memory → Type 0 = λ m. OnErr c.cut.result (contents_of n ≡ contents_of m) in
    subst P c.self.view_is (unchanged c.cut.result (contents_of (seen c.self.inside.parts)) (contents_of n) _
    (cut_told _ _ (counted (seen c.self.inside.parts).log.moment) c.args.file c.args.len c.cut.result
    (seen c.self.inside.parts) (seen c.cut.new.self) c.cut.ensures.called))
