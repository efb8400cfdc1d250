use Rattle.std.proofs.Common.{◌≡◌, ◌∙◌, length, OnErr, ap, refl, sym, subst}
use Rattle.host_model.specs.Disk.{Changes, Elapses, Follows, Torn, Writes}
use Rattle.host_model.specs.Failures.{counted}
use Rattle.host_mem.specs.Inside.{seen}
use Rattle.host_mem.specs.Memory.{Memory, contents_of, left_since}
use Rattle.host_mem.proofs.CallLemmas.{unchanged, write_crash, write_effect, write_numbered, write_time, write_told}
use Rattle.host_mem.proofs.CallLemmas.{writes}
use Rattle.host_mem.proofs.memory.Memory.write_at.Goals as goal

pub invariant_of-self : goal.invariant_of-self
invariant_of-self c = record {
  shows = write_told _ _ (counted (seen c.self.inside.parts).log.moment) c.args.file c.args.at c.args.bytes.now
      c.write_at.result (seen c.self.inside.parts) (seen c.write_at.new.self) c.write_at.ensures.called
      ∙ ap (write_effect c.args.file c.args.at c.args.bytes.now c.write_at.result) c.self.invariant.shows
      ∙ sym c.write_at.ensures.held;
  numbered = write_numbered _ _ (counted (seen c.self.inside.parts).log.moment) c.args.file c.args.at
      c.args.bytes.now c.write_at.result (seen c.self.inside.parts) (seen c.write_at.new.self) refl
      c.write_at.ensures.called c.self.invariant.numbered;
}

pub returns-clause-told : goal.returns-clause-told
returns-clause-told c =
    let n : Memory = seen c.write_at.new.self in
    let P : Memory → Type 0 = λ m. Changes c.args.file (Writes c.args.at c.args.bytes.now c.write_at.result)
    (contents_of m) (contents_of n) in
    subst P c.self.view_is (writes c.args.file c.args.at c.args.bytes.now c.write_at.result
    (contents_of (seen c.self.inside.parts)) (contents_of n)
    (write_told _ _ (counted (seen c.self.inside.parts).log.moment) c.args.file c.args.at c.args.bytes.now
    c.write_at.result (seen c.self.inside.parts) (seen c.write_at.new.self) c.write_at.ensures.called))

pub returns-clause-crash : goal.returns-clause-crash
returns-clause-crash c =
    let n : Memory = seen c.write_at.new.self in
    let P : Memory → Type 0 = λ m. Follows (Changes c.args.file (Torn c.args.at (length c.args.bytes.now)))
    (left_since m m.log.moment) (left_since n n.log.moment) in
    subst P c.self.view_is (write_crash _ _ (counted (seen c.self.inside.parts).log.moment) c.args.file c.args.at
    c.args.bytes.now c.write_at.result (seen c.self.inside.parts) (seen c.write_at.new.self) refl
    c.write_at.ensures.called)

pub returns-clause-time : goal.returns-clause-time
returns-clause-time c =
    let n : Memory = seen c.write_at.new.self in
    let P : Memory → Type 0 =
    λ m. Elapses m.log.moment n.log.moment (left_since m) (left_since n) (left_since n n.log.moment) in
    subst P c.self.view_is (write_time _ _ (counted (seen c.self.inside.parts).log.moment) c.args.file c.args.at
    c.args.bytes.now c.write_at.result (seen c.self.inside.parts) (seen c.write_at.new.self) refl
    c.write_at.ensures.called c.self.invariant.numbered)

pub returns-clause-exactly : goal.returns-clause-exactly
returns-clause-exactly c =
    let n : Memory = seen c.write_at.new.self in
    let P : Memory → Type 0 = λ m. OnErr c.write_at.result (contents_of n ≡ contents_of m) in
    subst P c.self.view_is (unchanged c.write_at.result (contents_of (seen c.self.inside.parts)) (contents_of n) _
    (write_told _ _ (counted (seen c.self.inside.parts).log.moment) c.args.file c.args.at c.args.bytes.now
    c.write_at.result (seen c.self.inside.parts) (seen c.write_at.new.self) c.write_at.ensures.called))
