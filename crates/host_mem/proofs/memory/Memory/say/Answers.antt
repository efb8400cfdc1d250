use Rattle.std.proofs.Common.{◌≡◌, ◌∙◌, OnErr, ap, refl, sym, subst}
use Rattle.host_model.specs.Disk.{Elapses, Follows, SaysSome, during}
use Rattle.host_model.specs.Failures.{counted}
use Rattle.host_model.specs.Files.{Says}
use Rattle.host_mem.specs.Inside.{seen}
use Rattle.host_mem.specs.Memory.{Memory, contents_of, left_since}
use Rattle.host_mem.proofs.CallLemmas.{say_crash, say_effect, say_numbered, say_time, say_told, says, unchanged}
use Rattle.host_mem.proofs.memory.Memory.say.Goals as goal

pub invariant_of-self : goal.invariant_of-self
invariant_of-self c = record {
  shows = say_told _ _ (counted (seen c.self.inside.parts).log.moment) c.args.bytes.now c.say.result
      (seen c.self.inside.parts) (seen c.say.new.self) c.say.ensures.called
      ∙ ap (say_effect c.args.bytes.now c.say.result) c.self.invariant.shows ∙ sym c.say.ensures.held;
  numbered = say_numbered _ _ (counted (seen c.self.inside.parts).log.moment) c.args.bytes.now c.say.result
      (seen c.self.inside.parts) (seen c.say.new.self) refl c.say.ensures.called c.self.invariant.numbered;
}

pub returns-clause-said : goal.returns-clause-said
returns-clause-said c =
    let n : Memory = seen c.say.new.self in
    let P : Memory → Type 0 = λ m. Says c.args.bytes.now c.say.result (contents_of m) (contents_of n) in
    subst P c.self.view_is (says c.args.bytes.now c.say.result (contents_of (seen c.self.inside.parts))
    (contents_of n) (say_told _ _ (counted (seen c.self.inside.parts).log.moment) c.args.bytes.now c.say.result
    (seen c.self.inside.parts) (seen c.say.new.self) c.say.ensures.called))

pub returns-clause-crash : goal.returns-clause-crash
returns-clause-crash c =
    let n : Memory = seen c.say.new.self in
    let P : Memory → Type 0 =
    λ m. Follows (SaysSome c.args.bytes.now) (left_since m m.log.moment) (left_since n n.log.moment) in
    subst P c.self.view_is (say_crash _ _ (counted (seen c.self.inside.parts).log.moment) c.args.bytes.now
    c.say.result (seen c.self.inside.parts) (seen c.say.new.self) c.say.ensures.called)

pub returns-clause-time : goal.returns-clause-time
returns-clause-time c =
    let n : Memory = seen c.say.new.self in
    let P : Memory → Type 0 = λ m. Elapses m.log.moment n.log.moment (left_since m) (left_since n)
    (during (SaysSome c.args.bytes.now) (left_since m m.log.moment)) in
    subst P c.self.view_is (say_time _ _ (counted (seen c.self.inside.parts).log.moment) c.args.bytes.now
    c.say.result (seen c.self.inside.parts) (seen c.say.new.self) refl c.say.ensures.called
    c.self.invariant.numbered)

pub returns-clause-exactly : goal.returns-clause-exactly
returns-clause-exactly c =
    let n : Memory = seen c.say.new.self in
    let P : Memory → Type 0 = λ m. OnErr c.say.result (contents_of n ≡ contents_of m) in
    subst P c.self.view_is (unchanged c.say.result (contents_of (seen c.self.inside.parts)) (contents_of n) _
    (say_told _ _ (counted (seen c.self.inside.parts).log.moment) c.args.bytes.now c.say.result
    (seen c.self.inside.parts) (seen c.say.new.self) c.say.ensures.called))
