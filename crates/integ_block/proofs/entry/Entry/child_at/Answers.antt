use Rattle.std.proofs.Common.{◌∙◌, sym, ap}
use Rattle.integ_block.specs.Entry.{seen, IsKeyed, IsStar}
use Rattle.integ_block.specs.BlockReading.{reading}
use Rattle.integ_block.proofs.TargetLemmas.{to, inner, target-root, target-keyed, target-last}
use Rattle.integ_block.proofs.entry.Entry.child_at.Goals as goal

pub returns-in-Some : goal.returns-in-Some
returns-in-Some c =
    let e = c.args.self.now in
    let b = reading e.record.reading in
    let s = seen e.record in
    let k : IsKeyed b s c.in-Some.key.items e.rest.now e.fault = rw c.in-Some.is at c.requires in
    c.root.ensures ∙ target-root b s c.args.block c.in-Some.key.items c.if-self-eq0.true k.whole

pub returns-in-Some-2 : goal.returns-in-Some-2
returns-in-Some-2 c =
    let e = c.args.self.now in
    let b = reading e.record.reading in
    let s = seen e.record in
    let k : IsKeyed b s c.in-Some-2.key.items e.rest.now e.fault = rw c.in-Some-2.is at c.requires in
    c.below.ensures
    ∙ target-keyed b s c.args.block c.key_from.result.items c.if-self-eq0.false k.not_last
    (k.whole ∙ sym (c.key_from.ensures ∙ c.as_slice.ensures.value))

pub returns-in-None : goal.returns-in-None
returns-in-None c =
    let e = c.args.self.now in
    let b = reading e.record.reading in
    let s = seen e.record in
    let k : IsStar b s e.rest.now = rw c.in-None.is at c.requires in
    c.below-in-None.ensures ∙ ap (λ high. to b s c.args.block (inner b s c.args.block high)) c.bound_of.ensures
    ∙ target-last b s c.args.block k.last
