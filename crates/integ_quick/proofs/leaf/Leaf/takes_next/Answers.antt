use Rattle.std.proofs.Common.{◌+◌, ◌-◌, ◌<◌, List, ℕ, length, get_or, take, drop, ap, subst, arith}
use Rattle.std.proofs.lemmas.Bool.{OnTrue_from, OnTrue_at}
use Rattle.integ_quick.proofs.FollowLemmas.{HasFew, Follows-next, AreSubscripts-slice}
use Rattle.integ_quick.proofs.leaf.Leaf.takes_next.Goals as goal

pub returns-clause-follows : goal.returns-clause-follows
returns-clause-follows c =
    let old : List ℕ = c.args.key.now in
    let new : List ℕ = c.takes_end.new.key in
    let n : ℕ = length c.args.self.now.name.now + 1 in
    let less : c.args.front.count < length c.args.key.now = omega (arith, ap length c.as_slice-before.ensures.value) in
    let above : get_or c.args.key.now c.args.front.count 0 < get_or c.args.front.body.now 0 0 =
    omega (arith, ap (λ (xs : List ℕ). get_or xs c.args.front.count 0) c.as_slice-before.ensures.value) in
    let subscripts = OnTrue_at c.if-not-are_subscripts.false c.are_subscripts.ensures in
    OnTrue_from c.has_few.result _
    (λ t. Follows-next c.args.self.now.header.now c.args.self.now.name.now c.args.key.now c.args.front.count
    c.args.front.body.now c.takes_end.new.key
    (OnTrue_at c.if-not-takes_end.false c.takes_end.ensures)
    less c.requires.some above
    c.requires.name
    (subst HasFew c.as_slice-2.ensures.value (OnTrue_at t c.has_few.ensures))
    c.requires.right
    (omega arith)
    c.last_start.result
    (take (c.args.front.count - (length c.args.self.now.name.now + 1)) (drop (length c.args.self.now.name.now
    + 1) c.as_slice-before.result.now))
    (ap (λ (xs : List ℕ). take (c.args.front.count - (length c.args.self.now.name.now
    + 1)) (drop (length c.args.self.now.name.now + 1) xs)) c.as_slice-before.ensures.value)
    c.last_start.ensures.within
    c.last_start.ensures.start
    (AreSubscripts-slice c.as_slice.result.now c.takes_end.new.key (length c.args.self.now.name.now + 1
    + c.last_start.result) c.as_slice.ensures.value subscripts))
