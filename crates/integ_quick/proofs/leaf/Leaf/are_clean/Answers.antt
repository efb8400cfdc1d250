use Rattle.std.proofs.Common.{sym, ◌∙◌, ap, arith}
use Rattle.std.specs.Prelude.{not}
use Rattle.std.proofs.lemmas.Bool.{OnTrue_from, OnTrue_at, eqb-true}
use Rattle.gds_law.specs.Record.{is_above_bound}
use Rattle.integ_quick.proofs.BlockLemmas.{IsReadTo-first, IsReadTo-next, IsReadTo-end}
use Rattle.integ_quick.proofs.leaf.Leaf.are_clean.Goals as goal

pub loop-front-init : goal.loop-front-init
loop-front-init c =
    IsReadTo-first c.args.self.now c.args.left.now c.takes_first.new.key c.in-Some.first.rest.now
    c.in-Some.first.body.now c.in-Some.first.count
    c.in-Some.ensures.front
    (OnTrue_at c.if-not-takes_first.false c.takes_first.ensures.count)
    (OnTrue_at c.if-not-takes_first.false c.takes_first.ensures.follows)
    (OnTrue_at c.if-not-takes_first.false c.takes_first.ensures.not_below)

pub takes_next-requires-clause-right : goal.takes_next-requires-clause-right
takes_next-requires-clause-right c = c.loop-front.invariant.right

pub loop-front-smaller : goal.loop-front-smaller
loop-front-smaller c = omega (arith, c.in-Some-of.ensures.less)

pub loop-front-preserved : goal.loop-front-preserved
loop-front-preserved c =
    IsReadTo-next c.args.self.now c.args.left.now c.loop-front.key c.takes_next.new.key c.loop-front.rest.now
    c.in-Some-of.front.rest.now
    c.in-Some-of.front.body.now c.in-Some-of.front.count c.loop-front.invariant
    c.in-Some-of.ensures.front
    (OnTrue_at c.if-not-takes_next.false c.takes_next.ensures.count)
    (OnTrue_at c.if-not-takes_next.false c.takes_next.ensures.follows)

pub returns-then-is_empty : goal.returns-then-is_empty
returns-then-is_empty c =
    OnTrue_from c.is_below_high.result _
    (λ t. IsReadTo-end c.args.self.now c.args.left.now c.loop-front.rest.now c.loop-front.key c.loop-front.invariant
    (eqb-true _ 0 (sym c.is_empty.ensures ∙ c.if-is_empty.true))
    (ap (is_above_bound _) (sym c.as_slice.ensures.value) ∙ c.is_below_high.ensures ∙ ap not t))
