use Rattle.std.proofs.Common.{◌<◌, ◌∷◌, length, ap, sym, ◌∙◌, arith, length-append}
use Rattle.std.proofs.lemmas.Bool.{OnTrue_from, OnTrue_at, eqb-true}
use Rattle.std.proofs.lemmas.List.Elements.{recursion_from_All}
use Rattle.integ_quick.proofs.SubscriptLemmas.{AreSubscripts-last, AreSubscripts-more}
use Rattle.integ_quick.proofs.subscripts.are_subscripts.Goals as goal

pub returns-then-is_empty : goal.returns-then-is_empty
returns-then-is_empty c =
    OnTrue_from c.is_empty-then-is_empty.result _
    (λ t. c.loop-part.invariant
    (AreSubscripts-last _ c.in-Some.part.now c.in-Some.more.now (sym c.in-Some.ensures.some)
    (eqb-true _ 0 (sym c.if-is_empty.ensures))
    (eqb-true _ 0 (sym c.is_empty-then-is_empty.ensures ∙ t))))

pub loop-part-preserved : goal.loop-part-preserved
loop-part-preserved c =
    λ h. c.loop-part.invariant
    (AreSubscripts-more _ c.in-Some.part.now c.in-Some.more.now (sym c.in-Some.ensures.some)
    (recursion_from_All (λ b. 0 < b) c.in-Some.part.now c.in-Some.ensures.first)
    (OnTrue_at c.if-not-is_right.false c.is_right.ensures) h)

pub loop-part-smaller : goal.loop-part-smaller
loop-part-smaller c =
    omega (arith, ap length c.in-Some.ensures.some, length-append c.in-Some.part.now (0 ∷ c.in-Some.more.now))
