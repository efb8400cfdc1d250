use Rattle.std.proofs.Common.{ap, ◌∙◌}
use Rattle.std.specs.Ordering.{is_le}
use Rattle.gds_remove.specs.Range.{bytes_of}
use Rattle.gds_remove.proofs.RangeLemmas.{begins_behind, begins_below}
use Rattle.gds_remove.proofs.range.RangeLeft.is_before.Goals as goal

pub returns-then-not-is_empty-clause-before : goal.returns-then-not-is_empty-clause-before
returns-then-not-is_empty-clause-before c = λ is.
    begins_behind (bytes_of c.args.self.now.range.low) c.in-Some.low.now c.args.key.now c.is_le.result
    (ap bytes_of c.in-Some.is) c.if-not-is_empty.ensures (c.is_le.ensures ∙ ap is_le c.cmp.ensures) is

pub returns-then-not-is_empty-clause-reached : goal.returns-then-not-is_empty-clause-reached
returns-then-not-is_empty-clause-reached c = λ is.
    begins_below (bytes_of c.args.self.now.range.low) c.in-Some.low.now c.args.key.now c.is_le.result
    (ap bytes_of c.in-Some.is) (c.is_le.ensures ∙ ap is_le c.cmp.ensures) is
