use Rattle.std.proofs.Common.{ap, ◌∙◌}
use Rattle.std.specs.Ordering.{is_le}
use Rattle.gds_remove.specs.Range.{bytes_of}
use Rattle.gds_remove.proofs.RangeLemmas.{ends_below, ends_in_last, goes_on}
use Rattle.gds_remove.proofs.range.RangeLeft.ends_below.Goals as goal

pub returns-then-is_empty-clause-ends : goal.returns-then-is_empty-clause-ends
returns-then-is_empty-clause-ends c = λ is.
    ends_in_last (bytes_of c.args.self.now.range.high) c.in-Some.high.now c.args.key.now (ap bytes_of c.in-Some.is)
    c.if-is_empty.ensures

pub returns-else-is_empty-clause-ends : goal.returns-else-is_empty-clause-ends
returns-else-is_empty-clause-ends c = λ is.
    ends_below (bytes_of c.args.self.now.range.high) c.in-Some.high.now c.args.key.now c.is_le.result
    (ap bytes_of c.in-Some.is) (c.is_le.ensures ∙ ap is_le c.cmp.ensures) is

pub returns-else-is_empty-clause-goes_on : goal.returns-else-is_empty-clause-goes_on
returns-else-is_empty-clause-goes_on c = λ is.
    goes_on (bytes_of c.args.self.now.range.high) c.in-Some.high.now c.args.key.now c.is_le.result
    (ap bytes_of c.in-Some.is) c.if-is_empty.ensures (c.is_le.ensures ∙ ap is_le c.cmp.ensures) is
