use Rattle.std.proofs.Common.{length, ap, arith}
use Rattle.m_number.proofs.TextLemmas.{text_length}
use Rattle.m_number.proofs.text.parse_canonical.Goals as goal

pub returns-then-text-gt-LONGEST-clause-none : goal.returns-then-text-gt-LONGEST-clause-none
returns-then-text-gt-LONGEST-clause-none c n h text =
    let l = text_length n h in
    let same = ap length text in
    let big = c.if-text-gt-LONGEST.true in
    omega arith
