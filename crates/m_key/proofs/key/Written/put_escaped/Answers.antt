use Rattle.std.proofs.Common.{arith}
use Rattle.m_key.proofs.FillLemmas.{appends_more, appends_same, escaped-low, escaped-high}
use Rattle.m_key.proofs.key.Written.put_escaped.Goals as goal

pub returns-then-byte-lt-FIRST_PLAIN : goal.returns-then-byte-lt-FIRST_PLAIN
returns-then-byte-lt-FIRST_PLAIN c =
    appends_more _ _ _ _ _ _ c.put.ensures c.put-then-byte-lt-FIRST_PLAIN.ensures
    (escaped-low c.args.byte (omega (arith, c.if-byte-lt-FIRST_PLAIN.true)))

pub returns-else-byte-lt-FIRST_PLAIN : goal.returns-else-byte-lt-FIRST_PLAIN
returns-else-byte-lt-FIRST_PLAIN c =
    appends_same _ _ _ _ c.put-else-byte-lt-FIRST_PLAIN.ensures
    (escaped-high c.args.byte (omega (arith, c.if-byte-lt-FIRST_PLAIN.false)))
