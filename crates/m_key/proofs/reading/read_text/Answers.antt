use Rattle.std.proofs.lemmas.Bool.{iff_false}
use Rattle.m_key.proofs.ReadingLemmas.{not_string}
use Rattle.m_key.proofs.reading.read_text.Goals as goal

pub returns-else-is_string-clause-none : goal.returns-else-is_string-clause-none
returns-else-is_string-clause-none c t p f =
    not_string c.deref.result.now c.in-Some.text.items t c.args.bytes.now c.deref.ensures.value
    (iff_false c.is_string.ensures c.if-is_string.false)
    (rw c.in-Some.is at c.in_ok-text.ensures.some) p f
