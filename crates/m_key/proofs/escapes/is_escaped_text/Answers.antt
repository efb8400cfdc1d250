use Rattle.std.proofs.Common.{sym}
use Rattle.m_key.proofs.UnescapeLemmas.{text_test}
use Rattle.m_key.proofs.escapes.is_escaped_text.Goals as goal

pub returns-then-is_escaped : goal.returns-then-is_escaped
returns-then-is_escaped c =
    let found = c.parse_canonical.ensures in
    text_test c.parse_canonical.result c.is_none.result c.args.bytes.now c.is_none.ensures found.some found.none
    (sym c.if-is_escaped.ensures)
