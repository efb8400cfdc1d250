use Rattle.std.proofs.lemmas.Bool.{OnTrue_from, OnTrue_at}
use Rattle.integ_quick.proofs.TextLemmas.{subscript_fault-escaped, subscript_fault-word, some_from}
use Rattle.integ_quick.proofs.subscripts.is_right_text.Goals as goal

pub returns-then-is_word : goal.returns-then-is_word
returns-then-is_word c =
    OnTrue_from _ _
    (λ _. subscript_fault-word c.args.bytes.now (some_from _ _ c.is_empty.ensures c.if-is_empty.false)
    (OnTrue_at c.if-is_word.true c.is_word.ensures.plain) (OnTrue_at c.if-is_word.true c.is_word.ensures.no_number))

pub returns-else-is_word : goal.returns-else-is_word
returns-else-is_word c =
    OnTrue_from c.is_escaped_text.result _
    (λ t. subscript_fault-escaped c.args.bytes.now (some_from _ _ c.is_empty.ensures c.if-is_empty.false)
    (c.is_escaped_text.ensures.0 t))
