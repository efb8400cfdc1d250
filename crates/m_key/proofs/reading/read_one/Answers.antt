use Rattle.std.proofs.lemmas.List.{take_rest}
use Rattle.std.proofs.lemmas.Result.{IfOk-weaker}
use Rattle.m_key.proofs.ReadingLemmas.{no_subscript, none_weaker}
use Rattle.m_key.proofs.reading.read_one.Goals as goal

pub returns-then-bytes-clause-none : goal.returns-then-bytes-clause-none
returns-then-bytes-clause-none c =
    IfOk-weaker c.read_text.result _ _ (λ o h. none_weaker o _ _
    (no_subscript c.args.bytes.now _ (take_rest c.args.bytes.now 1) c.if-bytes.true) h) c.read_text.ensures.none
