use Rattle.std.proofs.Common.{sym, ◌∙◌, arith}
use Rattle.std.proofs.lemmas.Bool.{OnTrue_from}
use Rattle.std.proofs.lemmas.Slice.Eq.{bytes_eq-Decides}
use Rattle.integ_quick.proofs.SubscriptLemmas.{named_front}
use Rattle.integ_quick.proofs.leaf.has_name.Goals as goal

pub returns-clause-whole : goal.returns-clause-whole
returns-clause-whole c =
    OnTrue_from c.eq.result _
    (λ t. named_front c.args.key.now c.args.name.now (omega arith) c.if-key-name-ne0.false
    ((bytes_eq-Decides _ c.args.name.now).0 (sym c.eq.ensures ∙ t)))
