use Rattle.std.proofs.lemmas.Bool.{OnTrue_from}
use Rattle.integ_quick.proofs.TextLemmas.{subscript_fault-encoded}
use Rattle.integ_quick.proofs.subscripts.is_right.Goals as goal

pub returns-else-part : goal.returns-else-part
returns-else-part c =
    OnTrue_from c.is_encoded.result _ (λ t. subscript_fault-encoded c.args.part.now c.requires c.if-part.false
    (c.is_encoded.ensures.0 t))
