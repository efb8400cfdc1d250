use Rattle.gds_words.specs.declared.verb.Verb.TheVariants.{Order}
use Rattle.gds_words.proofs.FormLemmas.{none_behind, none_ordered}
use Rattle.gds_words.proofs.script.read_order.Goals as goal

pub returns-in_default-2-clause-none : goal.returns-in_default-2-clause-none
returns-in_default-2-clause-none c =
    let none = rw c.in_default.is at c.in_ok-reference.ensures.none in
    let none_null = rw c.in_default-2.is at c.in_ok-reference-2.ensures.none in
    none_behind Order c.args.text.now (none_ordered c.args.text.now none none_null)
