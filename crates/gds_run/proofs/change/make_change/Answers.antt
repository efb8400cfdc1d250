use Rattle.std.proofs.Common.{IfOk, subst, sym}
use Rattle.gds_words.specs.Script as asked
use Rattle.m_key.specs.Reference.{node_of}
use Rattle.gds_run.specs.Request.{IsMadeOrRefused, change_request}
use Rattle.gds_run.proofs.change.make_change.Goals as goal

pub returns-in-Set-clause-answer : goal.returns-in-Set-clause-answer
returns-in-Set-clause-answer g c =
    let old = c.args.base.now in
    let new = c.set_node.new.base in
    subst (λ change. IfOk c.set_node.result (IsMadeOrRefused old new (change_request change))) (sym c.in-Set.is)
    (subst (λ value. IfOk c.set_node.result
    (IsMadeOrRefused old new (asked.set (node_of c.in-Set.reference) value))) c.deref.ensures.value
    c.set_node.ensures.answer)

pub returns-in-Kill-clause-answer : goal.returns-in-Kill-clause-answer
returns-in-Kill-clause-answer g c =
    subst (λ change. IfOk c.kill_node.result
    (IsMadeOrRefused c.args.base.now c.kill_node.new.base (change_request change))) (sym c.in-Kill.is)
    c.kill_node.ensures.answer
