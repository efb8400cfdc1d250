use Rattle.std.proofs.Common.{◌++◌, sym, ◌∙◌, ap}
use Rattle.std.specs.Prelude.{map}
use Rattle.std.proofs.lemmas.List.{append-nil}
use Rattle.integ_block.specs.Entry.{seen}
use Rattle.integ_block.specs.BlockReading.{reading}
use Rattle.integ_block.specs.Child.{child_of}
use Rattle.gds_law.proofs.SinkLemmas.{Grew-ok, Grew-err, IsCut-none}
use Rattle.std.proofs.lemmas.Result.{err_from_is_err_and}
use Rattle.integ_block.proofs.ReadLemmas.{Leaves-ended, children-ended}
use Rattle.integ_block.proofs.record.Record.tell_all.Goals as goal

pub returns-in_ok-tell-in-Err-clause-children : goal.returns-in_ok-tell-in-Err-clause-children
returns-in_ok-tell-in-Err-clause-children g c =
    let before = map child_of c.args.children.now.items in
    let none =
    children-ended (reading c.args.self.reading) (seen c.args.self) c.in-Err.kind c.in-Err.ensures.err
    c.in-Err.ensures.ends in
    Grew-ok before before _ _ (sym (ap (λ xs. before ++ xs) none ∙ append-nil before))

pub returns-in_ok-tell-in-Err-clause-leaves : goal.returns-in_ok-tell-in-Err-clause-leaves
returns-in_ok-tell-in-Err-clause-leaves g c =
    Leaves-ended (reading c.args.self.reading) (seen c.args.self) c.in-Err.kind c.in-Err.ensures.err
    c.in-Err.ensures.ends

pub returns-in_err-tell-in-Err-clause-children : goal.returns-in_err-tell-in-Err-clause-children
returns-in_err-tell-in-Err-clause-children g c =
    let p = err_from_is_err_and c.from_residual.result c.from_residual.ensures.1 in
    Grew-err _ _ _ c.from_residual.result p.0 p.1 (IsCut-none _ _)
