use Rattle.std.proofs.Common.{◌≡◌, ◌∷◌, [], length, take, List, ℕ}
use Rattle.m_text.proofs.BeginLemmas.{on_err, begins_pushed}
use Rattle.m_text.proofs.printing.push_others.Goals as goal

pub returns-in_err-push_subscript-clause-err : goal.returns-in_err-push_subscript-clause-err
returns-in_err-push_subscript-clause-err c =
    let old : List ℕ = c.args.out.now.items in
    on_err {P = take (length old) c.push_subscript.new.out.items ≡ old} c.from_residual-in_err-push_subscript.result
    (begins_pushed old c.loop-subscript.out.items _ c.push_subscript.new.out.items (44 ∷ [])
    c.loop-subscript.invariant.begins c.in_ok-push.ensures.items c.in_err-push_subscript.ensures.err)
