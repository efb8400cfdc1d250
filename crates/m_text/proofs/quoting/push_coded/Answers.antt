use Rattle.std.proofs.Common.{◌≡◌, ◌++◌, ◌∷◌, [], length, take, get_or, List, ℕ, ap, ◌∙◌}
use Rattle.m_text.specs.Written.{decimal}
use Rattle.m_text.proofs.BeginLemmas.{on_err, begins_pushed, begins_append}
use Rattle.m_text.proofs.quoting.push_coded.Goals as goal

pub returns-in_err-push_decimals-clause-err : goal.returns-in_err-push_decimals-clause-err
returns-in_err-push_decimals-clause-err c =
    let old : List ℕ = c.args.out.now.items in
    on_err {P = take (length old) c.push_decimals.new.out.items ≡ old} c.from_residual-in_err-push_decimals.result
    (begins_pushed old (old ++ 36 ∷ 67 ∷ 40 ∷ []) c.push_decimal.new.out.items c.push_decimals.new.out.items _
    (begins_append old (36 ∷ 67 ∷ 40 ∷ []))
    (c.in_ok-push_decimal.ensures.ok
    ∙ ap (λ (t : List ℕ). t ++ decimal (get_or c.args.run.now 0 0)) c.in_ok-extend_from_slice.ensures.items)
    c.in_err-push_decimals.ensures.err)
