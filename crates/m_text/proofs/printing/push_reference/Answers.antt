use Rattle.std.proofs.Common.{◌≡◌, ◌∷◌, [], length, take, List, ℕ}
use Rattle.m_text.proofs.BeginLemmas.{on_err, begins_more, begins_append, begins_pushed}
use Rattle.m_text.proofs.printing.push_reference.Goals as goal

pub returns-in_err-push_subscript-in-len1-up-clause-err : goal.returns-in_err-push_subscript-in-len1-up-clause-err
returns-in_err-push_subscript-in-len1-up-clause-err c =
    let old : List ℕ = c.args.out.now.items in
    let name : take (length old) c.push.new.self.items ≡ old =
    rw c.in_ok-push.ensures.items (begins_append old (94 ∷ [])) in
    let named : take (length old) c.extend_from_slice.new.self.items ≡ old =
    rw c.in_ok-extend_from_slice.ensures.items (begins_more old c.push.new.self.items c.bytes.result.now name) in
    on_err {P =
    take (length old) c.push_subscript.new.out.items ≡ old} c.from_residual-in_err-push_subscript-in-len1-up.result
    (begins_pushed old c.extend_from_slice.new.self.items _ c.push_subscript.new.out.items (40 ∷ []) named
    c.in_ok-push-in-len1-up.ensures.items c.in_err-push_subscript-in-len1-up.ensures.err)
