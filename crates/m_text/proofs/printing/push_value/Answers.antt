use Rattle.std.proofs.Common.{◌≡◌, ◌∷◌, [], length, take, List, ℕ, ◌<◌, rules, tests, arith}
use Rattle.std.proofs.lemmas.Bool.Decides.{nat_tests}
use Rattle.m_text.proofs.BeginLemmas.{on_err, begins_pushed}
use Rattle.m_text.proofs.RunLemmas.{run_step}
use Rattle.m_text.proofs.printing.push_value.Goals as goal

pub returns-in_err-rest-2-clause-err : goal.returns-in_err-rest-2-clause-err
returns-in_err-rest-2-clause-err c =
    let old : List ℕ = c.args.out.now.items in
    on_err {P = take (length old) c.push_run-in-loop-rest.new.out.items ≡ old} c.from_residual-in_err-rest-2.result
    (begins_pushed old c.loop-rest.out.items _ c.push_run-in-loop-rest.new.out.items (95 ∷ [])
    c.loop-rest.invariant.begins c.in_ok-push.ensures.items c.in_err-rest-2.ensures.err)

pub loop-rest-preserved : goal.loop-rest-preserved
loop-rest-preserved c =
    let old : List ℕ = c.args.out.now.items in
    let some : 0 < length c.loop-rest.rest.now =
    first_of (search rules, search (rules, tests), grind (arith, nat_tests)) in
    record {
      text = run_step old c.loop-rest.out.items _ _ c.loop-rest.rest.now c.in_ok-rest-2.rest.now _ some
          c.loop-rest.invariant.text c.in_ok-push.ensures.items c.in_ok-rest-2.ensures.ok;
      begins = begins_pushed old c.loop-rest.out.items _ c.push_run-in-loop-rest.new.out.items (95 ∷ [])
          c.loop-rest.invariant.begins c.in_ok-push.ensures.items c.in_ok-rest-2.ensures.grown;
    }
