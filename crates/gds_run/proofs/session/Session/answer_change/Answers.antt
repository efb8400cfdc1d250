use Rattle.std.proofs.Common.{◌≡◌, ◌+◌, ◌^◌, ◌<◌, [], ◌∷◌, ◌++◌, arith, ap, subst, sym, ◌∙◌}
use Rattle.std.proofs.lemmas.Result.{err_from_is_err_and}
use Rattle.gds_script.specs.declared.answer.Answer.TheVariants.{Done}
use Rattle.gds_script.specs.Answer.{answer_line}
use Rattle.gds_run.specs.declared.error.RunError.TheVariants.{SayFault}
use Rattle.gds_run.specs.Progress.{GoesOn, Progress}
use Rattle.gds_run.specs.Request.{IsAnswered, IsMadeOrRefused, change_request}
use Rattle.gds_run.proofs.AnsweredLemmas.{made_waits}
use Rattle.gds_run.proofs.RequestLemmas.{change_no_epoch}
use Rattle.gds_run.proofs.GoesLemmas.{answered, left_over, said_short}
use Rattle.gds_run.proofs.SayingLemmas.{settled}
use Rattle.gds_run.proofs.SettledLemmas.{progress_of, settled_on}
use Rattle.gds_run.proofs.session.Session.answer_change.Goals as goal

pub returns-in_err-say_waiting-clause-run : goal.returns-in_err-say_waiting-clause-run
returns-in_err-say_waiting-clause-run g c o bytes rest asks p =
    let h = g.H.Host in
    let s = c.say_waiting.new.self in
    let exit = err_from_is_err_and c.from_residual.result c.from_residual.ensures.1 in
    let from = exit.2 in
    let fault = c.in_err-say_waiting.ensures.err in
    let is : exit.0 ≡ SayFault = cc in
    subst (GoesOn h.told h.moment h.left_since o bytes rest s.base s.waiting.items s.changes) (sym exit.1)
    (said_short h.told h.moment h.left_since o bytes rest s.base s.waiting.items s.changes exit.0 is
    (c.in_err-say_waiting.ensures.run o (bytes ∷ rest) p))

pub returns-in_err-write_answer-in-Ok-Some-clause-run : goal.returns-in_err-write_answer-in-Ok-Some-clause-run
returns-in_err-write_answer-in-Ok-Some-clause-run g c o bytes rest asks p =
    let h = g.H.Host in
    let s = c.say_waiting.new.self in
    let few : s.changes < 2 ^ 64 = omega (arith, c.say_waiting.ensures.changes, c.requires.few) in
    let all = settled h.told h.moment h.left_since g.met.H.Host.longer o (bytes ∷ rest) s.base s.waiting.items s.changes
    (c.in_ok-say_waiting.ensures.run o (bytes ∷ rest) p) few c.in_ok-say_waiting.ensures.empty in
    let new = c.make_change.new.base in
    let leaves = c.make_change.ensures.leaves in
    let refused : IsAnswered s.base new (change_request c.args.change.now)
    c.in-Ok-Some.refusal =
    subst (IsMadeOrRefused s.base new (change_request c.args.change.now)) c.in-Ok-Some.field-0-is
    c.in-Ok-Some.ensures.answer in
    let q = progress_of h.told h.moment h.left_since o (bytes ∷ rest) new s.changes
    (settled_on h.told h.moment h.left_since o g.met.H.Host.now_left (bytes ∷ rest) s.base s.changes all few
    g.met.H.Host.longer new leaves.any_moment refused.0 leaves.said) in
    let waits = c.write_answer-in-Ok-Some.new.out.items in
    let result = c.from_residual-in_err-write_answer-in-Ok-Some.result in
    let exit = err_from_is_err_and result c.from_residual-in_err-write_answer-in-Ok-Some.ensures.1 in
    subst (GoesOn h.told h.moment h.left_since o bytes rest new waits s.changes) (sym exit.1)
    (left_over h.told h.moment h.left_since o bytes rest new waits s.changes exit.0
    (subst (λ left. Progress h.told h.moment h.left_since o (bytes ∷ rest) new left s.changes)
    (sym (c.in_err-write_answer-in-Ok-Some.ensures.err ∙ c.clear.ensures.items)) q))

pub returns-in-Ok-None-clause-run : goal.returns-in-Ok-None-clause-run
returns-in-Ok-None-clause-run g c o bytes rest asks p =
    let h = g.H.Host in
    let s = c.say_waiting.new.self in
    let few : s.changes < 2 ^ 64 = omega (arith, c.say_waiting.ensures.changes, c.requires.few) in
    let all = settled h.told h.moment h.left_since g.met.H.Host.longer o (bytes ∷ rest) s.base s.waiting.items s.changes
    (c.in_ok-say_waiting.ensures.run o (bytes ∷ rest) p) few c.in_ok-say_waiting.ensures.empty in
    let new = c.make_change.new.base in
    let leaves = c.make_change.ensures.leaves in
    subst (λ waits. Progress h.told h.moment h.left_since o rest new waits (s.changes + 1))
    (sym (c.in_ok-write_answer.ensures.ok
    ∙ ap (λ waits. waits ++ answer_line Done) c.in_ok-say_waiting.ensures.empty))
    (made_waits h.told h.moment h.left_since c.one_request.ensures o bytes rest s.base s.changes all few
    g.met.H.Host.now_left g.met.H.Host.longer new leaves.said leaves.any_moment (change_request c.args.change.now)
    asks
    (subst (IsMadeOrRefused s.base new (change_request c.args.change.now)) c.in-Ok-None.field-0-is
    c.in-Ok-None.ensures.answer))

pub returns-in_ok-write_answer-in-Ok-Some-clause-run : goal.returns-in_ok-write_answer-in-Ok-Some-clause-run
returns-in_ok-write_answer-in-Ok-Some-clause-run g c o bytes rest asks p =
    let h = g.H.Host in
    let s = c.say_waiting.new.self in
    let few : s.changes < 2 ^ 64 = omega (arith, c.say_waiting.ensures.changes, c.requires.few) in
    let all = settled h.told h.moment h.left_since g.met.H.Host.longer o (bytes ∷ rest) s.base s.waiting.items s.changes
    (c.in_ok-say_waiting.ensures.run o (bytes ∷ rest) p) few c.in_ok-say_waiting.ensures.empty in
    let new = c.make_change.new.base in
    let leaves = c.make_change.ensures.leaves in
    let refused : IsAnswered s.base new (change_request c.args.change.now)
    c.in-Ok-Some.refusal =
    subst (IsMadeOrRefused s.base new (change_request c.args.change.now)) c.in-Ok-Some.field-0-is
    c.in-Ok-Some.ensures.answer in
    let q = progress_of h.told h.moment h.left_since o (bytes ∷ rest) new s.changes
    (settled_on h.told h.moment h.left_since o g.met.H.Host.now_left (bytes ∷ rest) s.base s.changes all few
    g.met.H.Host.longer new leaves.any_moment refused.0 leaves.said) in
    let refusal = c.in-Ok-Some.refusal in
    subst (λ waits. Progress h.told h.moment h.left_since o rest new waits s.changes)
    (sym (c.in_ok-write_answer-in-Ok-Some.ensures.ok
    ∙ ap (λ waits. waits ++ answer_line refusal) c.clear.ensures.items))
    (answered h.told h.moment h.left_since o bytes rest new [] s.changes c.one_request.ensures s.base
    (change_request c.args.change.now) refusal asks refused
    (λ state. change_no_epoch c.args.change.now state state refusal) q)

pub returns-in-Err-clause-run : goal.returns-in-Err-clause-run
returns-in-Err-clause-run g c o bytes rest asks p =
    let h = g.H.Host in
    let s = c.say_waiting.new.self in
    let few : s.changes < 2 ^ 64 = omega (arith, c.say_waiting.ensures.changes, c.requires.few) in
    let all = settled h.told h.moment h.left_since g.met.H.Host.longer o (bytes ∷ rest) s.base s.waiting.items s.changes
    (c.in_ok-say_waiting.ensures.run o (bytes ∷ rest) p) few c.in_ok-say_waiting.ensures.empty in
    let new = c.make_change.new.base in
    let leaves = c.make_change.ensures.leaves in
    let q = progress_of h.told h.moment h.left_since o (bytes ∷ rest) new s.changes
    (settled_on h.told h.moment h.left_since o g.met.H.Host.now_left (bytes ∷ rest) s.base s.changes all few
    g.met.H.Host.longer new leaves.any_moment c.in-Err.ensures.leaves.image leaves.said) in
    let waits = c.clear-in-Err.new.self.items in
    left_over h.told h.moment h.left_since o bytes rest new waits s.changes c.in-Err.error
    (subst (λ left. Progress h.told h.moment h.left_since o (bytes ∷ rest) new left s.changes)
    (sym c.clear-in-Err.ensures.items) q)
