use Rattle.std.proofs.Common.{◌≡◌, ◌^◌, ◌<◌, ◌∷◌, ◌++◌, arith, ap, subst, sym, ◌∙◌}
use Rattle.std.proofs.lemmas.Result.{err_from_is_err_and}
use Rattle.gds_units.specs.State.{image_of}
use Rattle.gds_script.specs.declared.answer.Answer.TheVariants.{Epoch}
use Rattle.gds_script.specs.Answer.{answer_line}
use Rattle.gds_run.specs.declared.error.RunError.TheVariants.{SayFault}
use Rattle.gds_run.specs.Progress.{GoesOn, Progress}
use Rattle.gds_run.proofs.AnsweredLemmas.{epoch_waits}
use Rattle.gds_run.proofs.GoesLemmas.{left_over, said_short}
use Rattle.gds_run.proofs.SayingLemmas.{settled}
use Rattle.gds_run.proofs.SettledLemmas.{progress_of, settled_on}
use Rattle.gds_run.proofs.session.Session.answer_epoch.Goals as goal

pub returns-in_err-say_waiting-clause-run : goal.returns-in_err-say_waiting-clause-run
returns-in_err-say_waiting-clause-run g c o bytes rest asks p =
    let h = g.H.Host in
    let s = c.say_waiting.new.self in
    let exit = err_from_is_err_and c.from_residual.result c.from_residual.ensures.1 in
    let from = exit.2 in
    let fault = c.in_err-say_waiting.ensures.err in
    let is : exit.0 ≡ SayFault = cc in
    subst (GoesOn h.told h.moment h.left_since o bytes rest s.base s.waiting.items s.changes) (sym exit.1)
    (said_short h.told h.moment h.left_since o bytes rest s.base s.waiting.items s.changes exit.0 is
    (c.in_err-say_waiting.ensures.run o (bytes ∷ rest) p))

pub returns-in_err-epoch-clause-run : goal.returns-in_err-epoch-clause-run
returns-in_err-epoch-clause-run g c o bytes rest asks p =
    let h = g.H.Host in
    let s = c.say_waiting.new.self in
    let few : s.changes < 2 ^ 64 = omega (arith, c.say_waiting.ensures.changes, c.requires.few) in
    let all = settled h.told h.moment h.left_since g.met.H.Host.longer o (bytes ∷ rest) s.base s.waiting.items s.changes
    (c.in_ok-say_waiting.ensures.run o (bytes ∷ rest) p) few c.in_ok-say_waiting.ensures.empty in
    let new = c.epoch.new.self in
    let q = progress_of h.told h.moment h.left_since o (bytes ∷ rest) new s.changes
    (settled_on h.told h.moment h.left_since o g.met.H.Host.now_left (bytes ∷ rest) s.base s.changes all few
    g.met.H.Host.longer new c.epoch.ensures.any_moment (ap image_of c.epoch.ensures.same) c.epoch.ensures.said) in
    let waits = s.waiting.items in
    let result = c.from_residual-in_err-epoch.result in
    let exit = err_from_is_err_and result c.from_residual-in_err-epoch.ensures.1 in
    subst (GoesOn h.told h.moment h.left_since o bytes rest new waits s.changes) (sym exit.1)
    (left_over h.told h.moment h.left_since o bytes rest new waits s.changes exit.0
    (subst (λ left. Progress h.told h.moment h.left_since o (bytes ∷ rest) new left s.changes)
    (sym (c.in_ok-say_waiting.ensures.empty)) q))

pub returns-in_err-write_answer-clause-run : goal.returns-in_err-write_answer-clause-run
returns-in_err-write_answer-clause-run g c o bytes rest asks p =
    let h = g.H.Host in
    let s = c.say_waiting.new.self in
    let few : s.changes < 2 ^ 64 = omega (arith, c.say_waiting.ensures.changes, c.requires.few) in
    let all = settled h.told h.moment h.left_since g.met.H.Host.longer o (bytes ∷ rest) s.base s.waiting.items s.changes
    (c.in_ok-say_waiting.ensures.run o (bytes ∷ rest) p) few c.in_ok-say_waiting.ensures.empty in
    let new = c.epoch.new.self in
    let q = progress_of h.told h.moment h.left_since o (bytes ∷ rest) new s.changes
    (settled_on h.told h.moment h.left_since o g.met.H.Host.now_left (bytes ∷ rest) s.base s.changes all few
    g.met.H.Host.longer new c.epoch.ensures.any_moment (ap image_of c.epoch.ensures.same) c.epoch.ensures.said) in
    let waits = c.write_answer.new.out.items in
    let result = c.from_residual-in_err-write_answer.result in
    let exit = err_from_is_err_and result c.from_residual-in_err-write_answer.ensures.1 in
    subst (GoesOn h.told h.moment h.left_since o bytes rest new waits s.changes) (sym exit.1)
    (left_over h.told h.moment h.left_since o bytes rest new waits s.changes exit.0
    (subst (λ left. Progress h.told h.moment h.left_since o (bytes ∷ rest) new left s.changes)
    (sym (c.in_err-write_answer.ensures.err ∙ c.in_ok-say_waiting.ensures.empty)) q))

pub returns-clause-run : goal.returns-clause-run
returns-clause-run g c o bytes rest asks p =
    let h = g.H.Host in
    let s = c.say_waiting.new.self in
    let few : s.changes < 2 ^ 64 = omega (arith, c.say_waiting.ensures.changes, c.requires.few) in
    let all = settled h.told h.moment h.left_since g.met.H.Host.longer o (bytes ∷ rest) s.base s.waiting.items s.changes
    (c.in_ok-say_waiting.ensures.run o (bytes ∷ rest) p) few c.in_ok-say_waiting.ensures.empty in
    let new = c.epoch.new.self in
    subst (λ waits. Progress h.told h.moment h.left_since o rest new waits s.changes)
    (sym (c.in_ok-write_answer.ensures.ok
    ∙ ap (λ waits. waits ++ answer_line (Epoch s.changes)) c.in_ok-say_waiting.ensures.empty))
    (epoch_waits h.told h.moment h.left_since c.one_request.ensures o bytes rest s.base s.changes all few
    g.met.H.Host.now_left g.met.H.Host.longer new c.epoch.ensures.said c.epoch.ensures.any_moment asks
    (ap image_of c.epoch.ensures.same) c.in_ok-epoch.ensures.stored)
