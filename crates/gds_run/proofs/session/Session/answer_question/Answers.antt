use Rattle.std.proofs.Common.{◌∷◌, subst, sym}
use Rattle.std.proofs.lemmas.Result.{err_from_is_err_and}
use Rattle.gds_run.specs.Progress.{GoesOn, Progress}
use Rattle.gds_run.specs.Request.{question_request}
use Rattle.gds_run.proofs.AnsweredLemmas.{read_on}
use Rattle.gds_run.proofs.RequestLemmas.{question_no_epoch}
use Rattle.gds_run.proofs.GoesLemmas.{answered, left_over}
use Rattle.gds_run.proofs.session.Session.answer_question.Goals as goal

pub returns-in_err-answer-clause-run : goal.returns-in_err-answer-clause-run
returns-in_err-answer-clause-run g c o bytes rest asks p =
    let h = g.H.Host in
    let s = c.args.self.now in
    let new = c.answer_to.new.base in
    let exit = err_from_is_err_and c.from_residual.result c.from_residual.ensures.1 in
    subst (GoesOn h.told h.moment h.left_since o bytes rest new s.waiting.items s.changes) (sym exit.1)
    (left_over h.told h.moment h.left_since o bytes rest new s.waiting.items s.changes exit.0
    (read_on h.told h.moment h.left_since o (bytes ∷ rest) g.met.H.Host.longer h.failures s.base new s.waiting.items
    s.changes p c.answer_to.ensures.read))

pub returns-in_err-write_answer-clause-run : goal.returns-in_err-write_answer-clause-run
returns-in_err-write_answer-clause-run g c o bytes rest asks p =
    let h = g.H.Host in
    let s = c.args.self.now in
    let new = c.answer_to.new.base in
    let result = c.from_residual-in_err-write_answer.result in
    let exit = err_from_is_err_and result c.from_residual-in_err-write_answer.ensures.1 in
    subst (GoesOn h.told h.moment h.left_since o bytes rest new c.write_answer.new.out.items s.changes) (sym exit.1)
    (left_over h.told h.moment h.left_since o bytes rest new c.write_answer.new.out.items s.changes exit.0
    (read_on h.told h.moment h.left_since o (bytes ∷ rest) g.met.H.Host.longer h.failures s.base new
    c.write_answer.new.out.items s.changes
    (subst (λ waits. Progress h.told h.moment h.left_since o (bytes ∷ rest) s.base waits s.changes)
    (sym c.in_err-write_answer.ensures.err) p) c.answer_to.ensures.read))

pub returns-clause-run : goal.returns-clause-run
returns-clause-run g c o bytes rest asks p =
    let h = g.H.Host in
    let s = c.args.self.now in
    let new = c.answer_to.new.base in
    let q = read_on h.told h.moment h.left_since o (bytes ∷ rest) g.met.H.Host.longer h.failures s.base new
    s.waiting.items s.changes p c.answer_to.ensures.read in
    subst (λ waits. Progress h.told h.moment h.left_since o rest new waits s.changes)
    (sym c.in_ok-write_answer.ensures.ok)
    (answered h.told h.moment h.left_since o bytes rest new s.waiting.items s.changes c.one_request.ensures s.base
    (question_request c.args.question.now) c.in_ok-answer.answer asks c.in_ok-answer.ensures.answer
    (λ state. question_no_epoch c.args.question.now state state c.in_ok-answer.answer) q)
