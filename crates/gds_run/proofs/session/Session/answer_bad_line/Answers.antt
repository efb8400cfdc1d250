use Rattle.std.proofs.Common.{refl, subst, sym, inr}
use Rattle.gds_script.specs.declared.answer.Answer.TheVariants.{BadLine}
use Rattle.gds_run.specs.Progress.{Progress}
use Rattle.gds_run.proofs.AnsweredLemmas.{unchanged}
use Rattle.gds_script.proofs.EpochLemmas.{bad_no_epoch}
use Rattle.gds_run.proofs.session.Session.answer_bad_line.Goals as goal

pub returns-clause-run : goal.returns-clause-run
returns-clause-run g c o bytes rest none p =
    let h = g.H.Host in
    let s = c.args.self.now in
    subst (λ waits. Progress h.told h.moment h.left_since o rest s.base waits s.changes)
    (sym c.in_ok-write_answer.ensures.ok)
    (unchanged h.told h.moment h.left_since c.one_request.ensures o bytes rest s.base s.waiting.items s.changes p
    BadLine bad_no_epoch (inr (none, refl, refl)))
