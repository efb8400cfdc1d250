use Rattle.std.proofs.Common.{◌≡◌, sym, subst, Option}
use Rattle.std.proofs.lemmas.Result.{err_from_is_err_and}
use Rattle.gds_run.specs.declared.error.RunError.TheVariants.{SayFault}
use Rattle.gds_run.specs.declared.line.Line.{Line}
use Rattle.gds_run.specs.Progress.{Asked}
use Rattle.gds_run.proofs.ThroughLemmas.{asked_short}
use Rattle.gds_run.proofs.lines.next_line.Goals as goal

pub returns-in_err-say_waiting-clause-run : goal.returns-in_err-say_waiting-clause-run
returns-in_err-say_waiting-clause-run g c o rest p =
    let h = g.H.Host in
    let s = c.say_waiting.new.self in
    let exit = err_from_is_err_and c.from_residual.result c.from_residual.ensures.1 in
    let from = exit.2 in
    let fault = c.in_err-say_waiting.ensures.err in
    let is : exit.0 ≡ SayFault = cc in
    subst (Asked h.told h.moment h.left_since o rest s.base s.waiting.items s.changes) (sym exit.1)
    (asked_short h.told h.moment h.left_since o s.base s.waiting.items s.changes (Option Line) rest exit.0 is
    (c.in_err-say_waiting.ensures.run o rest p))
