use Rattle.std.proofs.Common.{◌≡◌, ◌<◌, ◌≤◌, ◌∷◌, [], arith, ℕ, List, Ok, Err, Option, codes, sym, subst}
use Rattle.std.proofs.lemmas.Result.{err_from_is_err_and}
use Rattle.host_model.proofs.FrameLemmas.{TellsOn-some}
use Rattle.gds_lines.specs.Lines.{after_first_line, next_line}
use Rattle.gds_script.proofs.ScriptLemmas.{script_first, script_last}
use Rattle.gds_script.specs.Script.{script_of}
use Rattle.gds_run.specs.declared.line.Line.{Line}
use Rattle.gds_run.specs.Ending.{EndsScript}
use Rattle.gds_run.specs.Line.{MeansNext}
use Rattle.gds_run.specs.Progress.{GoesThrough, Progress}
use Rattle.gds_run.proofs.EndsLemmas.{answering_script, script_begun, script_err, script_ok, script_then}
use Rattle.gds_run.proofs.ThroughLemmas.{asked_through, line_through, next_meant, none_next}
use Rattle.gds_run.proofs.lines.answer_lines.Goals as goal

pub loop-line-init : goal.loop-line-init
loop-line-init g c = record {
  going = c.requires.going;
  reading = c.requires.reading;
  few = c.requires.few;
  short = c.requires.short;
  taken = c.requires.taken;
  run = λ o text is p. (text, is, p);
  ends = script_begun g.H.Host.told g.H.Host.failures c.args.session.now.base c.args.lines.now tt c.requires.taken;
}

pub loop-line-preserved : goal.loop-line-preserved
loop-line-preserved g c =
    let h = g.H.Host in
    let old = c.loop-line.session in
    let mid = c.next_line.new.session in
    let new = c.answer.new.self in
    let passed : c.loop-line.lines.passed < c.next_line.new.lines.passed =
    rw c.in-Some.is at c.in_ok-line.ensures.passed in
    record {
      going = c.in_ok-answer.ensures.ends.going;
      reading = c.in_ok-line.ensures.reading;
      few = omega (arith, c.answer.ensures.changes, c.next_line.ensures.changes, c.loop-line.invariant.few, passed);
      short = c.in_ok-line.ensures.short;
      taken = c.in_ok-line.ensures.taken;
      run = λ o text is p.
          let at = c.loop-line.invariant.run o text is p in
          let asked = c.in_ok-line.ensures.run o (script_of at.0) at.2 in
          let meant = next_meant (next_line at.0) c.in-Some.line
          (rw c.in-Some.is at c.in_ok-line.ensures.line at.0 at.1) in
          let rest = TellsOn-some c.loop-line.lines.left c.next_line.new.lines.left
          (λ text rest. rest ≡ after_first_line text) at.0 at.1 c.in_ok-line.ensures.left in
          let first = script_first at.0 meant.0 meant.1 in
          let goes = c.in_ok-answer.ensures.run o meant.0 (script_of (after_first_line at.0)) meant.2
          (subst (λ script. Progress h.told h.moment h.left_since o script mid.base mid.waiting.items mid.changes) first
          asked) in (
            rest.0,
            rest.1,
            subst (λ left. Progress h.told h.moment h.left_since o (script_of left) new.base
                new.waiting.items new.changes) (sym rest.2) goes,
          );
      ends = script_then h.told h.failures c.args.session.now.base mid.base new.base c.args.lines.now
          c.next_line.new.lines c.next_line.new.lines c.in_ok-line.field-0 (Ok tt)
          (script_then h.told h.failures c.args.session.now.base old.base mid.base c.args.lines.now c.loop-line.lines
          c.next_line.new.lines tt (Ok c.in_ok-line.field-0) c.loop-line.invariant.ends c.in_ok-line.ensures.ends)
          (answering_script h.told h.failures mid.base new.base c.next_line.new.lines (Ok tt)
          c.in_ok-line.ensures.taken c.in_ok-answer.ensures.ends);
    }

pub returns-in_err-line-clause-run : goal.returns-in_err-line-clause-run
returns-in_err-line-clause-run g c o text is p =
    let h = g.H.Host in
    let s = c.next_line.new.session in
    let at = c.loop-line.invariant.run o text is p in
    let exit = err_from_is_err_and c.from_residual.result c.from_residual.ensures.1 in
    let from = exit.2 in
    let same : exit.0 ≡ c.in_err-line.field-0.0 = cc in
    subst (GoesThrough h.told h.moment h.left_since o (codes "EPOCH" ∷ []) s.base s.waiting.items s.changes)
    (sym exit.1)
    (subst (λ e. GoesThrough h.told h.moment h.left_since o {T = Unit {0}} (codes "EPOCH" ∷ []) s.base s.waiting.items
    s.changes (Err e))
    (sym same)
    (asked_through h.told h.moment h.left_since o s.base s.waiting.items s.changes (Option Line) (Unit {0})
    (script_of at.0) (codes "EPOCH" ∷ []) c.in_err-line.field-0.0
    (c.in_err-line.ensures.run o (script_of at.0) at.2)))

pub returns-in_err-line-clause-ends : goal.returns-in_err-line-clause-ends
returns-in_err-line-clause-ends g c =
    let h = g.H.Host in
    let s = c.next_line.new.session in
    let exit = err_from_is_err_and c.from_residual.result c.from_residual.ensures.1 in
    let from = exit.2 in
    let same : exit.0 ≡ c.in_err-line.field-0.0 = cc in
    subst (EndsScript {T = Unit {0}} h.told h.failures c.args.session.now.base s.base c.args.lines.now
    c.next_line.new.lines) (sym exit.1)
    (subst (λ e. EndsScript {T = Unit {0}} h.told h.failures c.args.session.now.base s.base c.args.lines.now
    c.next_line.new.lines (Err e)) (sym same)
    (script_then h.told h.failures c.args.session.now.base c.loop-line.session.base s.base c.args.lines.now
    c.loop-line.lines c.next_line.new.lines tt (Err c.in_err-line.field-0.0) c.loop-line.invariant.ends
    (script_err h.told h.failures (Option Line) (Unit {0}) c.loop-line.session.base s.base c.loop-line.lines
    c.next_line.new.lines c.in_err-line.field-0.0 c.in_err-line.ensures.ends)))

pub returns-in_err-answer-clause-run : goal.returns-in_err-answer-clause-run
returns-in_err-answer-clause-run g c o text is p =
    let h = g.H.Host in
    let mid = c.next_line.new.session in
    let s = c.answer.new.self in
    let at = c.loop-line.invariant.run o text is p in
    let asked = c.in_ok-line.ensures.run o (script_of at.0) at.2 in
    let meant = next_meant (next_line at.0) c.in-Some.line
    (rw c.in-Some.is at c.in_ok-line.ensures.line at.0 at.1) in
    let first = script_first at.0 meant.0 meant.1 in
    let goes = c.in_err-answer.ensures.run o meant.0 (script_of (after_first_line at.0)) meant.2
    (subst (λ script. Progress h.told h.moment h.left_since o script mid.base mid.waiting.items mid.changes) first
    asked) in
    let exit = err_from_is_err_and c.from_residual-in_err-answer.result c.from_residual-in_err-answer.ensures.1 in
    let from = exit.2 in
    let same : exit.0 ≡ c.in_err-answer.field-0.0 = cc in
    subst (GoesThrough h.told h.moment h.left_since o (codes "EPOCH" ∷ []) s.base s.waiting.items s.changes)
    (sym exit.1)
    (subst (λ e. GoesThrough h.told h.moment h.left_since o {T = Unit {0}} (codes "EPOCH" ∷ []) s.base s.waiting.items
    s.changes (Err e))
    (sym same)
    (line_through h.told h.moment h.left_since o s.base s.waiting.items s.changes (Unit {0}) (Unit {0}) meant.0
    (script_of (after_first_line at.0)) (codes "EPOCH" ∷ []) c.in_err-answer.field-0.0 goes))

pub returns-in_err-answer-clause-ends : goal.returns-in_err-answer-clause-ends
returns-in_err-answer-clause-ends g c =
    let h = g.H.Host in
    let mid = c.next_line.new.session in
    let s = c.answer.new.self in
    let exit = err_from_is_err_and c.from_residual-in_err-answer.result c.from_residual-in_err-answer.ensures.1 in
    let from = exit.2 in
    let same : exit.0 ≡ c.in_err-answer.field-0.0 = cc in
    subst (EndsScript {T = Unit {0}} h.told h.failures c.args.session.now.base s.base c.args.lines.now
    c.next_line.new.lines) (sym exit.1)
    (subst (λ e. EndsScript {T = Unit {0}} h.told h.failures c.args.session.now.base s.base c.args.lines.now
    c.next_line.new.lines (Err e)) (sym same)
    (script_then h.told h.failures c.args.session.now.base mid.base s.base c.args.lines.now
    c.next_line.new.lines c.next_line.new.lines c.in_ok-line.field-0 (Err c.in_err-answer.field-0.0)
    (script_then h.told h.failures c.args.session.now.base c.loop-line.session.base mid.base c.args.lines.now
    c.loop-line.lines c.next_line.new.lines tt (Ok c.in_ok-line.field-0) c.loop-line.invariant.ends
    c.in_ok-line.ensures.ends)
    (answering_script h.told h.failures mid.base s.base c.next_line.new.lines (Err c.in_err-answer.field-0.0)
    c.in_ok-line.ensures.taken c.in_err-answer.ensures.ends)))

pub returns-clause-run : goal.returns-clause-run
returns-clause-run g c o text is p =
    let h = g.H.Host in
    let s = c.next_line.new.session in
    let at = c.loop-line.invariant.run o text is p in
    let last = script_last at.0 (none_next (next_line at.0)
    (rw c.in_default.is at c.in_ok-line.ensures.line at.0 at.1)) in
    subst (λ script. Progress h.told h.moment h.left_since o script s.base s.waiting.items s.changes) last
    (c.in_ok-line.ensures.run o (script_of at.0) at.2)

pub returns-clause-ends : goal.returns-clause-ends
returns-clause-ends g c =
    let h = g.H.Host in
    script_ok h.told h.failures (Option Line) (Unit {0}) c.args.session.now.base c.next_line.new.session.base
    c.args.lines.now c.next_line.new.lines c.in_ok-line.field-0 tt c.in_ok-line.ensures.taken
    (script_then h.told h.failures c.args.session.now.base c.loop-line.session.base c.next_line.new.session.base
    c.args.lines.now c.loop-line.lines c.next_line.new.lines tt (Ok c.in_ok-line.field-0) c.loop-line.invariant.ends
    c.in_ok-line.ensures.ends)
