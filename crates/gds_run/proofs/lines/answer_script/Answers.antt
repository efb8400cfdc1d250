use Rattle.std.proofs.Common.{◌≡◌, ◌∷◌, [], Err, codes, rules, subst}
use Rattle.gds_run.specs.declared.error.RunError.TheVariants.{SayFault}
use Rattle.gds_run.specs.Progress.{Progress}
use Rattle.gds_run.proofs.EndsLemmas.{script_said}
use Rattle.gds_run.proofs.ThroughLemmas.{IsOther, says_cut, through_left}
use Rattle.gds_run.proofs.lines.answer_script.Goals as goal

pub returns-in-Err-SayFault-clause-run : goal.returns-in-Err-SayFault-clause-run
returns-in-Err-SayFault-clause-run g c o text is script p =
    let h = g.H.Host in
    let old = c.args.session.now in
    let fault : c.answer_lines-answered.result ≡ Err SayFault = search rules in
    rw fault at c.answer_lines-answered.ensures.run o text is
    (subst (λ lines. Progress h.told h.moment h.left_since o lines old.base old.waiting.items old.changes) script p)

pub returns-in-Err : goal.returns-in-Err
returns-in-Err g c =
    let h = g.H.Host in
    let old = c.args.session.now in
    let mid = c.answer_lines-answered.new.session in
    let s = c.say_waiting-said.new.self in
    let other : IsOther c.in-Err.error = search rules in
    record {
      run = λ o text is script p.
          let goes = c.in-Err.ensures.run o text is
          (subst (λ lines. Progress h.told h.moment h.left_since o lines old.base old.waiting.items old.changes)
          script p)
          in
          let left = through_left h.told h.moment h.left_since o mid.base mid.waiting.items mid.changes c.in-Err.error
          (codes "EPOCH" ∷ []) other goes in
          says_cut h.told h.moment h.left_since o s.base s.waiting.items s.changes c.say_waiting-said.result left.0
          (c.say_waiting-said.ensures.run o left.0 left.1);
      ends = script_said h.told h.failures old.base mid.base s.base c.args.lines.now
          c.answer_lines-answered.new.lines c.in-Err.error c.say_waiting-said.ensures.failures
          c.say_waiting-said.ensures.untold c.say_waiting-said.ensures.tells c.in-Err.ensures.ends;
    }
