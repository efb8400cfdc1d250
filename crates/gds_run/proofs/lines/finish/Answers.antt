use Rattle.std.proofs.Common.{◌≡◌, ◌^◌, ◌<◌, ◌++◌, [], arith, ap, codes, sym, subst, ◌∙◌}
use Rattle.std.proofs.lemmas.Result.{err_from_is_err_and}
use Rattle.gds_units.specs.State.{UnitsState}
use Rattle.gds_script.proofs.ScriptLemmas.{epoch_asks}
use Rattle.gds_run.specs.Progress.{Ends, Progress}
use Rattle.gds_run.proofs.FinishLemmas.{cut_at_end, kept_settled, whole_at_end}
use Rattle.gds_run.proofs.ThroughLemmas.{goes_cut}
use Rattle.gds_run.proofs.lines.finish.Goals as goal

pub returns-in_err-answer_epoch-clause-run : goal.returns-in_err-answer_epoch-clause-run
returns-in_err-answer_epoch-clause-run g c o p =
    let h = g.H.Host in
    let s = c.answer_epoch.new.self in
    let exit = err_from_is_err_and c.from_residual.result c.from_residual.ensures.1 in
    subst (Ends h.told h.moment h.left_since o s.base.host) (sym exit.1)
    (goes_cut h.told h.moment h.left_since o s.base s.waiting.items s.changes (Unit {0}) (codes "EPOCH") []
    c.in_err-answer_epoch.field-0.0 (c.in_err-answer_epoch.ensures.run o (codes "EPOCH") [] epoch_asks p))

pub returns-in_err-say_waiting-clause-run : goal.returns-in_err-say_waiting-clause-run
returns-in_err-say_waiting-clause-run g c o p =
    let h = g.H.Host in
    let result = c.from_residual-in_err-say_waiting.result in
    let exit = err_from_is_err_and result c.from_residual-in_err-say_waiting.ensures.1 in
    subst (Ends h.told h.moment h.left_since o c.say_waiting.new.self.base.host) (sym exit.1)
    (c.in_err-say_waiting.ensures.run o [] (c.in_ok-answer_epoch.ensures.run o (codes "EPOCH") [] epoch_asks p))

pub returns-in_err-shorten-clause-run : goal.returns-in_err-shorten-clause-run
returns-in_err-shorten-clause-run g c o p =
    let h = g.H.Host in
    let s = c.say_waiting.new.self in
    let new = c.shorten.new.self in
    let few : s.changes < 2 ^ 64 =
    omega (arith, c.say_waiting.ensures.changes, c.answer_epoch.ensures.changes, c.requires.few) in
    let q = subst (λ waits. Progress h.told h.moment h.left_since o [] s.base waits s.changes)
    c.in_ok-say_waiting.ensures.empty
    (c.in_ok-say_waiting.ensures.run o [] (c.in_ok-answer_epoch.ensures.run o (codes "EPOCH") [] epoch_asks p)) in
    let settled = kept_settled h.told h.moment h.left_since o g.met.H.Host.now_left g.met.H.Host.longer s.base new
    s.changes few q c.shorten.ensures.any_moment c.shorten.ensures.image c.shorten.ensures.said in
    let exit = err_from_is_err_and c.from_residual-in_err-shorten.result c.from_residual-in_err-shorten.ensures.1 in
    subst (Ends h.told h.moment h.left_since o new.host) (sym exit.1)
    (cut_at_end h.told h.moment h.left_since o new s.changes settled)

pub returns-clause-run : goal.returns-clause-run
returns-clause-run g c o p =
    let h = g.H.Host in
    let s = c.say_waiting.new.self in
    let new = c.shorten.new.self in
    let few : s.changes < 2 ^ 64 =
    omega (arith, c.say_waiting.ensures.changes, c.answer_epoch.ensures.changes, c.requires.few) in
    let q = subst (λ waits. Progress h.told h.moment h.left_since o [] s.base waits s.changes)
    c.in_ok-say_waiting.ensures.empty
    (c.in_ok-say_waiting.ensures.run o [] (c.in_ok-answer_epoch.ensures.run o (codes "EPOCH") [] epoch_asks p)) in
    let settled = kept_settled h.told h.moment h.left_since o g.met.H.Host.now_left g.met.H.Host.longer s.base new
    s.changes few q c.shorten.ensures.any_moment c.shorten.ensures.image c.shorten.ensures.said in
    let none : new.changed ≡ 0 = ap (λ (u : UnitsState g.row.H.Denot). u.changed) c.shorten.ensures.same
    ∙ ap (λ (u : UnitsState g.row.H.Denot). u.changed) c.say_waiting.ensures.base
    ∙ c.in_ok-answer_epoch.ensures.stored in
    whole_at_end h.told h.moment h.left_since o new s.changes settled c.one_request.ensures
    (p.done.told_lines ++ p.done.waiting_lines) p.script_is new.file
    (c.in_ok-shorten.ensures.file ∙ sym c.shorten.ensures.image) (c.hold_told.ensures.file none)
    (λ d left. g.met.H.Host.said_stays new.host settled.contents d settled.host_tells left)
