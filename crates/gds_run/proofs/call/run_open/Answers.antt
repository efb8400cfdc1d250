use Rattle.std.proofs.Common.{◌≡◌, ℕ, List, [], Option, None, Some, subst, sym, ap, ◌∙◌}
use Rattle.gds_lines.specs.LinesState.{LinesState, Reads}
use Rattle.gds_units.specs.State.{UnitsState}
use Rattle.gds_run.specs.Ending.{EndsRun}
use Rattle.gds_run.specs.Progress.{Ends, Progress}
use Rattle.gds_run.proofs.CallLemmas.{ended_run, no_refusal}
use Rattle.gds_run.proofs.call.run_open.Goals as goal

pub returns-clause-run : goal.returns-clause-run
returns-clause-run g c o text is script p =
    let h = g.H.Host in
    let s = c.new-session.result in
    let last : c.into_host.result ≡ c.answer_script-result.new.session.base.host =
    c.into_host.ensures ∙ ap (λ (u : UnitsState g.row.H.Denot). u.host) c.into_units.ensures.units in
    let start = subst (λ base. Progress h.told h.moment h.left_since o o.script base s.waiting.items s.changes)
    (sym c.new-session.ensures.base)
    (subst (λ waits. Progress h.told h.moment h.left_since o o.script c.args.base waits s.changes)
    (sym c.new-session.ensures.waiting)
    (subst (λ changes. Progress h.told h.moment h.left_since o o.script c.args.base [] changes)
    (sym c.new-session.ensures.changes) p)) in
    subst (λ now. Ends h.told h.moment h.left_since o now c.answer_script-result.result) (sym last)
    (c.answer_script-result.ensures.run o text (ap (λ (l : LinesState). l.left) c.new-lines.ensures ∙ is) script start)

pub returns-clause-opened : goal.returns-clause-opened
returns-clause-opened g c =
    let h = g.H.Host in
    let old = c.new-session.result.base in
    let new = c.answer_script-result.new.session.base in
    no_refusal (h.told old.host ≡ None) (h.failures old.host) (h.failures new.host) c.new-lines.result
    c.answer_script-result.new.lines c.answer_script-result.result c.answer_script-result.ensures.ends.cause

pub returns-clause-ends : goal.returns-clause-ends
returns-clause-ends g c =
    let h = g.H.Host in
    let old = c.new-session.result.base in
    let new = c.answer_script-result.new.session.base in
    let x = c.new-lines.result in
    let y = c.answer_script-result.new.lines in
    let r = c.answer_script-result.result in
    let law = c.taken_bytes_are_the_given.ensures in
    let left = g.I.Source.left c.args.input in
    let untaken : x.untaken ≡ left = ap (λ (l : LinesState). l.untaken) c.new-lines.ensures in
    let none : x.taken ≡ 0 = ap (λ (l : LinesState). l.taken) c.new-lines.ensures in
    let reads : (input : List ℕ) → left ≡ Some input → Reads input y =
    λ input is. law.onward input x y (law.start input x (untaken ∙ is) none)
    c.answer_script-result.ensures.ends.took in
    let ended = ended_run h.told h.failures old new left x y r untaken none reads law.refused
    c.answer_script-result.ensures.ends in
    let last : c.into_host.result ≡ new.host =
    c.into_host.ensures ∙ ap (λ (u : UnitsState g.row.H.Denot). u.host) c.into_units.ensures.units in
    let begun : old.host ≡ c.args.base.host =
    ap (λ (u : UnitsState g.row.H.Denot). u.host) c.new-session.ensures.base in
    let failed : x.failures ≡ g.I.Source.failures c.args.input =
    ap (λ (l : LinesState). l.failures) c.new-lines.ensures in
    subst (λ host. EndsRun h.told h.failures host c.into_host.result left (g.I.Source.left c.into_source.result)
    (g.I.Source.failures c.args.input) (g.I.Source.failures c.into_source.result) r) begun
    (subst (λ host. EndsRun h.told h.failures old.host host left (g.I.Source.left c.into_source.result)
    (g.I.Source.failures c.args.input) (g.I.Source.failures c.into_source.result) r) (sym last)
    (subst (λ rest. EndsRun h.told h.failures old.host new.host left rest
    (g.I.Source.failures c.args.input) (g.I.Source.failures c.into_source.result) r)
    (sym c.into_source.ensures.untaken)
    (subst (λ n. EndsRun h.told h.failures old.host new.host left y.untaken n
    (g.I.Source.failures c.into_source.result) r) failed
    (subst (λ n. EndsRun h.told h.failures old.host new.host left y.untaken x.failures n r)
    (sym c.into_source.ensures.failures) ended))))
