use Rattle.std.proofs.Common.{◌≡◌, subst, sym}
use Rattle.gds_recovery.proofs.WorkLemmas.{was_untold}
use Rattle.gds_recovery.specs.Found.{FindsSame}
use Rattle.gds_run.proofs.CallLemmas.{broken_call, crash_call, crash_refused, ends_call, never_refused}
use Rattle.gds_run.proofs.CallLemmas.{unopened_call, unopened_refused, whole_call}
use Rattle.gds_run.proofs.call.run.Goals as goal

pub returns-in-Ok-clause-whole : goal.returns-in-Ok-clause-whole
returns-in-Ok-clause-whole g c =
    let h = g.H.Host in
    let e = c.in-Ok.ensures in
    let r = c.run_open.result in
    whole_call h.told h.moment h.left_since c.args.host c.in-Ok.base r.host (g.I.Source.left c.args.input) r.result
    e.image e.there e.one_map e.stable e.same c.run_open.ensures.run g.met.H.Host.now_left

pub returns-in-Ok-clause-broken : goal.returns-in-Ok-clause-broken
returns-in-Ok-clause-broken g c =
    let h = g.H.Host in
    let e = c.in-Ok.ensures in
    let r = c.run_open.result in
    broken_call h.told h.moment h.left_since c.args.host c.in-Ok.base r.host (g.I.Source.left c.args.input) r.result
    e.image e.there e.one_map e.stable e.same c.run_open.ensures.run

pub returns-in-Ok-clause-refused : goal.returns-in-Ok-clause-refused
returns-in-Ok-clause-refused g c =
    let h = g.H.Host in
    let r = c.run_open.result in
    never_refused r.result (h.told c.args.host) (h.told r.host) FindsSame c.run_open.ensures.opened

pub returns-in-Ok-clause-crash : goal.returns-in-Ok-clause-crash
returns-in-Ok-clause-crash g c =
    let h = g.H.Host in
    let e = c.in-Ok.ensures in
    let r = c.run_open.result in
    crash_call h.told h.moment h.left_since c.args.host c.in-Ok.base r.host (g.I.Source.left c.args.input) r.result
    e.image e.there e.one_map e.stable e.same c.run_open.ensures.run g.met.H.Host.longer e.any_moment

pub returns-in-Ok-clause-unopened : goal.returns-in-Ok-clause-unopened
returns-in-Ok-clause-unopened g c =
    let h = g.H.Host in
    let e = c.in-Ok.ensures in
    let r = c.run_open.result in
    unopened_call h.told h.moment h.left_since c.args.host c.in-Ok.base r.host (g.I.Source.left c.args.input) r.result
    e.image e.there e.one_map e.stable e.same c.run_open.ensures.run

pub returns-in-Ok-clause-ends : goal.returns-in-Ok-clause-ends
returns-in-Ok-clause-ends g c =
    let h = g.H.Host in
    let e = c.in-Ok.ensures in
    let r = c.run_open.result in
    ends_call h.told h.moment h.left_since h.failures c.args.host c.in-Ok.base.host r.host
    (g.I.Source.left c.args.input) (g.I.Source.left r.input) (g.I.Source.failures c.args.input)
    (g.I.Source.failures r.input) r.result e.failures e.untold
    (was_untold (h.told c.args.host) (h.told c.in-Ok.base.host) FindsSame e.same) c.run_open.ensures.opened
    c.run_open.ensures.ends

pub returns-in-Err-clause-crash : goal.returns-in-Err-clause-crash
returns-in-Err-clause-crash g c =
    let h = g.H.Host in
    let e = c.in-Err.ensures in
    crash_refused h.told h.moment h.left_since c.args.host c.in-Err.returned c.into.result c.into.ensures e.any_moment
    (g.I.Source.left c.args.input)

pub returns-in-Err-clause-unopened : goal.returns-in-Err-clause-unopened
returns-in-Err-clause-unopened g c =
    let h = g.H.Host in
    let e = c.in-Err.ensures in
    unopened_refused h.told h.moment h.left_since c.args.host c.in-Err.returned c.into.result c.into.ensures
    e.any_moment e.same
