use Rattle.std.proofs.Common.{◌∙◌, ℕ, Bor, Err, List, ap}
use Rattle.std.specs.Range.Bound.{bound_map}
use Rattle.std.proofs.lemmas.Result.{err_from_is_err_and}
use Rattle.host_model.proofs.FailureLemmas.{NeverFell-refl}
use Rattle.gds_pack.specs.Entry.{item}
use Rattle.gds_units.specs.State.{image_of}
use Rattle.gds_globals.proofs.EndingLemmas.{passed_on, read_last}
use Rattle.gds_globals.proofs.LookingLemmas.{none_from, odd_from, ones_from}
use Rattle.gds_globals.proofs.looking.first_under.Goals as goal

pub returns-in_err-next-clause-ends : goal.returns-in_err-next-clause-ends
returns-in_err-next-clause-ends g c =
    let h = g.H.Host in
    let exit = err_from_is_err_and c.from_residual.result c.from_residual.ensures.1 in
    passed_on _ _ (h.failures c.args.base.now.host) (h.failures c.args.base.now.host)
    (h.failures c.next.new.base.host) _ _ (NeverFell-refl (h.failures c.args.base.now.host))
    (λ none image is v has nodes. none image is v has) c.next.result c.from_residual.result c.in_err-next.field-0.0
    c.next.ensures.ends c.in_err-next.was (exit.1 ∙ ap Err exit.2)

pub returns-then-not-branch-clause-first : goal.returns-then-not-branch-clause-first
returns-then-not-branch-clause-first g c =
    let from = bound_map (λ (key : Bor (List ℕ)). key.now) c.args.from in
    none_from (image_of c.args.base.now) c.args.draft.now c.args.root from c.args.front.now c.in_ok-next.field-0
    (item c.next.new.entry) c.in_ok-next.ensures.next c.if-not-branch.true

pub returns-clause-first : goal.returns-clause-first
returns-clause-first g c =
    let from = bound_map (λ (key : Bor (List ℕ)). key.now) c.args.from in
    ones_from (image_of c.args.base.now) c.args.draft.now c.args.root from c.args.front.now c.in_ok-next.field-0
    (item c.next.new.entry) c.in_ok-next.ensures.next c.if-not-branch.false c.deref.result.now c.deref.ensures.0
    c.node_under.result c.node_under.ensures.some c.node_under.ensures.none

pub returns-clause-ends : goal.returns-clause-ends
returns-clause-ends g c =
    let from = bound_map (λ (key : Bor (List ℕ)). key.now) c.args.from in
    let h = g.H.Host in
    let now = h.failures c.next.new.base.host in
    read_last (h.failures c.args.base.now.host) now now _ _ c.next.ensures.read.read.failures
    (odd_from (image_of c.args.base.now) c.args.draft.now c.args.root from c.args.front.now c.in_ok-next.field-0
    (item c.next.new.entry) c.in_ok-next.ensures.next c.if-not-branch.false c.deref.result.now c.deref.ensures.0)
    c.node_under.result (c.node_under.ensures.ends now now)
