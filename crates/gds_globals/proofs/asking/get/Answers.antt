use Rattle.std.proofs.Common.{◌≤◌, ◌∙◌, List, ℕ, Err, ap, length, subst, sym}
use Rattle.std.specs.Prelude.{option_map}
use Rattle.std.proofs.lemmas.Result.{IfOk-weaker, err_from_is_err_and}
use Rattle.host_model.proofs.FailureLemmas.{NeverFell-refl}
use Rattle.gds_units.specs.State.{image_of}
use Rattle.m_key.specs.Reference.{place_of}
use Rattle.gds_globals.proofs.AskLemmas.{Directory, empty_of, never_changed, never_without}
use Rattle.gds_globals.proofs.AskLemmas.{no_node, node_there}
use Rattle.gds_globals.proofs.EndingLemmas.{asked, asked_last}
use Rattle.gds_globals.proofs.asking.get.Goals as goal

pub returns-in_err-root-clause-ends : goal.returns-in_err-root-clause-ends
returns-in_err-root-clause-ends g c =
    let h = g.H.Host in
    let told = image_of c.args.base.now in
    let empty = empty_of told c.draft-draft.result c.args.base.now.header c.draft-draft.ensures.header
    c.draft-draft.ensures.none c.header.ensures.fields c.hold_draft.ensures in
    let exit = err_from_is_err_and c.from_residual-in_err-root.result c.from_residual-in_err-root.ensures.1 in
    let before = h.failures c.args.base.now.host in
    asked _ _ before before (h.failures c.root_of.new.base.host) _ _ (NeverFell-refl before)
    (never_changed told c.draft-draft.result empty c.header.ensures.faultless (place_of c.args.reference.now))
    c.root_of.result c.from_residual-in_err-root.result c.in_err-root.field-0.0 c.root_of.ensures.ends c.in_err-root.was
    (exit.1 ∙ ap Err exit.2)

pub returns-in_default-clause-value : goal.returns-in_default-clause-value
returns-in_default-clause-value g c =
    let told = image_of c.args.base.now in
    let empty = empty_of told c.draft-draft.result c.args.base.now.header c.draft-draft.ensures.header
    c.draft-draft.ensures.none c.header.ensures.fields c.hold_draft.ensures in
    let p = place_of c.args.reference.now in
    no_node told c.draft-draft.result empty c.header.ensures.faultless p
    (subst (Directory told c.draft-draft.result empty c.header.ensures.faultless p) c.in_default.is
    c.in_ok-root.ensures.root)

pub returns-clause-value : goal.returns-clause-value
returns-clause-value g c =
    let told = image_of c.args.base.now in
    let empty = empty_of told c.draft-draft.result c.args.base.now.header c.draft-draft.ensures.header
    c.draft-draft.ensures.none c.header.ensures.fields c.hold_draft.ensures in
    let p = place_of c.args.reference.now in
    let faultless = c.header.ensures.faultless in
    let same = ap image_of c.root_of.ensures.read.rest in
    IfOk-weaker c.value_of.result _ _
    (λ value h.
    node_there told c.draft-draft.result empty faultless p c.in-Some.root
    (subst (Directory told c.draft-draft.result empty faultless p) c.in-Some.is c.in_ok-root.ensures.root)
    c.deref.result.now (c.deref.ensures.0 ∙ c.in_ok-key.ensures.key)
    (subst (λ (k : List ℕ). length k ≤ 255) (sym c.deref.ensures.0) c.in_ok-key.ensures.short)
    (option_map (λ v. v.items) value) (λ image is. h image (same ∙ is))) c.value_of.ensures.value

pub returns-clause-ends : goal.returns-clause-ends
returns-clause-ends g c =
    let h = g.H.Host in
    let told = image_of c.args.base.now in
    let empty = empty_of told c.draft-draft.result c.args.base.now.header c.draft-draft.ensures.header
    c.draft-draft.ensures.none c.header.ensures.fields c.hold_draft.ensures in
    let p = place_of c.args.reference.now in
    let faultless = c.header.ensures.faultless in
    let same = ap image_of c.root_of.ensures.read.rest in
    asked_last (h.failures c.args.base.now.host) (h.failures c.root_of.new.base.host)
    (h.failures c.value_of.new.base.host) _ _ c.root_of.ensures.read.read.failures
    (λ none.
    never_without told c.draft-draft.result empty faultless p c.in-Some.root
    (subst (Directory told c.draft-draft.result empty faultless p) c.in-Some.is c.in_ok-root.ensures.root)
    c.deref.result.now (c.deref.ensures.0 ∙ c.in_ok-key.ensures.key)
    (subst (λ (k : List ℕ). length k ≤ 255) (sym c.deref.ensures.0) c.in_ok-key.ensures.short)
    (λ image is. none image (same ∙ is))) c.value_of.result c.value_of.ensures.ends
